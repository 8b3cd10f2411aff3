-- After each store that the mutator's part permits, and after a load, the part is that of a run.
use Rattle.std.proofs.Common.{◌≡◌, ℕ, ◌∷◌, refl, sym, ap, ◌∙◌, subst}
use Rattle.ps_core_machine.specs.declared.events.Event.{Event}
use Rattle.ps_core_machine.specs.declared.events.Event.TheVariants.{VmLoad, GcLoad, TakeLoad, CopyLoad, HandOver}
use Rattle.ps_core_machine.specs.declared.events.Event.TheVariants.{ClearLoad, ClearStore, HeaderStore, FieldStore}
use Rattle.ps_core_machine.specs.declared.events.Event.TheVariants.{RecordStore, EpochStore, ReplicaHeaderStore}
use Rattle.ps_core_machine.specs.declared.events.Event.TheVariants.{ReplicaFieldStore, ForwardStore, HeadStore}
use Rattle.ps_core_machine.specs.declared.events.Event.TheVariants.{CycleStore}
use Rattle.ps_core_machine.specs.declared.events.Vm.{Vm}
use Rattle.ps_core_machine.specs.declared.events.Gc.{Gc}
use Rattle.ps_core_machine.specs.Steps.{State, vm_after}
use Rattle.ps_core_machine.specs.Conditions.{Permitted, VmMay}
use Rattle.ps_core_laws.specs.Runs.{run, IsRun}
use Rattle.ps_core_laws.proofs.Closes.{stored_only}
use Rattle.ps_core_laws.specs.Shown.{VmRuns}
use Rattle.ps_core_laws.specs.MemoryLaws.{StoresGoOn, LoadsGoOn}

module _ (v : Vm) (r : VmRuns v) where
  -- a run longer by the event
  on : (e : Event) (g : Gc) → Permitted (run v.space r.events) e
      → (vm_after v (run v.space r.events).gc e).space ≡ v.space
      → vm_after v (run v.space r.events).gc e ≡ vm_after v g e → VmRuns (vm_after v g e)
  on e g p space same =
      let s : State = run v.space r.events in
      let is : (run v.space (e ∷ r.events)).vm ≡ vm_after v g e =
      ap (λ (x : Vm). vm_after x s.gc e) r.is ∙ same in
      let there : (vm_after v g e).space ≡ v.space = ap (λ (x : Vm). x.space) (sym same) ∙ space in
      record {
        size = subst Rattle.ps_core_laws.specs.Runs.IsSpace (sym there) r.size;
        events = e ∷ r.events;
        is_run = subst (λ (n : ℕ). IsRun n (e ∷ r.events)) (sym there) (r.is_run, p);
        is = subst (λ (n : ℕ). (run n (e ∷ r.events)).vm ≡ vm_after v g e) (sym there) is;
      }

  may : (e : Event) → VmMay v e → VmMay (run v.space r.events).vm e
  may e p = subst (λ (x : Vm). VmMay x e) (sym r.is) p

  pub goes_on : StoresGoOn v
  goes_on g ClearStore own p =
      on ClearStore g (record { vm = may ClearStore p; gc = tt; both = tt }) refl refl
  goes_on g (HeaderStore header) own p =
      on (HeaderStore header) g (record { vm = may (HeaderStore header) p; gc = tt; both = tt })
      refl refl
  goes_on g (FieldStore a i w) own p =
      on (FieldStore a i w) g (record { vm = may (FieldStore a i w) p; gc = tt; both = tt })
      (ap (λ (x : Vm). x.space) (stored_only v a i w)) refl
  goes_on g (RecordStore slot rec) own p =
      on (RecordStore slot rec) g (record { vm = may (RecordStore slot rec) p; gc = tt; both = tt })
      refl refl
  goes_on g EpochStore own p =
      on EpochStore g (record { vm = may EpochStore p; gc = tt; both = tt }) refl refl
  goes_on g (VmLoad place word) own p = absurd own
  goes_on g ClearLoad own p = absurd own
  goes_on g (GcLoad place word) own p = absurd own
  goes_on g (TakeLoad slot word) own p = absurd own
  goes_on g (CopyLoad a i word) own p = absurd own
  goes_on g (HandOver word roots) own p = absurd own
  goes_on g (ReplicaHeaderStore place w) own p = absurd own
  goes_on g (ReplicaFieldStore scans) own p = absurd own
  goes_on g (ForwardStore a c) own p = absurd own
  goes_on g HeadStore own p = absurd own
  goes_on g (CycleStore roots) own p = absurd own

pub loads_go_on : (v : Vm) → LoadsGoOn v
loads_go_on v g place word inside f =
    let r : VmRuns v = record { size = f.size; events = f.events; is_run = f.is_run; is = f.is } in
    on v r (VmLoad place word) g
    (record { vm = may v r (VmLoad place word) inside; gc = tt; both = f.found }) refl refl

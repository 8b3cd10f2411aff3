-- From a close to the flip of its cycle a log gets nothing.
use Rattle.std.proofs.Common.{◌≡◌, ◌≢◌, ℕ, ◌+◌, ◌≤◌, true, List, [], ◌∷◌, ◌++◌, refl, sym, ap, ◌∙◌, inl, inr, subst}
use Rattle.std.proofs.Common.{arith, Some}
use Rattle.std.specs.Prelude.{if◌then◌else◌}
use native.Mathlib.Decide.{ℕ_discrete}
use Rattle.ps_core_machine.specs.declared.events.Event.{Event}
use Rattle.ps_core_machine.specs.declared.events.Event.TheVariants.{VmLoad, GcLoad, TakeLoad, CopyLoad, HandOver}
use Rattle.ps_core_machine.specs.declared.events.Event.TheVariants.{ClearLoad, ClearStore, HeaderStore, FieldStore}
use Rattle.ps_core_machine.specs.declared.events.Event.TheVariants.{RecordStore, EpochStore, ReplicaHeaderStore}
use Rattle.ps_core_machine.specs.declared.events.Event.TheVariants.{ReplicaFieldStore, ForwardStore, HeadStore}
use Rattle.ps_core_machine.specs.declared.events.Event.TheVariants.{CycleStore}
use Rattle.ps_core_machine.specs.declared.events.Vm.{Vm}
use Rattle.ps_core_machine.specs.Objects.{among, log_of, closes, with_field, widened}
use Rattle.ps_core_machine.specs.Steps.{State, happens, is_open, field_stored}
use Rattle.ps_core_machine.specs.Conditions.{Permitted}
use Rattle.ps_core_laws.specs.Laws.{IsClosed}
use Rattle.ps_core_laws.specs.Runs.{run, IsRun}
use Rattle.ps_core_laws.proofs.HeapTests.{bool_cases, number_is}
use Rattle.ps_core_laws.proofs.Rings.{log_of-other}

-- while the cycle is the same, a closed log stays
pub record Still (slot : ℕ) (old new : Vm) : Type 0 where
  pub grows : old.cycle ≤ new.cycle
  pub log : new.cycle ≡ old.cycle → log_of new.logs slot ≡ log_of old.logs slot
  pub epoch : new.cycle ≡ old.cycle → new.epoch ≡ old.epoch

still_on : (slot : ℕ) (old : State) (now : State) (e : Event) → IsClosed old slot → Still slot old.vm now.vm
    → Permitted now e → Still slot old.vm (happens now e).vm
still_on slot old now (VmLoad place word) c h p = record { grows = h.grows; log = h.log; epoch = h.epoch }
still_on slot old now (GcLoad place word) c h p = h
still_on slot old now (TakeLoad s word) c h p = h
still_on slot old now (CopyLoad a i word) c h p = h
still_on slot old now (HandOver word roots) c h p = record { grows = h.grows; log = h.log; epoch = h.epoch }
still_on slot old now ClearLoad c h p = record { grows = h.grows; log = h.log; epoch = h.epoch }
still_on slot old now ClearStore c h p = record { grows = h.grows; log = h.log; epoch = h.epoch }
still_on slot old now (HeaderStore header) c h p = record { grows = h.grows; log = h.log; epoch = h.epoch }
still_on slot old now (FieldStore a i w) c h p = elim (bool_cases (among now.vm.fresh a)) [
  | inl t ↦
      let is : field_stored now.vm a i w ≡ record now.vm { objects = with_field now.vm.objects a i w; stored = true } =
      rw t refl in
      subst (Still slot old.vm) (sym is) (record { grows = h.grows; log = h.log; epoch = h.epoch })
  | inr f ↦
      let is : field_stored now.vm a i w
      ≡ record now.vm {
        objects = with_field now.vm.objects a i w;
        stored = true;
        fresh = [];
        written = if is_open now.vm then Some (widened now.vm.written a i) else now.vm.written;
      } = rw f refl in
      subst (Still slot old.vm) (sym is) (record { grows = h.grows; log = h.log; epoch = h.epoch })
]
still_on slot old now (RecordStore s r) c h p = record {
  grows = h.grows;
  log = λ e. elim (ℕ_discrete slot s) [
    | yes is ↦
        let log_is : log_of now.vm.logs s ≡ log_of old.vm.logs slot = ap (log_of now.vm.logs) (sym is) ∙ h.log e in
        absurd (p.vm.not_closed (ap closes log_is ∙ (c.1 ∙ sym (h.epoch e))))
    | no ne ↦ log_of-other now.vm.logs s slot (log_of now.vm.logs s ++ r ∷ []) ne ∙ h.log e
  ];
  epoch = h.epoch;
}
still_on slot old now EpochStore c h p =
    let opened : old.vm.epoch ≡ old.vm.cycle + 1 = number_is old.vm.epoch (old.vm.cycle + 1) c.0 in
    let shut : now.vm.epoch ≡ now.vm.cycle = p.vm.0 in
    let differs : now.vm.cycle ≢ old.vm.cycle = λ e. let x = h.epoch e in omega arith in
    record { grows = h.grows; log = λ e. absurd (differs e); epoch = λ e. absurd (differs e) }
still_on slot old now (ReplicaHeaderStore place w) c h p = h
still_on slot old now (ReplicaFieldStore scans) c h p = h
still_on slot old now (ForwardStore a d) c h p = h
still_on slot old now HeadStore c h p = h
still_on slot old now (CycleStore roots) c h p =
    let g = h.grows in
    record { grows = omega arith; log = λ e. absurd (omega arith); epoch = λ e. absurd (omega arith) }

pub still : (space slot : ℕ) (newer older : List Event) → IsRun space (newer ++ older) → IsClosed (run space older) slot
    → Still slot (run space older).vm (run space (newer ++ older)).vm
still space slot [] older h c = record { grows = omega arith; log = λ e. refl; epoch = λ e. refl }
still space slot (e ∷ es) older h c =
    still_on slot (run space older) (run space (es ++ older)) e c (still space slot es older h.0 c) h.1

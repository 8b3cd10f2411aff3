-- Each standing object has a kind, and fewer than 2^16 fields.
use Rattle.std.proofs.Common.{◌≡◌, ◌≢◌, ◌⊎◌, ◌^◌, ℕ, ◌+◌, ◌<◌, ◌≤◌, List, [], ◌∷◌, Some, None, Option, refl, sym, ap}
use Rattle.std.proofs.Common.{◌∙◌, inl, inr, subst, arith, replicate}
use Rattle.ps_core_machine.specs.declared.events.Event.{Event}
use Rattle.ps_core_machine.specs.declared.events.Event.TheVariants.{VmLoad, GcLoad, TakeLoad, CopyLoad, HandOver}
use Rattle.ps_core_machine.specs.declared.events.Event.TheVariants.{ClearLoad, ClearStore, HeaderStore, FieldStore}
use Rattle.ps_core_machine.specs.declared.events.Event.TheVariants.{RecordStore, EpochStore, ReplicaHeaderStore}
use Rattle.ps_core_machine.specs.declared.events.Event.TheVariants.{ReplicaFieldStore, ForwardStore, HeadStore}
use Rattle.ps_core_machine.specs.declared.events.Event.TheVariants.{CycleStore}
use Rattle.ps_core_machine.specs.declared.events.Object.{Object}
use Rattle.ps_core_machine.specs.declared.events.Pair.{Pair}
use Rattle.ps_core_machine.specs.declared.events.Vm.{Vm}
use Rattle.ps_core_machine.specs.Objects.{among, object_at, pair_to, stored, with_field, as_object, replicas}
use Rattle.ps_core_machine.specs.Steps.{State, happens, field_stored}
use Rattle.ps_core_machine.specs.Conditions.{Permitted}
use Rattle.ps_core_laws.specs.Places.{IsHeaded}
use Rattle.ps_core_laws.specs.Runs.{run, IsRun, IsSpace}
use Rattle.ps_core_laws.proofs.HeapTests.{bool_cases, at_number, eq_true}
use Rattle.ps_core_laws.proofs.Bases.{some_match}
use Rattle.ps_core_laws.proofs.Lookups.{object_at-with_field, object_at-replicas, pair_of-to}
use Rattle.ps_core_laws.proofs.Shown.{some_map}
use Rattle.ps_core_laws.proofs.Keeping.{Good, IsMatch}
use Rattle.ps_core_laws.proofs.Kept.{good}

abbrev pub AreHeaded : List Object → Type 0
AreHeaded objects = (a : ℕ) (o : Object) → object_at objects a ≡ Some o → IsHeaded o.header

pub stored_header : (a i w : ℕ) (o : Object) → (stored a i w o).header ≡ o.header
stored_header a i w o = elim (bool_cases (Rattle.std.proofs.Common.nat_eq a o.address))
    [ inl t ↦ rw t refl | inr f ↦ rw f refl ]

pub stored_objects : (v : Vm) (a i w : ℕ)
    → (field_stored v a i w).objects ≡ with_field v.objects a i w
stored_objects v a i w = elim (bool_cases (among v.fresh a))
    [ inl t ↦ rw t refl | inr f ↦ rw f refl ]

module _ (space : ℕ) (s : State) (h : Good space s) (k : AreHeaded s.vm.objects) where
  makes : (header : ℕ) → Permitted s (HeaderStore header)
      → AreHeaded (happens s (HeaderStore header)).vm.objects
  makes header p b o e = elim (at_number s.vm.end b) [
    | inl is ↦ let e' = rw (eq_true b s.vm.end is) at e in
        let same : header ≡ o.header = cc in
        subst IsHeaded same (record { low = p.vm.kind.0; high = p.vm.kind.1; fields = p.vm.fields })
    | inr ne ↦ let e' = rw ne at e in k b o e'
  ]

  stores : (a i w : ℕ) → AreHeaded (with_field s.vm.objects a i w)
  stores a i w b o e =
      let m = some_map (stored a i w) (object_at s.vm.objects b) o
      (sym (object_at-with_field s.vm.objects a i w b) ∙ e) in
      subst IsHeaded (sym (stored_header a i w m.0) ∙ ap (λ (x : Object). x.header) m.2)
      (k b m.0 m.1)

  flips : AreHeaded (replicas s.gc.pairs)
  flips b o e =
      let m = some_map as_object (pair_to s.gc.pairs b) o
      (sym (object_at-replicas s.gc.pairs b) ∙ e) in
      let p : Pair = m.0 in
      let at = pair_of-to s.gc.pairs b p h.single m.1 in
      let f = some_match (IsMatch p) (object_at s.vm.objects p.original)
      (h.matches p.original p at) in
      subst IsHeaded (f.2.header ∙ ap (λ (x : Object). x.header) m.2) (k p.original f.0 f.1)

  pub headed_keeps : (e : Event) → Permitted s e → AreHeaded (happens s e).vm.objects
  headed_keeps (VmLoad place word) p = k
  headed_keeps (GcLoad place word) p = k
  headed_keeps (TakeLoad slot word) p = k
  headed_keeps (CopyLoad a i word) p = k
  headed_keeps (HandOver word roots) p = k
  headed_keeps ClearLoad p = k
  headed_keeps ClearStore p = k
  headed_keeps (HeaderStore header) p = makes header p
  headed_keeps (FieldStore a i w) p =
      subst AreHeaded (sym (stored_objects s.vm a i w)) (stores a i w)
  headed_keeps (RecordStore slot r) p = k
  headed_keeps EpochStore p = k
  headed_keeps (ReplicaHeaderStore place w) p = k
  headed_keeps (ReplicaFieldStore scans) p = k
  headed_keeps (ForwardStore a c) p = k
  headed_keeps HeadStore p = k
  headed_keeps (CycleStore roots) p = flips

pub headed : (space : ℕ) → IsSpace space → (events : List Event) → IsRun space events
    → AreHeaded (run space events).vm.objects
headed space size [] h = λ a o e. absurd (cc)
headed space size (e ∷ es) h =
    headed_keeps space (run space es) (good space size es h.0) (headed space size es h.0) e h.1

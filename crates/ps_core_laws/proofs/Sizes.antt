-- The numbers of a state are small, so the machine's sums don't wrap.
use Rattle.std.proofs.Common.{◌≡◌, ℕ, ◌+◌, ◌^◌, ◌<◌, true, false, Some, None, Option, refl, sym, inl, inr, subst, arith}
use Rattle.std.proofs.Common.{is_some}
use native.Mathlib.Decide.{ℕ_discrete}
use Rattle.ps_core_machine.specs.declared.events.Event.{Event}
use Rattle.ps_core_machine.specs.declared.events.Event.TheVariants.{VmLoad, GcLoad, TakeLoad, CopyLoad, HandOver}
use Rattle.ps_core_machine.specs.declared.events.Event.TheVariants.{ClearLoad, ClearStore, HeaderStore, FieldStore}
use Rattle.ps_core_machine.specs.declared.events.Event.TheVariants.{RecordStore, EpochStore, ReplicaHeaderStore}
use Rattle.ps_core_machine.specs.declared.events.Event.TheVariants.{ReplicaFieldStore, ForwardStore, HeadStore}
use Rattle.ps_core_machine.specs.declared.events.Event.TheVariants.{CycleStore}
use Rattle.ps_core_machine.specs.declared.events.Object.{Object}
use Rattle.ps_core_machine.specs.declared.events.Half.{Half}
use Rattle.ps_core_machine.specs.Objects.{object_at, seen_at, end_of_replicas}
use Rattle.ps_core_machine.specs.Steps.{State, other_base}
use Rattle.ps_core_machine.specs.Conditions.{Permitted, HasField, IsReady}
use Rattle.ps_core_machine.specs.Bounds.{Bounded, CanStep, HasSlot}
use Rattle.ps_core_laws.specs.Runs.{IsSpace}
use Rattle.ps_core_laws.proofs.Bases.{spaces_wide, some_match}
use Rattle.ps_core_laws.proofs.Lookups.{object_at-address, end_of_replicas-high}
use Rattle.ps_core_laws.proofs.Keeping.{Good}
use Rattle.ps_core_laws.proofs.Replicating.{replicas_low}
use Rattle.ps_core_laws.proofs.Spaced.{SpacedOf}

module _ (space : ℕ) (size : IsSpace space) (s : State) (h : Good space s) where
  cycle_small : s.vm.cycle < 2 ^ 33
  cycle_small = let m = h.counted.small in
      elim h.counted.epochs as (λ _. s.vm.cycle < 2 ^ 33)
      [ inl e ↦ omega arith | inr e ↦ omega arith ]

  making_small : s.vm.making < 2 ^ 32
  making_small = elim (ℕ_discrete s.vm.making 0) [
    | yes e ↦ omega arith
    | no ne ↦ let c = (h.current.cleared s.vm.making (omega arith) (omega arith)).0 in let w =
        (spaces_wide space s.vm.cycle).0 in let m = size.1 in omega arith
  ]

  pub bounded : SpacedOf s → Bounded s
  bounded d =
      let w = (spaces_wide space s.vm.cycle).0 in
      let m = size.1 in
      let e = h.current.end_high in
      let vm_space = h.counted.vm_space_is in
      let gc_space = h.counted.gc_space_is in
      let small = h.counted.small in
      let cycle = cycle_small in
      let same = h.counted.cycles in
      let seen = h.counted.epoch_seen in
      let births = h.births in
      record {
        vm = record {
          space = omega arith;
          cycle = cycle;
          epoch = omega arith;
          making =
              making_small;
          end = omega arith;
          next_birth = omega arith;
          written = h.counted.range;
        };
        gc = record {
          space = omega arith;
          cycle = omega arith;
          epoch = omega arith;
          low =
              replicas_low space s h size;
          end = ends;
          last = d.last;
        };
      }
    where
      ends : end_of_replicas (other_base s.gc.space s.gc.cycle) s.gc.pairs < 2 ^ 32
      ends =
          let w = (spaces_wide space s.vm.cycle).1 in
          let m = size.1 in
          let top = end_of_replicas-high s.gc.pairs (other_base space s.vm.cycle)
          (other_base space s.vm.cycle + space) h.single (omega arith)
          (λ c q e. (h.other.within c q e).1) in
          let small : end_of_replicas (other_base space s.vm.cycle) s.gc.pairs < 2 ^ 32 =
          omega arith in
          subst (λ (z : ℕ). end_of_replicas (other_base z s.gc.cycle) s.gc.pairs < 2 ^ 32)
          (sym h.counted.gc_space_is)
          (subst (λ (z : ℕ). end_of_replicas (other_base space z) s.gc.pairs < 2 ^ 32)
          h.counted.cycles small)

  field_small : (x : Option Object) (a i w : ℕ) → object_at s.vm.objects a ≡ x → HasField s.vm x i w
      → i < 2 ^ 20
  field_small None a i w at has = absurd has
  field_small (Some o) a i w at has = let n = h.current.sized a o at in let lt = has.0 in
      omega arith

  slot_of : (x : Option Half) → s.gc.taking ≡ x → HasSlot s.gc x
  slot_of None e = tt
  slot_of (Some q) e = let t = (h.logs.takes q e).in_range in let w = h.logs.wide_taken in
      (t, omega arith)

  known_small : (a : ℕ) → is_some (object_at s.vm.objects a) ≡ true → a < 2 ^ 32
  known_small a st = go (object_at s.vm.objects a) refl st
    where
      go : (x : Option Object) → object_at s.vm.objects a ≡ x → is_some x ≡ true → a < 2 ^ 32
      go None e st = absurd (let b : false ≡ true = st in cc)
      go (Some o) e st =
          let hi = (h.current.within a o e).1 in
          let at = object_at-address s.vm.objects a o e in
          let eh = h.current.end_high in
          let w = (spaces_wide space s.vm.cycle).0 in
          let m = size.1 in
          omega arith

  pub can_step : (e : Event) → Permitted s e → CanStep s e
  can_step (VmLoad place word) p = tt
  can_step (GcLoad place word) p = tt
  can_step (TakeLoad slot word) p = tt
  can_step (CopyLoad a i word) p = tt
  can_step (HandOver word roots) p = tt
  can_step ClearLoad p = tt
  can_step ClearStore p = tt
  can_step (HeaderStore header) p = tt
  can_step (FieldStore a i w) p = field_small (object_at s.vm.objects a) a i w refl p.vm.0
  can_step (RecordStore slot r) p = let a = p.vm.in_range in let b = h.logs.wide_logs in omega arith
  can_step EpochStore p = tt
  can_step (ReplicaHeaderStore place w) p = tt
  can_step (ReplicaFieldStore scans) p = tt
  can_step (ForwardStore a c) p =
      let m = some_match (IsReady s.gc a c) (seen_at s.gc.headers a) p.gc.headed in
      let high = m.2.high in
      let w = (spaces_wide s.gc.space s.gc.cycle).1 in
      let same = h.counted.gc_space_is in
      let small = size.1 in
      (known_small a (h.heap.known a p.gc.known).0, omega arith)
  can_step HeadStore p = slot_of s.gc.taking refl
  can_step (CycleStore roots) p =
      let w = (spaces_wide space s.vm.cycle).1 in
      let m = size.1 in
      let top = end_of_replicas-high s.gc.pairs (other_base space s.vm.cycle)
      (other_base space s.vm.cycle + space) h.single (omega arith)
      (λ c q e. (h.other.within c q e).1) in
      subst (λ (z : ℕ). end_of_replicas (other_base z s.vm.cycle) s.gc.pairs < 2 ^ 64)
      (sym h.counted.vm_space_is) (omega arith)

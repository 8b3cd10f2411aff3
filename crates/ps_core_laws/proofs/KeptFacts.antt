-- What the seats know of their parts, and what ties them, from what every run keeps.
use Rattle.std.proofs.Common.{◌≡◌, ◌⊎◌, ℕ, ◌+◌, ◌<◌, ◌≤◌, true, false, List, length, Some, None, Option, refl, sym, ap}
use Rattle.std.proofs.Common.{◌∙◌, inl, inr, subst, arith, is_some, length-append}
use Rattle.ps_core_machine.specs.declared.events.Event.{Event}
use Rattle.ps_core_machine.specs.declared.events.Object.{Object}
use Rattle.ps_core_machine.specs.declared.events.Pair.{Pair}
use Rattle.ps_core_machine.specs.Objects.{among, object_at, pair_of, pair_to, log_of}
use Rattle.ps_core_machine.specs.Steps.{State, space_base, other_base, forwarding}
use Rattle.ps_core_laws.specs.Kept.{CycleKept, LogsKept, VmKnows, KnownLie, HeadersKept, TakingKept, CopyingKept}
use Rattle.ps_core_laws.specs.Kept.{GcKnows, KnownStand, PartsMeet, Kept}
use Rattle.ps_core_laws.specs.Places.{IsHeaded, ObjectsLie, ObjectsApart, ReplicasLie, ReplicasApart}
use Rattle.ps_core_laws.specs.Runs.{run, IsRun, IsSpace}
use Rattle.ps_core_laws.proofs.Bases.{some_match, match_some}
use Rattle.ps_core_laws.proofs.Lookups.{object_at-address, pair_to-of, pair_of-original}
use Rattle.ps_core_laws.proofs.Headed.{AreHeaded, headed}
use Rattle.ps_core_laws.proofs.Seconds.{SecondsOf, seconds}
use Rattle.ps_core_laws.proofs.Closes.{ClosesOf, closes_kept}
use Rattle.ps_core_laws.proofs.Spaced.{SpacedOf, spaced}
use Rattle.ps_core_laws.proofs.Births.{BirthsOf, births_kept}
use Rattle.ps_core_laws.proofs.Keeping.{Good, HasHeader}
use Rattle.ps_core_laws.proofs.Kept.{good}
use Rattle.ps_core_laws.proofs.Replicating.{carried_pair}

module _ (space : ℕ) (size : IsSpace space) (s : State) (h : Good space s) where
  base_is : space_base s.vm.space s.vm.cycle ≡ space_base space s.vm.cycle
  base_is = ap (λ (z : ℕ). space_base z s.vm.cycle) h.counted.vm_space_is

  gc_base_is : space_base s.gc.space s.gc.cycle ≡ space_base space s.vm.cycle
  gc_base_is = ap (λ (z : ℕ). space_base z s.gc.cycle) h.counted.gc_space_is
      ∙ ap (λ (z : ℕ). space_base space z) (sym h.counted.cycles)

  other_is : other_base s.gc.space s.gc.cycle ≡ other_base space s.vm.cycle
  other_is = ap (λ (z : ℕ). other_base z s.gc.cycle) h.counted.gc_space_is
      ∙ ap (λ (z : ℕ). other_base space z) (sym h.counted.cycles)

  vm_cycles : CycleKept s.vm.cycle s.vm.epoch
  vm_cycles = record {
    low = elim h.counted.epochs as (λ _. s.vm.cycle ≤ s.vm.epoch)
        [ inl e ↦ omega arith | inr e ↦ omega arith ];
    high = elim h.counted.epochs as (λ _. s.vm.epoch ≤ s.vm.cycle + 1)
        [ inl e ↦ omega arith | inr e ↦ omega arith ];
    small = h.counted.small;
  }

  gc_cycles : ClosesOf s → CycleKept s.gc.cycle s.gc.epoch
  gc_cycles k = let v = vm_cycles in let high = v.high in let small = v.small in let seen =
      h.counted.epoch_seen in let c = h.counted.cycles in
      record { low = k.seen; high = omega arith; small = omega arith }

  objects_lie : AreHeaded s.vm.objects → ObjectsLie s.vm
  objects_lie kinds a o e =
      let w = h.current.within a o e in let lo = w.0 in let hi = w.1 in
      let at = object_at-address s.vm.objects a o e in
      let base = base_is in
      record {
        low = omega arith;
        high = omega arith;
        count = h.current.sized a o e;
        headed =
            kinds a o e;
      }

  objects_apart : ObjectsApart s.vm.objects
  objects_apart a b o p e f ne =
      let x = object_at-address s.vm.objects a o e in let y =
      object_at-address s.vm.objects b p f in
      elim (h.current.apart a b o p e f ne) as
      (λ _. (a + 2 + length o.fields ≤ b) ⊎ (b + 2 + length p.fields ≤ a))
      [ inl z ↦ inl (omega arith) | inr z ↦ inr (omega arith) ]

  replicas_lie : ReplicasLie s.gc
  replicas_lie a p e =
      let at = pair_to-of s.gc.pairs a p h.single e in
      let w = h.other.within p.replica p at in let z = h.other.sized p.replica p at in
      let lo = w.0 in let hi = w.1 in let other = other_is in let same = h.counted.gc_space_is in
      record { low = omega arith; high = omega arith; count = z.0; filled = z.1 }

  replicas_apart : ReplicasApart s.gc.pairs
  replicas_apart a b p q e f ne =
      let x = pair_to-of s.gc.pairs a p h.single e in let y =
      pair_to-of s.gc.pairs b q h.single f in
      h.other.apart p.replica q.replica p q x y (λ same. ne (
      let z : Some p ≡ Some q = sym x ∙ (ap (pair_to s.gc.pairs) same ∙ y) in
      let is : p ≡ q = cc in
      sym (pair_of-original s.gc.pairs a p e)
      ∙ (ap (λ (w : Pair). w.original) is ∙ pair_of-original s.gc.pairs b q f)))

  logs_kept : ClosesOf s → LogsKept s.vm
  logs_kept k = record {
    heads = h.logs.wide_heads;
    logs = h.logs.wide_logs;
    each = λ slot lt. record {
      seen = let seen = h.logs.seen slot lt in let begins = h.logs.begins slot lt in let e =
          ap length begins.1 in let l = length-append (log_of s.gc.taken slot) begins.0 in
          omega arith;
      room = h.logs.room slot lt;
      short = let short = k.short slot lt in let high = k.high slot lt in omega arith;
      shut = k.shut slot lt;
      flipped = k.low slot lt;
      opened = k.high slot lt;
      records = λ n r e. h.logs.fits slot n r lt e;
    };
  }

  making_kept : 0 < s.vm.making
      → s.vm.end + s.vm.making < space_base s.vm.space s.vm.cycle + s.vm.space
  making_kept some =
      let last = (h.current.cleared s.vm.making (omega arith) (omega arith)).0 in
      let base = base_is in let same = h.counted.vm_space_is in
      omega arith

  vm_knows : AreHeaded s.vm.objects → ClosesOf s → SpacedOf s → BirthsOf s → VmKnows s.vm
  vm_knows kinds k d b = record {
    size = subst IsSpace (sym h.counted.vm_space_is) size;
    cycles = vm_cycles;
    births = record { given = b.given; single = b.single; limit = h.births };
    logs = logs_kept k;
    lie = objects_lie kinds;
    apart = objects_apart;
    distinct = d.distinct;
    tight = d.tight;
    whole = let e = h.current.end_high in let base = base_is in let same = h.counted.vm_space_is in
        omega arith;
    making = making_kept;
    quiet = h.counted.quiet;
  }

  -- what was named in this cycle is found
  known_found : (a : ℕ) → among s.gc.known a ≡ true → (o : Object)
      × (object_at s.vm.objects a ≡ Some o)
  known_found a is = go (object_at s.vm.objects a) refl (h.heap.known a is).0
    where
      go : (x : Option Object) → object_at s.vm.objects a ≡ x → is_some x ≡ true → (o : Object)
          × (object_at s.vm.objects a ≡ Some o)
      go None e st = absurd (let b : false ≡ true = st in cc)
      go (Some o) e st = (o, e)

  known_lie : KnownLie s.gc
  known_lie a is =
      let f = known_found a is in
      let w = h.current.within a f.0 f.1 in let lo = w.0 in let hi = w.1 in
      let at = object_at-address s.vm.objects a f.0 f.1 in
      let top = h.current.end_high in let base = gc_base_is in let same = h.counted.gc_space_is in
      (omega arith, omega arith)

  known_stand : KnownStand s
  known_stand a is = let f = known_found a is in
      ((λ none. let bad : Some f.0 ≡ None = sym f.1 ∙ none in cc), (h.heap.known a is).1)

  headers_kept : AreHeaded s.vm.objects → HeadersKept s.gc
  headers_kept kinds a header e =
      let f = some_match (HasHeader header) (object_at s.vm.objects a) (h.headers a header e) in
      subst IsHeaded f.2 (kinds a f.0 f.1)

  taking_kept : TakingKept s.gc
  taking_kept q e = let t = h.logs.takes q e in (
    t.in_range,
    h.logs.fits q.slot (length (log_of s.gc.taken q.slot)) q.what t.in_range
        t.is_next,
  )

  copying_kept : CopyingKept s.gc
  copying_kept k e = let m = carried_pair space s h k e in
      match_some (λ (p : Pair). k.field < length p.fields) (pair_of s.gc.pairs k.address) m.0 m.1
      m.2

  gc_knows : AreHeaded s.vm.objects → ClosesOf s → SpacedOf s → GcKnows s.gc
  gc_knows kinds k d = record {
    size = subst IsSpace (sym h.counted.gc_space_is) size;
    cycles = gc_cycles k;
    taken = h.logs.wide_taken;
    taking = taking_kept;
    copying = copying_kept;
    known = known_lie;
    headers = headers_kept kinds;
    lie = replicas_lie;
    apart = replicas_apart;
    tight = d.copies;
  }

  parts_meet : SecondsOf s → PartsMeet s
  parts_meet k = record {
    space = h.counted.gc_space_is ∙ sym h.counted.vm_space_is;
    cycle = sym h.counted.cycles;
    epoch = h.counted.epoch_seen;
    heads = h.logs.seen;
    next = λ q e. (h.logs.takes q e).is_next;
    unwritten = h.rings.unwritten;
    known = known_stand;
    headers = h.headers;
    back = λ a p e. k.back p.replica p (pair_to-of s.gc.pairs a p h.single e)
        ∙ ap (λ (z : ℕ). forwarding s.vm.epoch z) (pair_of-original s.gc.pairs a p e);
  }

pub kept : (space : ℕ) → IsSpace space → (events : List Event) → IsRun space events
    → Kept (run space events)
kept space size events run_is =
    let s : State = run space events in
    let h = good space size events run_is in
    let kinds = headed space size events run_is in
    let k = closes_kept space size events run_is in
    let d = spaced space size events run_is in
    record {
      mutator = vm_knows space size s h kinds k d (births_kept space size events run_is);
      collector = gc_knows space size s h kinds k d;
      both = parts_meet space size s h (seconds space size events run_is);
    }

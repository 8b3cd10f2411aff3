-- What stands lies without gaps, each object once; and so do the replicas.
use Rattle.std.proofs.Common.{◌≡◌, ℕ, ◌+◌, Bool, nat_eq, List, [], ◌∷◌, Some, None, Option, refl, sym, ap, ◌∙◌, inl}
use Rattle.std.proofs.Common.{inr, subst, arith, length-set}
use Rattle.std.specs.Prelude.{unwrap_or, replicate}
use Rattle.std.specs.List.{sum_by}
use Rattle.std.specs.Option.{option_map}
use Rattle.std.proofs.lemmas.List.{length-replicate}
use Rattle.std.proofs.lemmas.List.Sums.{sum_by-cons}
use Rattle.ps_word.specs.Headers.{fields_in}
use Rattle.ps_core_machine.specs.declared.events.Event.{Event}
use Rattle.ps_core_machine.specs.declared.events.Event.TheVariants.{VmLoad, GcLoad, TakeLoad, CopyLoad, HandOver}
use Rattle.ps_core_machine.specs.declared.events.Event.TheVariants.{ClearLoad, ClearStore, HeaderStore, FieldStore}
use Rattle.ps_core_machine.specs.declared.events.Event.TheVariants.{RecordStore, EpochStore, ReplicaHeaderStore}
use Rattle.ps_core_machine.specs.declared.events.Event.TheVariants.{ReplicaFieldStore, ForwardStore, HeadStore}
use Rattle.ps_core_machine.specs.declared.events.Event.TheVariants.{CycleStore}
use Rattle.ps_core_machine.specs.declared.events.Object.{Object}
use Rattle.ps_core_machine.specs.declared.events.Pair.{Pair}
use Rattle.ps_core_machine.specs.declared.events.Carried.{Carried}
use Rattle.ps_core_machine.specs.declared.events.Vm.{Vm}
use Rattle.ps_core_machine.specs.declared.events.Gc.{Gc}
use Rattle.ps_core_machine.specs.Objects.{object_at, seen_at, stored, with_field, copied_to, with_copy, end_of}
use Rattle.ps_core_machine.specs.Objects.{end_of_last, end_of_replicas, as_object, replicas}
use Rattle.ps_core_machine.specs.Steps.{State, happens, space_base, other_base, copied, new_pair, word_stored}
use Rattle.ps_core_machine.specs.Conditions.{Permitted, IsReady}
use Rattle.ps_core_laws.specs.Laws.{AreSingle}
use Rattle.ps_core_laws.specs.Places.{AreDistinct, size_of}
use Rattle.ps_core_laws.specs.Runs.{run, IsRun, IsSpace}
use Rattle.ps_core_laws.proofs.HeapTests.{bool_cases}
use Rattle.ps_core_laws.proofs.Bases.{some_match}
use Rattle.ps_core_laws.proofs.Lookups.{object_at-with_field, object_at-replicas}
use Rattle.ps_core_laws.proofs.Shown.{none_at_end}
use Rattle.ps_core_laws.proofs.Closes.{stored_only}
use Rattle.ps_core_laws.proofs.Keeping.{Good}
use Rattle.ps_core_laws.proofs.Kept.{good}

pub record Spaced (os : List Object) (end base : ℕ) (ps : List Pair) (other : ℕ) : Type 0 where
  pub distinct : AreDistinct os
  pub tight : end ≡ base + sum_by size_of os
  pub copies : end_of_replicas other ps ≡ other + sum_by size_of (replicas ps)
  pub last : end_of_last other ps ≡ end_of_replicas other ps

abbrev pub SpacedOf : State → Type 0
SpacedOf s = Spaced s.vm.objects s.vm.end (space_base s.vm.space s.vm.cycle) s.gc.pairs
    (other_base s.gc.space s.gc.cycle)

-- ---- sizes stay

size_stored : (a i w : ℕ) (o : Object) → size_of (stored a i w o) ≡ size_of o
size_stored a i w o = elim (bool_cases (nat_eq a o.address))
    [ inl t ↦ rw t (ap (λ (n : ℕ). 2 + n) (length-set o.fields i w)) | inr f ↦ rw f refl ]

sizes_stored : (os : List Object) (a i w : ℕ)
    → sum_by size_of (with_field os a i w) ≡ sum_by size_of os
sizes_stored [] a i w = refl
sizes_stored (o ∷ os) a i w =
    let x = sum_by-cons size_of (stored a i w o) (with_field os a i w) in
    let y = sum_by-cons size_of o os in
    let z = size_stored a i w o in
    let r = sizes_stored os a i w in
    omega arith

address_stored : (a i w : ℕ) (o : Object) → (stored a i w o).address ≡ o.address
address_stored a i w o = elim (bool_cases (nat_eq a o.address))
    [ inl t ↦ rw t refl | inr f ↦ rw f refl ]

distinct_stored : (os : List Object) (a i w : ℕ) → AreDistinct os
    → AreDistinct (with_field os a i w)
distinct_stored [] a i w h = tt
distinct_stored (o ∷ os) a i w h = (
  ap (object_at (with_field os a i w)) (address_stored a i w o)
      ∙ (object_at-with_field os a i w o.address ∙ ap (option_map (stored a i w)) h.0),
  distinct_stored os a i w h.1,
)

size_copied : (a i w : ℕ) (scans : Bool) (p : Pair)
    → size_of (as_object (copied_to a i w scans p)) ≡ size_of (as_object p)
size_copied a i w scans p =
    elim (bool_cases (nat_eq a p.original))
    [ inl t ↦ rw t (ap (λ (n : ℕ). 2 + n) (length-set p.fields i w)) | inr f ↦ rw f refl ]

sizes_copied : (ps : List Pair) (a i w : ℕ) (scans : Bool)
    → sum_by size_of (replicas (with_copy ps a i w scans)) ≡ sum_by size_of (replicas ps)
sizes_copied [] a i w scans = refl
sizes_copied (p ∷ ps) a i w scans =
    let x = sum_by-cons size_of (as_object (copied_to a i w scans p))
    (replicas (with_copy ps a i w scans)) in
    let y = sum_by-cons size_of (as_object p) (replicas ps) in
    let z = size_copied a i w scans p in
    let r = sizes_copied ps a i w scans in
    omega arith

end_copied : (a i w : ℕ) (scans : Bool) (p : Pair) → end_of (copied_to a i w scans p) ≡ end_of p
end_copied a i w scans p =
    elim (bool_cases (nat_eq a p.original)) [
      | inl t ↦ rw t (ap (λ (n : ℕ). p.replica + 2 + n) (length-set p.fields i w))
      | inr f ↦
          rw f refl
    ]

ends_copied : (ps : List Pair) (low a i w : ℕ) (scans : Bool)
    → end_of_replicas low (with_copy ps a i w scans) ≡ end_of_replicas low ps
ends_copied [] low a i w scans = refl
ends_copied (p ∷ ps) low a i w scans = let z = end_copied a i w scans p in let r =
    ends_copied ps low a i w scans in rw (z, r) refl

distinct_replicas : (ps : List Pair) → AreSingle ps → AreDistinct (replicas ps)
distinct_replicas [] h = tt
distinct_replicas (p ∷ ps) h =
    (object_at-replicas ps p.replica ∙ ap (option_map as_object) h.1, distinct_replicas ps h.2)

last_copied : (ps : List Pair) (low a i w : ℕ) (scans : Bool)
    → end_of_last low (with_copy ps a i w scans) ≡ end_of_last low ps
last_copied [] low a i w scans = refl
last_copied (p ∷ ps) low a i w scans = end_copied a i w scans p

last_kept : (g : Gc) (o : Option Carried) (scans : Bool) (other : ℕ)
    → end_of_last other g.pairs ≡ end_of_replicas other g.pairs
    → end_of_last other (copied g o scans) ≡ end_of_replicas other (copied g o scans)
last_kept g None scans other h = h
last_kept g (Some k) scans other h =
    last_copied g.pairs other k.address k.field (word_stored g k) scans
    ∙ (h ∙ sym (ends_copied g.pairs other k.address k.field (word_stored g k) scans))

copies_kept : (g : Gc) (o : Option Carried) (scans : Bool) (other : ℕ)
    → end_of_replicas other g.pairs ≡ other + sum_by size_of (replicas g.pairs)
    → end_of_replicas other (copied g o scans) ≡ other + sum_by size_of
    (replicas (copied g o scans))
copies_kept g None scans other h = h
copies_kept g (Some k) scans other h =
    let x = ends_copied g.pairs other k.address k.field (word_stored g k) scans in
    let y = sizes_copied g.pairs k.address k.field (word_stored g k) scans in
    omega arith

module _ (space : ℕ) (s : State) (h : Good space s) (k : SpacedOf s) where
  makes : (header : ℕ) → SpacedOf (happens s (HeaderStore header))
  makes header =
      let n : ℕ = fields_in header in
      let new : Object = record { address = s.vm.end; header = header; fields = replicate n 0 } in
      let x = sum_by-cons size_of new s.vm.objects in
      let l = length-replicate {A = ℕ} n 0 in
      let t = k.tight in
      record {
        distinct = (
          none_at_end s.words s.vm.objects s.vm.end s.vm.making _ _ h.current,
          k.distinct,
        );
        tight = omega arith;
        copies = k.copies;
        last = k.last;
      }

  forwards : (a c : ℕ) → Permitted s (ForwardStore a c) → SpacedOf (happens s (ForwardStore a c))
  forwards a c p =
      let m = some_match (IsReady s.gc a c) (seen_at s.gc.headers a) p.gc.headed in
      let right = m.2.right in
      let header : ℕ = unwrap_or (seen_at s.gc.headers a) 0 in
      let n : ℕ = fields_in header in
      let new : Pair = new_pair a c header in
      let x = sum_by-cons size_of (as_object new) (replicas s.gc.pairs) in
      let l = length-replicate {A = ℕ} n 0 in
      let t = k.copies in
      record { distinct = k.distinct; tight = k.tight; copies = omega arith; last = omega arith }

  flips : (roots : List ℕ) → SpacedOf (happens s (CycleStore roots))
  flips roots =
      let other : other_base s.gc.space s.gc.cycle ≡ other_base s.vm.space s.vm.cycle =
      ap (λ (z : ℕ). other_base z s.gc.cycle) (h.counted.gc_space_is ∙ sym h.counted.vm_space_is)
      ∙ ap (λ (z : ℕ). other_base s.vm.space z) (sym h.counted.cycles) in
      record {
        distinct = distinct_replicas s.gc.pairs h.single;
        tight = subst (λ (z : ℕ). end_of_replicas z s.gc.pairs ≡ z + sum_by size_of
            (replicas s.gc.pairs)) other k.copies;
        copies = omega arith;
        last = refl;
      }

  keeps : (e : Event) → Permitted s e → SpacedOf (happens s e)
  keeps (VmLoad place word) p = k
  keeps (GcLoad place word) p = k
  keeps (TakeLoad slot word) p = k
  keeps (CopyLoad a i word) p = k
  keeps (HandOver word roots) p = k
  keeps ClearLoad p = k
  keeps ClearStore p = k
  keeps (HeaderStore header) p = makes header
  keeps (FieldStore a i w) p =
      let z = sizes_stored s.vm.objects a i w in
      let t = k.tight in
      subst (λ (v : Vm). Spaced v.objects v.end (space_base v.space v.cycle) s.gc.pairs
      (other_base s.gc.space s.gc.cycle)) (sym (stored_only s.vm a i w))
      (record {
        distinct = distinct_stored s.vm.objects a i w k.distinct;
        tight =
            omega arith;
        copies = k.copies;
        last = k.last;
      })
  keeps (RecordStore slot r) p = k
  keeps EpochStore p = k
  keeps (ReplicaHeaderStore place w) p = k
  keeps (ReplicaFieldStore scans) p =
      record {
        distinct = k.distinct;
        tight = k.tight;
        copies =
            copies_kept s.gc s.gc.copying scans (other_base s.gc.space s.gc.cycle) k.copies;
        last =
            last_kept s.gc s.gc.copying scans (other_base s.gc.space s.gc.cycle) k.last;
      }
  keeps (ForwardStore a c) p = forwards a c p
  keeps HeadStore p = k
  keeps (CycleStore roots) p = flips roots

pub spaced : (space : ℕ) → IsSpace space → (events : List Event) → IsRun space events
    → SpacedOf (run space events)
spaced space size [] h = record
    { distinct = tt; tight = omega arith; copies = omega arith; last = refl }
spaced space size (e ∷ es) h =
    keeps space (run space es) (good space size es h.0) (spaced space size es h.0) e h.1

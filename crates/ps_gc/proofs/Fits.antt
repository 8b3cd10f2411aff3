-- The replicas of different objects, and one more, use no more words than the objects.
use Rattle.std.proofs.Common.{◌≡◌, ◌≢◌, ℕ, ◌+◌, ◌≤◌, false, nat_eq, List, [], ◌∷◌, length, Some, None, refl, sym, ap}
use Rattle.std.proofs.Common.{◌∙◌, inl, inr, arith}
use Rattle.std.specs.Prelude.{if◌then◌else◌}
use Rattle.std.specs.List.{sum_by}
use Rattle.std.proofs.lemmas.List.Sums.{sum_by-cons}
use Rattle.ps_core_machine.specs.declared.events.Object.{Object}
use Rattle.ps_core_machine.specs.declared.events.Pair.{Pair}
use Rattle.ps_core_machine.specs.Objects.{object_at, pair_of, replicas, as_object}
use Rattle.ps_core_laws.specs.Places.{size_of}
use Rattle.ps_core_laws.specs.Laws.{AreSingle}
use Rattle.ps_core_laws.proofs.HeapTests.{bool_cases, number_is, number_not, same_number}

without : ℕ → List Object → List Object
without a [] = []
without a (o ∷ os) = if nat_eq a o.address then without a os else o ∷ without a os

shorter : (a : ℕ) (os : List Object) → sum_by size_of (without a os) ≤ sum_by size_of os
unfolding without
shorter a [] = omega arith
shorter a (o ∷ os) =
    let rest = shorter a os in
    let x = sum_by-cons size_of o os in
    elim (bool_cases (nat_eq a o.address)) [
      | inl t ↦ rw t (omega arith)
      | inr f ↦ (let y = sum_by-cons size_of o (without a os) in rw f (omega arith))
    ]

taken_out : (a : ℕ) (os : List Object) (o : Object) → object_at os a ≡ Some o
    → sum_by size_of (without a os) + size_of o ≤ sum_by size_of os
unfolding without
taken_out a [] o at = absurd (cc)
taken_out a (q ∷ os) o at =
    let x = sum_by-cons size_of q os in
    elim (bool_cases (nat_eq a q.address)) [
      | inl t ↦
          (let at' = rw t at at in
          let is : q ≡ o = cc in
          let same = ap size_of is in
          let rest = shorter a os in
          rw t (omega arith))
      | inr f ↦
          (let at' = rw f at at in
          let rest = taken_out a os o at' in
          let y = sum_by-cons size_of q (without a os) in
          rw f (omega arith))
    ]

others : (a b : ℕ) (os : List Object) → b ≢ a → object_at (without a os) b ≡ object_at os b
unfolding without
others a b [] ne = refl
others a b (q ∷ os) ne = elim (bool_cases (nat_eq a q.address)) [
  | inl t ↦
      (let is = number_is a q.address t in
      let f : nat_eq b q.address ≡ false = number_not b q.address (λ e. ne (e ∙ sym is)) in
      rw (t, f) (others a b os ne))
  | inr f ↦ elim (bool_cases (nat_eq b q.address)) [
    | inl t ↦ rw (f, t) refl
    | inr g ↦ rw (f, g) (others a b os ne)
  ]
]

-- each original stands, with as many fields as its replica
abbrev pub AllStand : List Object → List Pair → Type 0
AllStand os ps = (a : ℕ) (p : Pair) → pair_of ps a ≡ Some p → (o : Object)
    × (object_at os a ≡ Some o) × (length o.fields ≡ length p.fields)

pub fit : (ps : List Pair) (os : List Object) → AreSingle ps → AllStand os ps
    → sum_by size_of (replicas ps) ≤ sum_by size_of os
fit [] os single stand = omega arith
fit (p ∷ ps) os single stand =
    let here : pair_of (p ∷ ps) p.original ≡ Some p = rw (same_number p.original) refl in
    let o = stand p.original p here in
    let count = o.2 in
    let out = taken_out p.original os o.0 o.1 in
    let rest = fit ps (without p.original os) single.2 (λ a q at.
    let ne : a ≢ p.original = λ e.
    let none = single.0 in
    let bad : Some q ≡ None = sym at ∙ (ap (pair_of ps) e ∙ none) in cc in
    let at' : pair_of (p ∷ ps) a ≡ Some q = rw (number_not a p.original ne) at in
    let s = stand a q at' in
    (s.0, others p.original a os ne ∙ s.1, s.2)) in
    let x = sum_by-cons size_of (as_object p) (replicas ps) in
    omega arith

-- so there is room for the replica of an object that has none
pub fits_one_more : (ps : List Pair) (os : List Object) (a : ℕ) (o : Object) → AreSingle ps
    → AllStand os ps → object_at os a ≡ Some o → pair_of ps a ≡ None
    → sum_by size_of (replicas ps) + size_of o ≤ sum_by size_of os
fits_one_more ps os a o single stand at none =
    let out = taken_out a os o at in
    let rest = fit ps (without a os) single (λ b q found.
    let ne : b ≢ a = λ e.
    let bad : Some q ≡ None = sym found ∙ (ap (pair_of ps) e ∙ none) in cc in
    let s = stand b q found in
    (s.0, others a b os ne ∙ s.1, s.2)) in
    omega arith

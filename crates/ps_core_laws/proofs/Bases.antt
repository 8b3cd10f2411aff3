-- The two spaces of the table, and small facts on lists that events need.
use Rattle.std.proofs.Common.{◌≡◌, ◌⊎◌, ℕ, zero, suc, ◌+◌, ◌*◌, ◌%◌, ◌<◌, ◌≤◌, Bool, true, false, not, nat_eq, ◌&&◌}
use Rattle.std.proofs.Common.{List, [], length, Some, None, Option, refl, sym, ap, ◌∙◌, inl, inr, subst, arith, drop}
use Rattle.std.specs.Prelude.{slice_index, slice_index_or, replicate, nat_le, nat_lt, MatchOption}
use Rattle.std.proofs.Math.ListN.{drop_of_length-le}
use native.Mathlib.Decide.{ℕ_discrete}
use Rattle.ps_record.specs.declared.Record.{Record}
use Rattle.ps_record.specs.declared.Record.TheVariants.{Place}
use Rattle.ps_core_machine.specs.declared.events.Written.{Written}
use Rattle.ps_core_machine.specs.Objects.{names, is_written, adjoins, widened}
use Rattle.ps_core_machine.specs.Steps.{table_size, space_base, other_base}
use Rattle.ps_core_laws.proofs.Heap.{put2}
use Rattle.ps_core_laws.proofs.HeapTests.{and_parts, and_both, clash, number_is, at_place, eq_true, le_true, lt_true}
use Rattle.ps_core_laws.proofs.HeapTests.{le_is, lt_is}

-- A and B, or B and A
pub bases : (space cycle : ℕ)
    → ((space_base space cycle ≡ 8256) × (other_base space cycle ≡ 8256 + space))
    ⊎ ((space_base space cycle ≡ 8256 + space) × (other_base space cycle ≡ 8256))
bases space cycle = elim (ℕ_discrete (cycle % 2) 0) [
  | yes e ↦
      let f : (cycle + 1) % 2 ≡ 1 = omega arith in
      inl (
        ap (λ (n : ℕ). 8256 + n * space) e ∙ (let z : 8256 + 0 * space ≡ 8256 = omega arith in z),
        ap (λ (n : ℕ). 8256 + n * space) f ∙ (let z : 8256 + 1 * space ≡ 8256 + space = omega arith in z),
      )
  | no ne ↦
      let e : cycle % 2 ≡ 1 = omega arith in
      let f : (cycle + 1) % 2 ≡ 0 = omega arith in
      inr (
        ap (λ (n : ℕ). 8256 + n * space) e ∙ (let z : 8256 + 1 * space ≡ 8256 + space = omega arith in z),
        ap (λ (n : ℕ). 8256 + n * space) f ∙ (let z : 8256 + 0 * space ≡ 8256 = omega arith in z),
      )
]

-- the flip swaps them
pub other_next : (space cycle : ℕ) → other_base space (cycle + 1) ≡ space_base space cycle
other_next space cycle = ap (λ (n : ℕ). 8256 + n * space) (let e : (cycle + 1 + 1) % 2 ≡ cycle % 2 = omega arith in e)

pub record InTable (space base other j : ℕ) : Type 0 where
  pub far : 8256 ≤ j
  pub wide : base + space ≤ table_size space
  pub off : (j < other) ⊎ (other + space ≤ j)

pub in_current : (space cycle j : ℕ) → space_base space cycle ≤ j → j < space_base space cycle + space
    → InTable space (space_base space cycle) (other_base space cycle) j
in_current space cycle j lo hi = elim (bases space cycle) [
  | inl b ↦ let x = b.0 in let y = b.1 in record { far = omega arith; wide = omega arith; off = inl (omega arith) }
  | inr b ↦ let x = b.0 in let y = b.1 in record { far = omega arith; wide = omega arith; off = inr (omega arith) }
]

pub in_other : (space cycle j : ℕ) → other_base space cycle ≤ j → j < other_base space cycle + space
    → InTable space (other_base space cycle) (space_base space cycle) j
in_other space cycle j lo hi = elim (bases space cycle) [
  | inl b ↦ let x = b.0 in let y = b.1 in record { far = omega arith; wide = omega arith; off = inr (omega arith) }
  | inr b ↦ let x = b.0 in let y = b.1 in record { far = omega arith; wide = omega arith; off = inl (omega arith) }
]

pub spaces_wide : (space cycle : ℕ)
    → (space_base space cycle + space ≤ table_size space) × (other_base space cycle + space ≤ table_size space)
spaces_wide space cycle = elim (bases space cycle) [
  | inl b ↦ let x = b.0 in let y = b.1 in (omega arith, omega arith)
  | inr b ↦ let x = b.0 in let y = b.1 in (omega arith, omega arith)
]

pub spaces_far : (space cycle : ℕ) → (8256 ≤ space_base space cycle) × (8256 ≤ other_base space cycle)
spaces_far space cycle = elim (bases space cycle) [
  | inl b ↦ let x = b.0 in let y = b.1 in (omega arith, omega arith)
  | inr b ↦ let x = b.0 in let y = b.1 in (omega arith, omega arith)
]

-- ---- options

pub some_match : {X : Type 0} (P : X → Type 0) (o : Option X) → MatchOption o ⊥ P → (x : X) × (o ≡ Some x) × P x
some_match P None h = absurd h
some_match P (Some x) h = (x, refl, h)

pub match_some : {X : Type 0} (P : X → Type 0) (o : Option X) (x : X) → o ≡ Some x → P x → MatchOption o ⊥ P
match_some {X = X} P o x e h = subst (λ (y : Option X). MatchOption y ⊥ P) (sym e) h

-- ---- what is written

pub bool_same : (x y : Bool) → (x ≡ true → y ≡ true) → (y ≡ true → x ≡ true) → x ≡ y
bool_same true true f g = refl
bool_same true false f g = absurd (let e = f refl in let b : false ≡ true = e in cc)
bool_same false true f g = absurd (let e = g refl in let b : false ≡ true = e in cc)
bool_same false false f g = refl

written_is : (w : Written) (b j : ℕ) → is_written (Some w) b j ≡ true
    → (b ≡ w.address) × (w.first ≤ j) × (j < w.first + w.count)
written_is w b j h =
    let p = and_parts (nat_eq b w.address) (nat_le w.first j && nat_lt j (w.first + w.count)) h in
    let q = and_parts (nat_le w.first j) (nat_lt j (w.first + w.count)) p.1 in
    (number_is b w.address p.0, le_is w.first j q.0, lt_is j (w.first + w.count) q.1)

written_true : (w : Written) (b j : ℕ) → b ≡ w.address → w.first ≤ j → j < w.first + w.count
    → is_written (Some w) b j ≡ true
written_true w b j e lo hi = rw (eq_true b w.address e, le_true w.first j lo, lt_true j (w.first + w.count) hi) refl

pub put2_cases : (f : ℕ → ℕ → Bool) (a i b j : ℕ) → put2 f a i true b j ≡ true → ((b ≡ a) × (j ≡ i)) ⊎ (f b j ≡ true)
put2_cases f a i b j h = elim (at_place a i b j) [ inl same ↦ inl same | inr ne ↦ let h' = rw ne at h in inr h' ]

pub put2_true : (f : ℕ → ℕ → Bool) (a i b j : ℕ) → ((b ≡ a) × (j ≡ i)) ⊎ (f b j ≡ true) → put2 f a i true b j ≡ true
put2_true f a i b j h = elim (at_place a i b j) [
  | inl same ↦ rw (eq_true b a same.0, eq_true j i same.1) refl
  | inr ne ↦ rw ne (elim h [
    | inl same ↦ clash (nat_eq b a && nat_eq j i)
        (and_both (nat_eq b a) (nat_eq j i) (eq_true b a same.0) (eq_true j i same.1)) ne
    | inr f ↦ f
  ])
]

-- a store next to what is written widens it by just that place
pub widened-written : (w : Option Written) (a i b j : ℕ) → adjoins w a i ≡ true
    → put2 (is_written w) a i true b j ≡ is_written (Some (widened w a i)) b j
widened-written None a i b j near = bool_same _ _
    (λ h. elim (put2_cases (is_written None) a i b j h) [
      | inl same ↦ written_true (widened None a i) b j same.0 (let e = same.1 in omega arith) (let e = same.1 in
          omega arith)
      | inr f ↦ clash false f refl
    ])
    (λ h. let n = written_is (widened None a i) b j h in let lo = n.1 in let hi = n.2 in
    put2_true (is_written None) a i b j (inl (n.0, omega arith)))
widened-written (Some w) a i b j near =
    let p = and_parts (nat_eq a w.address) (nat_le w.first (i + 1) && nat_le i (w.first + w.count)) near in
    let q = and_parts (nat_le w.first (i + 1)) (nat_le i (w.first + w.count)) p.1 in
    let at = number_is a w.address p.0 in
    let lo = le_is w.first (i + 1) q.0 in
    let hi = le_is i (w.first + w.count) q.1 in
    bool_same _ _
    (λ h. elim (put2_cases (is_written (Some w)) a i b j h) [
      | inl same ↦ let e = same.1 in written_true (widened (Some w) a i) b j (same.0 ∙ at) (omega arith) (omega arith)
      | inr f ↦ let n = written_is w b j f in let x = n.1 in let y = n.2 in
          written_true (widened (Some w) a i) b j n.0 (omega arith) (omega arith)
    ])
    (λ h. let n = written_is (widened (Some w) a i) b j h in let x = n.1 in let y = n.2 in
    put2_true (is_written (Some w)) a i b j (elim (ℕ_discrete j i) as (λ _. ((b ≡ a) × (j ≡ i))
    ⊎ (is_written (Some w) b j ≡ true)) [
      | yes e ↦ inl (n.0 ∙ sym at, e)
      | no ne ↦ inr (written_true w b j n.0 (omega arith) (omega arith))
    ]))

and_not : (x : Bool) → (x && not x) ≡ false
and_not true = refl
and_not false = refl

and_true : (x : Bool) → (x && true) ≡ x
and_true true = refl
and_true false = refl

-- a record of just what is written leaves nothing
pub logged_all : (written : Option Written) (a first count b j : ℕ)
    → written ≡ Some (record { address = a; first = first; count = count })
    → (is_written written b j && not (names (Place a first count) b j)) ≡ false
logged_all written a first count b j e =
    ap (λ (w : Option Written). is_written w b j && not (names (Place a first count) b j)) e
    ∙ and_not (names (Place a first count) b j)

pub logged_none : (x : Bool) → (x && not false) ≡ x
logged_none x = and_true x

-- ---- zeros

pub zero_at : (n i : ℕ) → slice_index (replicate n 0) i ≡ 0
zero_at zero i = refl
zero_at (suc n) zero = refl
zero_at (suc n) (suc i) = zero_at n i

pub false_at : (n i : ℕ) → slice_index_or (replicate n false) i false ≡ false
false_at zero i = refl
false_at (suc n) zero = refl
false_at (suc n) (suc i) = false_at n i

-- ---- what is dropped

pub drop_all : (xs ys : List Record) (n : ℕ) → xs ≡ ys → n ≡ 0 → drop (length xs + n) ys ≡ []
drop_all xs ys n e z = drop_of_length-le ys (let l = ap length e in omega arith)

-- Tests on numbers, what records name, and functions that are changed at one place.
use Rattle.std.proofs.Common.{◌≡◌, ◌≢◌, ◌⊎◌, ℕ, Bool, true, false, true≢false, nat_eq, ◌&&◌, ◌||◌, List, [], ◌∷◌, ◌++◌}
use Rattle.std.proofs.Common.{Some, None, Option, refl, sym, ap, ◌∙◌, inl, inr, arith}
use Rattle.std.proofs.lemmas.Bool.Decides.{nat_tests}
use native.Mathlib.Decide.{ℕ_discrete}
use Rattle.std.proofs.Common.{◌+◌, ◌-◌, ◌<◌, ◌≤◌, nat_le, nat_lt}
use Rattle.ps_record.specs.declared.Record.{Record}
use Rattle.ps_record.specs.declared.Record.TheVariants.{Place, Close}
use Rattle.ps_core_machine.specs.declared.events.Half.{Half}
use Rattle.ps_core_machine.specs.Objects.{names, named_in, left_of, is_left, is_next, with_load, is_loaded}
use Rattle.ps_core_laws.proofs.Heap.{Word, put, put2, renamed, redirected, IsCovered}
use Rattle.ps_core_laws.proofs.Heap.Word.{Plain, Ref}

pub bool_cases : (b : Bool) → (b ≡ true) ⊎ (b ≡ false)
bool_cases true = inl refl
bool_cases false = inr refl

pub and_parts : (x y : Bool) → (x && y) ≡ true → (x ≡ true) × (y ≡ true)
and_parts true y h = (refl, h)
and_parts false y h = absurd (true≢false (sym h))

pub and_both : (x y : Bool) → x ≡ true → y ≡ true → (x && y) ≡ true
and_both x y p q = rw (p, q) refl

pub or_parts : (x y : Bool) → (x || y) ≡ true → (x ≡ true) ⊎ (y ≡ true)
or_parts true y h = inl refl
or_parts false y h = inr h

pub or_left : (x y : Bool) → x ≡ true → (x || y) ≡ true
or_left x y p = rw p refl

pub or_right : (x y : Bool) → y ≡ true → (x || y) ≡ true
or_right true y p = refl
or_right false y p = p

pub clash : {X : Type 0} (b : Bool) → b ≡ true → b ≡ false → X
clash b t f = absurd (true≢false (sym t ∙ f))

pub same_number : (a : ℕ) → nat_eq a a ≡ true
same_number a = grind (arith, nat_tests)

pub number_is : (a b : ℕ) → nat_eq a b ≡ true → a ≡ b
number_is a b h = elim (ℕ_discrete a b) [
  | yes e ↦ e
  | no ne ↦ let f : nat_eq a b ≡ false = grind (arith, nat_tests) in clash (nat_eq a b) h f
]

pub number_not : (a b : ℕ) → a ≢ b → nat_eq a b ≡ false
number_not a b ne = grind (arith, nat_tests)

-- is b the number a?
pub at_number : (a b : ℕ) → (b ≡ a) ⊎ (nat_eq b a ≡ false)
at_number a b = elim (ℕ_discrete b a) [ yes e ↦ inl e | no ne ↦ inr (number_not b a ne) ]

-- is (b, j) the place (a, i)?
pub at_place : (a i b j : ℕ) → ((b ≡ a) × (j ≡ i)) ⊎ ((nat_eq b a && nat_eq j i) ≡ false)
at_place a i b j = elim (bool_cases (nat_eq b a && nat_eq j i)) [
  | inl t ↦ let p = and_parts (nat_eq b a) (nat_eq j i) t in inl (number_is b a p.0, number_is j i p.1)
  | inr f ↦ inr f
]

pub put_same : {X : Type 0} (f : ℕ → X) (a : ℕ) (x : X) → put f a x a ≡ x
put_same f a x = rw (same_number a) refl

pub put_other : {X : Type 0} (f : ℕ → X) (a b : ℕ) (x : X) → nat_eq b a ≡ false → put f a x b ≡ f b
put_other f a b x h = rw h refl

pub put2_same : {X : Type 0} (f : ℕ → ℕ → X) (a i : ℕ) (x : X) → put2 f a i x a i ≡ x
put2_same f a i x = rw (same_number a, same_number i) refl

pub put2_other : {X : Type 0} (f : ℕ → ℕ → X) (a i b j : ℕ) (x : X) → (nat_eq b a && nat_eq j i) ≡ false
    → put2 f a i x b j ≡ f b j
put2_other f a i b j x h = rw h refl

pub le_true : (a b : ℕ) → a ≤ b → nat_le a b ≡ true
le_true a b h = grind (arith, nat_tests)

pub le_is : (a b : ℕ) → nat_le a b ≡ true → a ≤ b
le_is a b h = grind (arith, nat_tests)

pub lt_true : (a b : ℕ) → a < b → nat_lt a b ≡ true
lt_true a b h = grind (arith, nat_tests)

pub lt_is : (a b : ℕ) → nat_lt a b ≡ true → a < b
lt_is a b h = grind (arith, nat_tests)

pub le_not : (a b : ℕ) → nat_le a b ≡ false → b < a
le_not a b h = grind (arith, nat_tests)

pub lt_not : (a b : ℕ) → nat_lt a b ≡ false → b ≤ a
lt_not a b h = grind (arith, nat_tests)

pub eq_true : (a b : ℕ) → a ≡ b → nat_eq a b ≡ true
eq_true a b h = grind (arith, nat_tests)

-- what a place record names
pub names_is : (a first count b j : ℕ) → names (Place a first count) b j ≡ true
    → (b ≡ a) × (first ≤ j) × (j < first + count)
names_is a first count b j h =
    let p = and_parts (nat_eq b a) (nat_le first j && nat_lt j (first + count)) h in
    let q = and_parts (nat_le first j) (nat_lt j (first + count)) p.1 in
    (number_is b a p.0, le_is first j q.0, lt_is j (first + count) q.1)

pub names_true : (a first count b j : ℕ) → b ≡ a → first ≤ j → j < first + count
    → names (Place a first count) b j ≡ true
names_true a first count b j e lo hi = rw (eq_true b a e, le_true first j lo, lt_true j (first + count) hi) refl

-- nothing was loaded yet
pub left_of-zero : (r : Record) → left_of r 0 ≡ r
left_of-zero (Place a first count) = let f : first + 0 ≡ first = omega arith in
    let n : count - 0 ≡ count = omega arith in rw (f, n) refl
left_of-zero Close = refl

pub left_named : (r : Record) (loaded b j : ℕ) → names (left_of r loaded) b j ≡ true → names r b j ≡ true
left_named (Place a first count) loaded b j h =
    let n = names_is a (first + loaded) (count - loaded) b j h in
    let lo = n.1 in let hi = n.2 in
    names_true a first count b j n.0 (omega arith) (omega arith)
left_named Close loaded b j h = h

pub loaded_named : (r : Record) (loaded b j : ℕ) → is_loaded r loaded ≡ true → names (left_of r loaded) b j ≡ true → ⊥
loaded_named (Place a first count) loaded b j all h =
    let n = names_is a (first + loaded) (count - loaded) b j h in
    let lo = n.1 in let hi = n.2 in let m = le_is count loaded all in omega arith
loaded_named Close loaded b j all h = true≢false (sym h)

-- a load of another place leaves what is left
next_left : (r : Record) (loaded a i b j : ℕ) → (nat_eq b a && nat_eq j i) ≡ false → is_next r loaded a i ≡ true
    → names (left_of r loaded) b j ≡ true → names (left_of r (loaded + 1)) b j ≡ true
next_left (Place c first count) loaded a i b j ne nx h =
    let n = names_is c (first + loaded) (count - loaded) b j h in
    let p = and_parts (nat_eq a c) (nat_eq i (first + loaded) && nat_lt loaded count) nx in
    let q = and_parts (nat_eq i (first + loaded)) (nat_lt loaded count) p.1 in
    let ac = number_is a c p.0 in
    let ii = number_is i (first + loaded) q.0 in
    let bc = n.0 in let lo = n.1 in let hi = n.2 in
    let other : j ≢ i = λ same. clash (nat_eq b a && nat_eq j i)
    (and_both (nat_eq b a) (nat_eq j i) (eq_true b a (bc ∙ sym ac)) (eq_true j i same)) ne in
    names_true c (first + (loaded + 1)) (count - (loaded + 1)) b j n.0 (omega arith) (omega arith)
next_left Close loaded a i b j ne nx h = h

pub with_load_left : (t : Option Half) (a i b j : ℕ) → (nat_eq b a && nat_eq j i) ≡ false → is_left t b j ≡ true
    → is_left (with_load t a i) b j ≡ true
with_load_left None a i b j ne h = clash false h refl
with_load_left (Some h) a i b j ne due = elim (bool_cases (is_next h.what h.loaded a i)) [
  | inl t ↦ rw t (next_left h.what h.loaded a i b j ne t due)
  | inr f ↦ rw f due
]

pub named_front : (rs qs : List Record) (a i : ℕ) → named_in rs a i ≡ true → named_in (rs ++ qs) a i ≡ true
named_front [] qs a i h = absurd (true≢false (sym h))
named_front (r ∷ rs) qs a i h = elim (or_parts (names r a i) (named_in rs a i) h) [
  | inl here ↦ or_left (names r a i) (named_in (rs ++ qs) a i) here
  | inr there ↦ or_right (names r a i) (named_in (rs ++ qs) a i) (named_front rs qs a i there)
]

pub named_last : (rs : List Record) (r : Record) (a i : ℕ) → names r a i ≡ true → named_in (rs ++ r ∷ []) a i ≡ true
named_last [] r a i h = or_left (names r a i) false h
named_last (q ∷ rs) r a i h = or_right (names q a i) (named_in (rs ++ r ∷ []) a i) (named_last rs r a i h)

-- a word whose reference has a replica is renamed so after more pairs too
pub renamed_more : (replica : ℕ → Option ℕ) (a c : ℕ) (w : Word) → replica a ≡ None → IsCovered replica w
    → (IsCovered (put replica a (Some c)) w) × (renamed (put replica a (Some c)) w ≡ renamed replica w)
renamed_more replica a c (Plain n) none h = (tt, refl)
renamed_more replica a c (Ref b x) none h = elim (at_number a b) [
  | inl e ↦ let bad : replica a ≡ Some h.0 = ap replica (sym e) ∙ h.1 in absurd (cc)
  | inr ne ↦ let same = put_other replica a b (Some c) ne in
      ((h.0, same ∙ h.1), ap (λ (o : Option ℕ). redirected o b x) same)
]

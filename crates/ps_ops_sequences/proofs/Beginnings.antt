-- Whether a string begins with another.
use Rattle.std.proofs.Common.{◌≡◌, ℕ, ◌+◌, ◌-◌, ◌≤◌, List, length, take, drop, Bool, true, false, refl, sym, ap, arith, ◌∙◌, length-drop}
use Rattle.std.specs.Prelude.{nat_eq, slice_range}
use Rattle.std.proofs.Common.{Ordering, Less, Equal, Greater}
use Rattle.std.specs.Ordering.{ordering_index}
use Rattle.std.specs.Bool.{◌==◌}
use Rattle.std.specs.List.{starts_with}
use Rattle.std.specs.Bool.{Decides}
use Rattle.std.proofs.lemmas.Bool.{false≢true}
use Rattle.std.proofs.lemmas.Bool.Decides.{Decides-eqb}
use Rattle.std.proofs.lemmas.Slice.Eq.{slice_eq-Decides}
use Rattle.std.proofs.lemmas.List.{length-take-le, take-take}

pub same_truth : (a b : Bool) → (a ≡ true → b ≡ true) → (b ≡ true → a ≡ true) → a ≡ b
same_truth true true f g = refl
same_truth false false f g = refl
same_truth true false f g = sym (f refl)
same_truth false true f g = g refl

pub starts_exactly : (hay needle : List ℕ) → Decides (starts_with nat_eq hay needle) (needle ≡ take
    (length needle) hay)
starts_exactly hay needle = slice_eq-Decides Decides-eqb needle (take (length needle) hay)
    (starts_with nat_eq hay needle) refl

-- the first bytes of a part
pub first_bytes : (text : List ℕ) (from count n : ℕ) → n ≤ count → slice_range text (from + 0)
    (from + 0 + n) ≡ take n (slice_range text from (from + count))
first_bytes text from count n fits =
    let start : from + 0 ≡ from = omega arith in
    let size : (from + 0 + n) - (from + 0) ≡ n = omega arith in
    let all : (from + count) - from ≡ count = omega arith in
    (λ i. take (size i) (drop (start i) text))
    ∙ (sym (take-take n count (drop from text) fits)
    ∙ ap (λ m. take n (take m (drop from text))) (sym all))

pub length_run : (text : List ℕ) (from count : ℕ) → from + count ≤ length text → length
    (slice_range text from (from + count)) ≡ count
length_run text from count within =
    let all : (from + count) - from ≡ count = omega arith in
    ap (λ m. length (take m (drop from text))) all ∙ length-take-le count (drop from text) (omega
    (arith, within, length-drop from text))

-- the answer of a comparison of the first bytes with those wanted
pub begins_is : (r : Bool) (hay needle first : List ℕ) (n : ℕ) → length needle ≡ n → first
    ≡ take n hay → (r ≡ true → first ≡ needle) → (first ≡ needle → r ≡ true) → r
    ≡ starts_with nat_eq hay needle
begins_is r hay needle first n size is holds back =
    let exact = starts_exactly hay needle in
    let same : take (length needle) hay ≡ first = ap (λ m. take m hay) size ∙ sym is in
    same_truth r (starts_with nat_eq hay needle) (λ t. exact.1 (sym (same ∙ holds t))) (λ t. back
    (sym (exact.0 t ∙ same)))

pub equal_tests : (o : Ordering) (r : Bool) → r ≡ (ordering_index o == 1) → (r ≡ true → o ≡ Equal) ×
    (o ≡ Equal → r ≡ true)
equal_tests Less r e = (λ t. absurd (false≢true (sym e ∙ t)), λ other. cc)
equal_tests Equal r e = (λ t. refl, λ same. e)
equal_tests Greater r e = (λ t. absurd (false≢true (sym e ∙ t)), λ other. cc)

-- Numbers that are bounded digit by digit, or at the end.
use Rattle.std.proofs.Common.{◌≡◌, ◌≤◌, ◌<◌, ◌∙◌, ℕ, zero, suc, ◌+◌, ◌-◌, ◌*◌, drop, length, slice_index, List, [], ◌∷◌, Bool, true, false, Option, Some, None, min, refl, sym, ap, arith}
use Rattle.std.proofs.lemmas.List.{drop_all}
use Rattle.std.specs.Prelude.{option_map, if◌then◌else◌}
use Rattle.std.specs.Char.{is_ascii_digit}
use Rattle.ps_debug.specs.Words.{bounded, number_behind, number_in, with_digit}

-- what is past the bound stays past it
bounded_more : (most number more : ℕ)
    → min (min number most * 10 + more) most ≡ min (number * 10 + more) most
bounded_more most number more = omega arith

bounded_twice : (most number : ℕ) → min (min number most) most ≡ min number most
bounded_twice most number = omega arith

bounded_small : (most number : ℕ) → number ≤ most → number ≡ min number most
bounded_small most number small = omega (arith, small)

-- one digit more, by what is known of those behind it
digit_more : (number byte : ℕ) (rest : List ℕ) (digit : Bool)
    → ((n : ℕ) → option_map bounded (number_behind (bounded n) rest)
    ≡ option_map bounded (number_behind n rest))
    → option_map bounded
    (if digit then number_behind (with_digit (bounded number) byte) rest else None)
    ≡ option_map bounded (if digit then number_behind (with_digit number byte) rest else None)
digit_more number byte rest false behind = refl
digit_more number byte rest true behind =
    sym (behind (with_digit (bounded number) byte))
    ∙ ap (λ n. option_map bounded (number_behind n rest))
    (bounded_more 18446744073709551615 number (byte - 48))
    ∙ behind (with_digit number byte)

-- so it doesn't matter whether the number so far is bounded
pub behind_bounded : (number : ℕ) (text : List ℕ)
    → option_map bounded (number_behind (bounded number) text)
    ≡ option_map bounded (number_behind number text)
behind_bounded number [] = ap Some (bounded_twice 18446744073709551615 number)
behind_bounded number (byte ∷ rest) =
    digit_more number byte rest (is_ascii_digit byte) (λ n. behind_bounded n rest)

-- the digit at a place
pub digit_at : (number place : ℕ) (text : List ℕ) → place < length text
    → is_ascii_digit (slice_index text place) ≡ true
    → option_map bounded (number_behind number (drop place text))
    ≡ option_map bounded (number_behind
    (bounded (with_digit number (slice_index text place))) (drop (place + 1) text))
digit_at number place [] within is = absurd (omega (arith, within))
digit_at number zero (byte ∷ rest) within is =
    rw is (sym (behind_bounded (with_digit number byte) rest))
digit_at number (suc place) (byte ∷ rest) within is =
    let same : suc (place + 1) ≡ suc place + 1 = omega arith in
    digit_at number place rest (omega (arith, within)) is
    ∙ ap (λ n. option_map bounded (number_behind
    (bounded (with_digit number (slice_index rest place))) (drop n (byte ∷ rest)))) same

-- behind the last
pub digits_end : (number place : ℕ) (text : List ℕ) → length text ≤ place → 0 < length text
    → number ≤ 18446744073709551615
    → option_map bounded (number_behind 0 text)
    ≡ option_map bounded (number_behind number (drop place text))
    → Some number ≡ number_in text
unfolding number_in
digits_end number place [] all some small so = absurd (omega (arith, some))
digits_end number place (byte ∷ rest) all some small so =
    let none : drop place (byte ∷ rest) ≡ [] = drop_all place (byte ∷ rest) all in
    ap Some (bounded_small 18446744073709551615 number small)
    ∙ sym (so ∙ ap (λ left. option_map bounded (number_behind number left)) none)

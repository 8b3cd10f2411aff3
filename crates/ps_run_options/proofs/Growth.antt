-- Digits and a unit behind a number make it no less.
use Rattle.std.proofs.Common.{◌≡◌, ◌<◌, ◌≤◌, ◌^◌, ◌||◌, ◌==◌, ℕ, zero, suc, Bool, true, false, List, [], ◌∷◌, Option, Some, None, IfSome, drop, length, slice_index, refl, arith}
use Rattle.std.specs.Char.{is_ascii_digit}
use Rattle.ps_run_options.specs.Sizes.{ending_in, in_units, is_within, size_behind, with_digit}

-- each unit is one at least
of_unit : (number least letter : ℕ) → least ≤ number
    → IfSome (in_units number letter) (λ size. least ≤ size)
of_unit number least letter less = by (letter == 107 || letter == 75) refl
  where
    giga : (is : Bool) → (letter == 103 || letter == 71) ≡ is
        → (letter == 107 || letter == 75) ≡ false → (letter == 109 || letter == 77) ≡ false
        → IfSome (in_units number letter) (λ size. least ≤ size)
    giga true is kilo mega = rw (kilo, mega, is) (omega (arith, less))
    giga false is kilo mega = rw (kilo, mega, is) tt

    mega : (is : Bool) → (letter == 109 || letter == 77) ≡ is
        → (letter == 107 || letter == 75) ≡ false
        → IfSome (in_units number letter) (λ size. least ≤ size)
    mega true is kilo = rw (kilo, is) (omega (arith, less))
    mega false is kilo = giga (letter == 103 || letter == 71) refl kilo is

    by : (is : Bool) → (letter == 107 || letter == 75) ≡ is
        → IfSome (in_units number letter) (λ size. least ≤ size)
    by true is = rw is (omega (arith, less))
    by false is = mega (letter == 109 || letter == 77) refl is

of_end : (number least letter : ℕ) (rest : List ℕ) → least ≤ number
    → IfSome (ending_in number letter rest) (λ size. least ≤ size)
of_end number least letter [] less = of_unit number least letter less
of_end number least letter (byte ∷ rest) less = tt

pub grows : (number least : ℕ) (text : List ℕ) → least ≤ number
    → IfSome (size_behind number text) (λ size. least ≤ size)
grows number least [] less = less
grows number least (byte ∷ rest) less =
    by (is_ascii_digit byte) refl (grows (with_digit number byte) least rest (omega (arith, less)))
  where
    by : (is : Bool) → is_ascii_digit byte ≡ is
        → IfSome (size_behind (with_digit number byte) rest) (λ size. least ≤ size)
        → IfSome (size_behind number (byte ∷ rest)) (λ size. least ≤ size)
    by true is next = rw is next
    by false is next = rw is (of_end number least byte rest less)

-- so a number that a digit makes too large stays so
pub overflows : (number place : ℕ) (text : List ℕ) → place < length text
    → is_ascii_digit (slice_index text place) ≡ true
    → 2 ^ 64 ≤ with_digit number (slice_index text place)
    → IfSome (size_behind number (drop place text)) (λ size. 2 ^ 64 ≤ size)
overflows number place [] less is large = absurd (omega (arith, less))
overflows number zero (byte ∷ rest) less is large =
    rw is (grows (with_digit number byte) (2 ^ 64) rest large)
overflows number (suc place) (byte ∷ rest) less is large =
    overflows number place rest (omega (arith, less)) is large

-- a number past 64 bits is in no range of 32
pub past : (least most : ℕ) (found : Option ℕ) → most < 2 ^ 64
    → IfSome found (λ size. 2 ^ 64 ≤ size) → is_within least most found ≡ false
past least most None few large = refl
past least most (Some size) few large = grind (arith, few, large)

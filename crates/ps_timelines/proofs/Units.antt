-- The first unit of which at most ten fit a run.
use Rattle.std.proofs.Common.{◌≡◌, ap, sym, ◌∙◌, ℕ, ◌+◌, ◌*◌, ◌<◌, ◌≤◌, List, length, drop, get_or, add-one, arith}
use Rattle.std.specs.Prelude.{nat_lt, if◌then◌else◌}
use Rattle.std.proofs.Math.Seq.{drop-cons}
use Rattle.std.proofs.Math.ListN.{drop_of_length-le}
use Rattle.std.proofs.lemmas.Bool.Decides.{nat_tests}
use Rattle.ps_timelines.specs.Pictures.{first_unit}

below : (m n x y : ℕ) → m < n → (if nat_lt m n then x else y) ≡ x
below m n x y h = grind (arith, nat_tests)

not_below : (m n x y : ℕ) → n ≤ m → (if nat_lt m n then x else y) ≡ y
not_below m n x y h = grind (arith, nat_tests)

pub here : (steps : ℕ) (units : List ℕ) (i : ℕ) → i < length units → steps < 11 * get_or units i 0
    → get_or units i 0 ≡ first_unit steps (drop i units)
unfolding first_unit
here steps units i h fits =
    sym (ap (first_unit steps) (drop-cons units i 0 h) ∙ below steps (11 * get_or units i 0) _ _ fits)

pub not_here : (steps : ℕ) (units : List ℕ) (i : ℕ) → i < length units → 11 * get_or units i 0 ≤ steps
    → first_unit steps (drop i units) ≡ first_unit steps (drop (i + 1) units)
unfolding first_unit
not_here steps units i h short =
    ap (first_unit steps) (drop-cons units i 0 h) ∙ not_below steps (11 * get_or units i 0) _ _ short
    ∙ ap (λ n. first_unit steps (drop n units)) (sym (add-one i))

pub nowhere : (steps : ℕ) (units : List ℕ) (i : ℕ) → length units ≤ i → first_unit steps (drop i units) ≡ 0
unfolding first_unit
nowhere steps units i h = ap (first_unit steps) (drop_of_length-le units h)

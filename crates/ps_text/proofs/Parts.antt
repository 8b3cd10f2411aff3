-- How many bytes a part has.
use Rattle.std.proofs.Common.{◌≡◌, ℕ, ◌+◌, ◌-◌, ◌≤◌, arith, List, drop, length}
use Rattle.std.proofs.lemmas.Bool.Decides.{nat_tests}
use Rattle.std.proofs.lemmas.List.{length-take, length-drop}
use Rattle.std.specs.Prelude.{slice_range}

pub part_length : (xs : List ℕ) (from count : ℕ) → from + count ≤ length xs
    → length (slice_range xs from (from + count)) ≡ count
part_length xs from count within =
    let taken = length-take ((from + count) - from) (drop from xs) in
    let dropped = length-drop from xs in
    grind (arith, nat_tests, taken, dropped, within)

-- What an interval covers of columns that it doesn't reach, and of one more interval.
use Rattle.std.proofs.Common.{◌≡◌, ap, ℕ, ◌+◌, ◌*◌, ◌/◌, ◌<◌, ◌≤◌, List, length, take, min, get_or, [], arith}
use Rattle.std.proofs.lemmas.Nat.{row_fits, div-add-mod', mod_below}
use Rattle.std.proofs.lemmas.List.Sums.{sum_by_more}
use Rattle.std.proofs.Math.Nat.{div-mul-le_self}
use Rattle.ps_timelines.specs.declared.columns.Interval.{Interval}
use Rattle.ps_timelines.specs.Columns.{columns, covered, share}
use Rattle.ps_timelines.specs.Lanes.{count, interval_length}

pub none_before : (steps column width : ℕ) (interval : Interval) → width ≡ columns steps
    → column < width * interval.from / steps → covered steps column interval ≡ 0
unfolding covered
none_before steps column width interval e h =
    let a = width * interval.from in
    let same : a ≡ columns steps * interval.from = ap (λ w. w * interval.from) e in
    omega (arith, same, div-mul-le_self a steps, row_fits column steps (a / steps) steps h (omega arith))

pub none_behind : (steps column width : ℕ) (interval : Interval) → width ≡ columns steps → 0 < steps
    → width * interval.to / steps < column → covered steps column interval ≡ 0
unfolding covered
none_behind steps column width interval e p h =
    let a = width * interval.to in
    let same : a ≡ columns steps * interval.to = ap (λ w. w * interval.to) e in
    omega (
      arith,
      same,
      div-add-mod' a steps,
      mod_below a steps p,
      row_fits (a / steps) steps column steps h (omega arith),
    )

pub none_yet : (steps column : ℕ) → share steps [] column ≡ 0
unfolding share
none_yet steps column = omega arith

pub at_most_whole : (steps column : ℕ) (intervals : List Interval) → share steps intervals column ≤ steps
unfolding share
at_most_whole steps column intervals = omega arith

pub one_more : (steps column : ℕ) (intervals : List Interval) (i : ℕ) (d : Interval) → i < length intervals
    → share steps (take (i + 1) intervals) column
    ≡ min (share steps (take i intervals) column + covered steps column (get_or intervals i d)) steps
unfolding share
one_more steps column intervals i d h =
    omega (arith, sum_by_more (covered steps column) intervals i d h)

-- ---- how many steps intervals have

pub none_counted : (steps : ℕ) → 0 ≡ count steps []
unfolding count
none_counted steps = omega arith

pub counted_within : (steps : ℕ) (intervals : List Interval) → count steps intervals ≤ steps
unfolding count
counted_within steps intervals = omega arith

pub counted_more : (steps : ℕ) (intervals : List Interval) (i : ℕ) (d : Interval) (sum more : ℕ) → i < length intervals
    → sum ≡ count steps (take i intervals) → more ≡ interval_length (get_or intervals i d)
    → min (sum + more) steps ≡ count steps (take (i + 1) intervals)
unfolding count
counted_more steps intervals i d sum more h e f = omega (arith, sum_by_more interval_length intervals i d h, e, f)

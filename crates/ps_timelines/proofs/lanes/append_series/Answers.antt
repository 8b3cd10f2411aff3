-- The levels are those of the series.
use Rattle.std.proofs.Common.{◌≡◌, ◌∙◌, ap, subst, ◌++◌, List, ℕ, length, OnOk, arith}
use Rattle.ps_timelines.specs.Levels.{series_levels}
use Rattle.ps_timelines.specs.Lanes.{series_text}
use Rattle.ps_timelines.specs.Series.{path_text}
use Rattle.ps_timelines.proofs.Sizes.{levels_size}
use Rattle.ps_timelines.proofs.lanes.append_series.Goals as goal

pub append_path-requires-clause-some : goal.append_path-requires-clause-some
append_path-requires-clause-some c =
    let size = levels_size c.args.series c.args.scale.steps c.intervals_of-intervals.result.now c.args.longests.now in
    omega (arith, ap length (c.deref.ensures.value ∙ c.in_ok-levels.ensures), size)

pub append_path-requires-clause-most : goal.append_path-requires-clause-most
append_path-requires-clause-most c =
    let size = levels_size c.args.series c.args.scale.steps c.intervals_of-intervals.result.now c.args.longests.now in
    omega (arith, ap length (c.deref.ensures.value ∙ c.in_ok-levels.ensures), size)

pub returns-clause-appended : goal.returns-clause-appended
unfolding series_text
returns-clause-appended c =
    subst (λ (levels : List ℕ). OnOk c.append_path.result
    (c.append_path.new.to.items ≡ c.args.to.now.items ++ path_text c.args.series levels))
    (c.deref.ensures.value ∙ c.in_ok-levels.ensures
    ∙ ap (λ s. series_levels c.args.series c.args.scale.steps s c.args.longests.now) c.intervals_of-intervals.ensures)
    c.append_path.ensures.appended

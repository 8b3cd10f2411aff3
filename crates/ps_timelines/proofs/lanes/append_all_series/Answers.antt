-- The longest shares are those of the drawn.
use Rattle.std.proofs.Common.{◌≡◌, ◌∙◌, ap, subst, ◌++◌, List, ℕ, length, OnOk}
use Rattle.std.specs.List.{flat_map}
use Rattle.ps_timelines.specs.Lanes.{series_text, all_series, all_series_text}
use Rattle.ps_timelines.proofs.Sizes.{longest_size}
use Rattle.ps_timelines.proofs.lanes.append_all_series.Goals as goal

pub append_each_series-requires : goal.append_each_series-requires
append_each_series-requires c =
    ap length (c.deref.ensures.value ∙ c.in_ok-longests.ensures) ∙ longest_size c.args.scale.steps c.args.drawn.now

pub returns-clause-appended : goal.returns-clause-appended
unfolding all_series_text
returns-clause-appended c =
    subst (λ (longests : List ℕ). OnOk c.append_each_series.result (c.append_each_series.new.to.items ≡ c.args.to.now.items
    ++ flat_map (series_text c.args.scale.steps c.args.drawn.now longests) all_series))
    (c.deref.ensures.value ∙ c.in_ok-longests.ensures) c.append_each_series.ensures.appended

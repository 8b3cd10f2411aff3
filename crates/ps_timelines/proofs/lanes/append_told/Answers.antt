-- The first four, or all.
use Rattle.std.proofs.Common.{◌≡◌, ◌∙◌, ap, subst, ◌++◌, List, length, take, min, OnOk, arith}
use Rattle.std.specs.List.{flat_map}
use Rattle.std.proofs.lemmas.List.{take_min}
use Rattle.ps_timelines.specs.declared.lanes.ErrorLabel.{ErrorLabel}
use Rattle.ps_timelines.specs.Lanes.{label_text}
use Rattle.ps_timelines.proofs.lanes.append_told.Goals as goal

pub returns-clause-appended : goal.returns-clause-appended
returns-clause-appended c =
    let count : c.min-told.result ≡ min 4 (length c.args.labels.now) = omega (arith, c.min-told.ensures) in
    subst (λ (labels : List ErrorLabel). OnOk c.append_labels.result
    (c.append_labels.new.to.items ≡ c.args.to.now.items ++ flat_map (label_text c.args.steps) labels))
    (ap (λ n. take n c.args.labels.now) count ∙ take_min 4 c.args.labels.now) c.append_labels.ensures.appended

use Rattle.std.proofs.Common.{◌≡◌, ◌++◌, take}
use Rattle.std.specs.List.{flat_map}
use Rattle.ps_timelines.specs.Lanes.{label_text}
use Rattle.ps_timelines.proofs.lanes.append_labels.Given as goal

-- the errors so far came behind what stood before
abbrev pub invariant-loop-label : goal.invariant-loop-label
invariant-loop-label l =
    l.to.items ≡ l.initial.to.items ++ flat_map (label_text l.steps) (take l.label-index l.labels)

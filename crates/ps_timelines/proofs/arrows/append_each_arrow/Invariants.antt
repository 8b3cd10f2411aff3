use Rattle.std.proofs.Common.{◌≡◌, ◌++◌, take}
use Rattle.std.specs.List.{flat_map}
use Rattle.ps_timelines.specs.Arrows.{arrow_text}
use Rattle.ps_timelines.proofs.arrows.append_each_arrow.Given as goal

-- the arrows so far came behind what stood before
abbrev pub invariant-loop-arrow : goal.invariant-loop-arrow
invariant-loop-arrow l =
    l.to.items ≡ l.initial.to.items ++ flat_map (arrow_text l.steps l.relation) (take l.arrow-index l.arrows)

use Rattle.std.proofs.Common.{◌≡◌, drop}
use Rattle.ps_timelines.specs.Pictures.{first_unit}
use Rattle.ps_timelines.proofs.pictures.first_unit.Given as goal

-- it isn't among those so far
abbrev pub invariant-loop-unit : goal.invariant-loop-unit
invariant-loop-unit l = first_unit l.steps l.units ≡ first_unit l.steps (drop l.unit-index l.units)

-- Nothing else has places.
use Rattle.std.proofs.Common.{refl}
use Rattle.ps_step_frames.proofs.Placing.{nothing_pushed}
use Rattle.ps_step_frames.proofs.places.operands_at.Goals as goal

pub returns-in_default : goal.returns-in_default
returns-in_default g c = record {
  heap = refl;
  grants = refl;
  pushed = nothing_pushed _ c.args.over c.args.at c.content.result c.content.ensures
      c.in_default.not-Array c.in_default.not-Text c.in_default.not-Dictionary;
  place = tt;
}

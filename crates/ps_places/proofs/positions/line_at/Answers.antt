-- From where the line begins to where it ends.
use Rattle.std.proofs.Common.{◌∙◌, ap}
use Rattle.ps_places.specs.Positions.{line_begin, line_end, line_in}
use Rattle.ps_places.proofs.positions.line_at.Goals as goal

pub returns : goal.returns
unfolding line_in
returns c = cc (
  c.min.ensures,
  c.line_begin-start.ensures.is,
  c.line_end.ensures,
)

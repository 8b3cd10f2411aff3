-- The line ends before a place, and how far it lies behind the last.
use Rattle.std.proofs.Common.{◌∙◌, ap, arith}
use Rattle.ps_places.specs.Positions.{line_begin, line_ends, position_in}
use Rattle.ps_places.proofs.positions.position_of.Goals as goal

pub returns : goal.returns
unfolding position_in
returns c = cc (c.min-at.ensures, c.line_ends.ensures.is, c.line_begin.ensures.is)

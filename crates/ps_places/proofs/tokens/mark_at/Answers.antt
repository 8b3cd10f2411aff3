-- From the place to the end of the token or of the line.
use Rattle.std.proofs.Common.{◌∙◌, ap}
use Rattle.ps_places.specs.Positions.{line_in}
use Rattle.ps_places.specs.Tokens.{mark_in}
use Rattle.ps_places.proofs.Seeking.{marked}
use Rattle.ps_places.proofs.tokens.mark_at.Goals as goal

pub returns-clause-is : goal.returns-clause-is
returns-clause-is c =
    marked c.args.text.now c.args.offset c.min-start.result c.line_at-line.result c.token_end.result c.min.result
    c.max.result c.min-start.ensures c.line_at-line.ensures c.token_end.ensures c.min.ensures c.max.ensures

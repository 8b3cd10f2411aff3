-- The last one decides, by the birth and then by the place.
use Rattle.std.proofs.Common.{◌<◌, length, arith}
use Rattle.ps_places.proofs.Rising.{begin_decides}
use Rattle.ps_places.proofs.origins.is_behind.Goals as goal

pub returns : goal.returns
returns c =
    begin_decides c.args.origins.now c.args.origin _ c.requires (omega (arith, c.if-count-eq0.false))
    c.if-origin-last.false

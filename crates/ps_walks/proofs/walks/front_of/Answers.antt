use Rattle.std.proofs.Common.{None, false, refl}
use Rattle.ps_walks.proofs.Following.{front_moves}
use Rattle.ps_walks.proofs.walks.front_of.Goals as goal

pub returns : goal.returns
returns c =
    let entry = c.args.entry in
    front_moves entry
    (record { context = entry.context; steps = c.args.steps; refused = false; shown = None })
    entry.steps c.args.steps refl refl c.requires

use Rattle.ps_gc.proofs.Spaces.{values_name}
use Rattle.ps_gc.proofs.inside.InsideCollectsCollectedSpace.try_flip.Goals as goal

pub joined_try_flip-requires-clause-stand : goal.joined_try_flip-requires-clause-stand
joined_try_flip-requires-clause-stand g c =
    values_name c.args.memory.now.collector.gc.seat.me.0.vm c.args.roots.now c.requires.values

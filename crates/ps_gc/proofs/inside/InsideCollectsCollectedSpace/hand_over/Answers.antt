use Rattle.ps_gc.proofs.Spaces.{values_name}
use Rattle.ps_gc.proofs.inside.InsideCollectsCollectedSpace.hand_over.Goals as goal

pub joined_hand_over-requires-clause-stand : goal.joined_hand_over-requires-clause-stand
joined_hand_over-requires-clause-stand g c =
    values_name c.args.memory.now.collector.gc.seat.me.0.vm c.args.roots.now c.requires.values

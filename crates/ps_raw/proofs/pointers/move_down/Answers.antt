use Rattle.ps_raw.proofs.Moves.{moved_down}
use Rattle.std.proofs.Common.{arith, ◌∙◌}
use Rattle.ps_raw.proofs.pointers.move_down.Goals as goal

pub loop-i-preserved : goal.loop-i-preserved
loop-i-preserved c =
    c.write_at.ensures ∙ moved_down c.args.words.now c.loop-i.words c.args.from c.args.to c.loop-i.i
    c.read_at-word.result c.requires.lower (omega arith) c.loop-i.invariant c.read_at-word.ensures

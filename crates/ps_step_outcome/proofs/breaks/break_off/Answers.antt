-- Frames are left, or the context ends.
use Rattle.ps_step_outcome.proofs.Breaking.{exits_turns, quits_turns, no_frames}
use Rattle.ps_step_outcome.proofs.breaks.break_off.Goals as goal

pub returns-in-Exit : goal.returns-in-Exit
returns-in-Exit g c =
    rw c.in-Exit.is (exits_turns c.args.attempt _ c.requires.good
    (no_frames _ (rw c.len.ensures.count at c.if-len-gt0.false)))

pub returns-in-Quit : goal.returns-in-Quit
returns-in-Quit g c =
    rw c.in-Quit.is (quits_turns c.args.attempt _ c.requires.good
    (no_frames _ (rw c.len.ensures.count at c.if-len-gt0.false)))

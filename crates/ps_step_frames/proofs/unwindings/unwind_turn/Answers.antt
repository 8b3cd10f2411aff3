-- By whether the frame holds a lock.
use Rattle.std.proofs.Common.{sym}
use Rattle.ps_step_frames.proofs.Going.{no_monitor, unlocked}
use Rattle.ps_step_frames.proofs.unwindings.unwind_turn.Goals as goal

pub unwind_unlocked-requires-clause-free : goal.unwind_unlocked-requires-clause-free
unwind_unlocked-requires-clause-free g c = no_monitor c.args.top c.in_default.not-Monitor

pub returns-in_default : goal.returns-in_default
returns-in_default g c =
    unlocked _ _ c.args.cause c.args.attempt _ c.args.top (sym c.requires.top)
    (no_monitor c.args.top c.in_default.not-Monitor) c.unwind_unlocked.ensures

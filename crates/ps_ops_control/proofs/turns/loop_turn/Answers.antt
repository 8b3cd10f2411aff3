-- The frame stays, and the procedure is entered.
use Rattle.std.proofs.Common.{sym}
use Rattle.ps_ops_control.proofs.Loops.{loop_is, loop_held}
use Rattle.ps_ops_control.proofs.turns.loop_turn.Goals as goal

pub returns-clause-turns : goal.returns-clause-turns
returns-clause-turns c =
    λ h size ready. c.go_on.ensures.turns _ h size ready (loop_held h size _ _ ready c.args.body (sym c.requires.top))
    (loop_is h size _ _ ready c.args.body (sym c.requires.top))

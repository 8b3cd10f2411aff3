-- One turn less, or the end.
use Rattle.std.proofs.Common.{arith, sym}
use Rattle.std.proofs.lemmas.Bool.Decides.{nat_tests}
use Rattle.ps_ops_control.proofs.Loops.{repeat_is, repeat_held, repeat_ends}
use Rattle.ps_ops_control.proofs.turns.repeat_turn.Goals as goal

pub returns-then-count-eq0-clause-turns : goal.returns-then-count-eq0-clause-turns
returns-then-count-eq0-clause-turns c =
    λ h size ready. rw (c.leave.ensures) (repeat_ends h size _ _ ready c.args.body c.args.count
    (omega (arith, nat_tests, c.if-count-eq0.true)) (sym c.requires.top))

pub returns-clause-turns : goal.returns-clause-turns
returns-clause-turns c =
    λ h size ready. c.go_on.ensures.turns _ h size ready
    (repeat_held h size _ _ ready c.args.body c.args.count _ (sym c.requires.top))
    (repeat_is h size _ _ ready c.args.body c.args.count (omega (arith, nat_tests, c.if-count-eq0.false))
    (sym c.requires.top))

-- The next element, or the end.
use Rattle.std.proofs.Common.{sym, subst}
use Rattle.ps_ops_control.specs.Turns.{IsPushed}
use Rattle.ps_ops_control.proofs.Loops.{forall_is, forall_held, forall_ends}
use Rattle.ps_ops_control.proofs.turns.forall_turn.Goals as goal

pub returns-in_default-clause-turns : goal.returns-in_default-clause-turns
returns-in_default-clause-turns c =
    λ h size ready is. rw (c.leave.ensures) (forall_ends h size _ _ ready c.args.state.over c.args.state.at c.args.state.body
    (sym c.requires.top) (subst (IsPushed h c.args.state.over c.args.state.at) c.in_default.is is))

pub returns-clause-turns : goal.returns-clause-turns
returns-clause-turns c =
    λ h size ready is. c.go_on.ensures.turns _ h size ready
    (forall_held h size _ _ ready c.args.state.over c.args.state.at c.args.state.body (sym c.requires.top) _
    (subst (IsPushed h c.args.state.over c.args.state.at) c.in-Some.is is))
    (forall_is h size _ _ ready c.args.state.over c.args.state.at c.args.state.body (sym c.requires.top) _
    (subst (IsPushed h c.args.state.over c.args.state.at) c.in-Some.is is))

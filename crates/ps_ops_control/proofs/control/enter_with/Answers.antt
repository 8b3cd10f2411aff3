-- An empty procedure needs no frame.
use Rattle.std.proofs.Common.{arith}
use Rattle.std.proofs.lemmas.Bool.Decides.{nat_tests}
use Rattle.ps_ops_control.proofs.Controlling.{controls_entered, begins_entered, within_procedure}
use Rattle.ps_ops_control.proofs.control.enter_with.Goals as goal

pub returns-then-body-eq0 : goal.returns-then-body-eq0
returns-then-body-eq0 c =
    record {
      controls = λ row h size ready held enters. rw (c.discard.ensures)
          (controls_entered row h size _ _ ready c.args.count c.args.body
          (omega (arith, nat_tests, c.if-body-eq0.true)) enters);
      framed = tt;
    }

pub returns : goal.returns
returns c = record {
  controls = λ row h size ready held enters.
      c.begin.ensures.controls row h size ready (
        held,
        omega (arith, nat_tests, c.if-body-eq0.false),
      ) (within_procedure h _ _ c.args.body) (begins_entered row h size _ _ ready c.args.count c.args.body
      (omega (arith, nat_tests, c.if-body-eq0.false)) enters);
  framed = c.begin.ensures.framed;
}

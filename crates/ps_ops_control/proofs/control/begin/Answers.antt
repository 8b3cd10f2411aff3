-- The frame is pushed, or there is no room for it.
use Rattle.std.proofs.Common.{refl, arith}
use Rattle.std.proofs.lemmas.Bool.Decides.{nat_tests}
use Rattle.ps_ops_control.proofs.Controlling.{controls_full, controls_pushed}
use Rattle.ps_ops_control.proofs.control.begin.Goals as goal

pub returns-then-is_full : goal.returns-then-is_full
returns-then-is_full c =
    record {
      controls = λ row h size ready held within begins.
          controls_full row h size _ _ ready c.args.count c.args.frame begins
          (grind (arith, nat_tests, c.is_full.ensures, c.if-is_full.true));
      framed = refl;
    }

pub returns : goal.returns
returns c = record {
  controls = λ row h size ready held within begins.
      rw (c.discard.ensures, c.push_frame.ensures)
      (controls_pushed row h size _ _ ready c.args.count c.args.frame begins
      (grind (arith, nat_tests, c.is_full.ensures, c.if-is_full.false)) held within);
  framed = tt;
}

-- Two frames, or no room for them.
use Rattle.std.proofs.Common.{refl, arith}
use Rattle.std.proofs.lemmas.Bool.Decides.{nat_tests}
use Rattle.ps_language.specs.declared.errors.ErrorName.TheVariants.{ExecStackOverflow}
use Rattle.ps_language.specs.Control.{stopped_row}
use Rattle.ps_ops_control.proofs.Controlling.{controls_failed}
use Rattle.ps_ops_control.proofs.Rows.{stopped_full, stopped_held}
use Rattle.ps_ops_control.proofs.control.begin_stopped.Goals as goal

pub returns-then-len : goal.returns-then-len
returns-then-len c = record {
  controls = λ h size ready. controls_failed stopped_row h size _ ready ExecStackOverflow
      (λ names store dictionaries. stopped_full h _ _ _ c.in-Some.ensures
      (omega (arith, nat_tests, c.len.ensures.count, c.if-len.true)) names store dictionaries);
  framed = refl;
}

pub returns : goal.returns
returns c =
    record {
      controls = λ h size ready. rw (c.discard.ensures, c.push_frame-2.ensures, c.push_frame.ensures)
          (stopped_held h size _ _ ready _ c.in-Some.ensures
          (omega (arith, nat_tests, c.len.ensures.count, c.if-len.false)));
      framed = tt;
    }

use Rattle.std.proofs.lemmas.Result.{IfOk-weaker}
use Rattle.ps_run.proofs.pictures.picture_of.Goals as goal

pub returns : goal.returns
returns g c = IfOk-weaker c.timeline_of.result _ _ (λ text is. record {
  told = is.0;
  is_told = rw (c.program_name.ensures, c.called.ensures, c.entries.ensures) at is.1;
  is_text = is.2;
}) c.timeline_of.ensures

-- Its two pieces, and a number with its label.
use Rattle.ps_run.proofs.Tellings.{tells_both}
use Rattle.ps_run.proofs.views.tell_past_end.Goals as goal

pub returns-clause-told : goal.returns-clause-told
returns-clause-told g c =
    tells_both _ _ _ _ _ c.tell.ensures
    (tells_both _ _ _ _ _ (rw (c.as_bytes.ensures.value, c.format.ensures.text) at
    c.tell-2.ensures) c.tell_number.ensures)

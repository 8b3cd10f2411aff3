-- Its three pieces.
use Rattle.ps_run.proofs.Tellings.{tells_both}
use Rattle.ps_run.proofs.writing.tell_number.Goals as goal

pub returns : goal.returns
returns g c =
    tells_both _ _ _ _ _ c.tell.ensures
    (tells_both _ _ _ _ _ (rw (c.as_bytes.ensures.value, c.format.ensures.text) at
    c.tell-2.ensures) c.tell-3.ensures)

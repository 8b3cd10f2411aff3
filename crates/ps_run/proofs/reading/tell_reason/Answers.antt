-- Its five pieces.
use Rattle.ps_run.proofs.Tellings.{tells_both}
use Rattle.ps_run.proofs.reading.tell_reason.Goals as goal

pub returns : goal.returns
returns g c =
    tells_both _ _ _ _ _ c.tell.ensures
    (tells_both _ _ _ _ _ (rw c.as_bytes.ensures.value at c.tell-2.ensures)
    (tells_both _ _ _ _ _ c.tell-3.ensures
    (tells_both _ _ _ _ _ (rw c.as_bytes-2.ensures.value at c.tell-4.ensures) c.tell-5.ensures)))

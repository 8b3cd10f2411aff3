-- Its three pieces.
use Rattle.ps_run.proofs.Tellings.{tells_both}
use Rattle.ps_run.proofs.pictures.tell_over_schedule.Goals as goal

pub returns-clause-told : goal.returns-clause-told
returns-clause-told g c =
    tells_both _ _ _ _ _ c.tell.ensures
    (tells_both _ _ _ _ _ (rw c.as_bytes.ensures.value at c.tell-2.ensures) c.tell-3.ensures)

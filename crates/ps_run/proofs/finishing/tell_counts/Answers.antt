use Rattle.ps_run.proofs.Tellings.{tells_both}
use Rattle.ps_run.proofs.finishing.tell_counts.Goals as goal

pub returns : goal.returns
returns g c =
    tells_both _ _ _ _ _ (rw c.from.ensures at c.tell_number.ensures)
    (tells_both _ _ _ _ _ c.tell_number-2.ensures
    (rw (c.steps_of.ensures, c.entries.ensures) at c.tell_number-3.ensures))

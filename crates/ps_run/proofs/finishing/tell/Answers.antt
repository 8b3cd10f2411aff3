use Rattle.ps_run.proofs.Tellings.{tells_both}
use Rattle.ps_run.proofs.finishing.tell.Goals as goal
use Rattle.ps_run.proofs.finishing.tell.Goals.{then-stats, else-stats}

pub returns : goal.returns
returns g c = elim c.if-stats.branch [
  | then-stats w ↦
      rw w.if-stats.true
      (tells_both _ _ _ _ _ w.tell_counts.ensures (rw w.err-is at c.end.ensures.told))
  | else-stats w ↦ rw w.if-stats.false (rw w.err-is at c.end.ensures.told)
]

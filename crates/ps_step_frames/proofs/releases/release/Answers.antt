-- The record is asked for.
use Rattle.ps_step_frames.proofs.releases.release.Goals as goal

pub returns-clause-shows : goal.returns-clause-shows
returns-clause-shows g c = rw c.permit_records.ensures.heap at c.free_lock.ensures.shows

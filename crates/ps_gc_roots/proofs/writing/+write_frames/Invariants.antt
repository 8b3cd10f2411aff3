use Rattle.std.proofs.Common.{length}
use Rattle.ps_gc_roots.proofs.writing.+write_frames.Given as goal

abbrev pub decreases-write_frames : goal.decreases-write_frames
decreases-write_frames l = length l.frames.now

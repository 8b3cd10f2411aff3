use Rattle.std.proofs.Common.{◌+◌}
use Rattle.std.proofs.KnownBytes.{Appends-kept}
use Rattle.ps_run.proofs.Written.{part_taken, taken_slice, taken_few, wrote}
use Rattle.ps_run.proofs.writing.write_part.Goals as goal
use Rattle.ps_run.proofs.writing.write_part.Goals.{in-Ok, in-Err}

pub returns-in-Ok-eq0-clause-part : goal.returns-in-Ok-eq0-clause-part
returns-in-Ok-eq0-clause-part g c =
    part_taken _ _ c.args.bytes.now (c.loop.written + c.in-Ok-eq0.field-0)
    (taken_slice _ _ _ c.args.bytes.now c.loop.written c.in-Ok-eq0.field-0 c.loop.invariant.taken
    (wrote _ _ c.write.result c.in-Ok-eq0.field-0 _ c.in-Ok-eq0.is c.write.ensures.bytes))

pub returns-in-Err-2-clause-part : goal.returns-in-Err-2-clause-part
returns-in-Err-2-clause-part g c =
    part_taken _ _ c.args.bytes.now c.loop.written
    (Appends-kept _ _ _ _ c.loop.invariant.taken c.in-Err.ensures.bytes)

pub loop-preserved : goal.loop-preserved
loop-preserved g c = elim c.match-write.branch [
  | in-Ok w ↦ record {
    few = rw w.written-is (taken_few c.args.bytes.now c.loop.written w.in-Ok.count
        c.loop.invariant.few w.in-Ok.ensures.bound);
    taken = rw w.written-is (taken_slice _ _ _ c.args.bytes.now c.loop.written w.in-Ok.count
        c.loop.invariant.taken w.in-Ok.ensures.bytes);
  }
  | in-Err w ↦ record {
    few = rw w.written-is c.loop.invariant.few;
    taken = rw w.written-is (Appends-kept _ _ _ _ c.loop.invariant.taken w.in-Err.ensures.bytes);
  }
]

pub returns-clause-part : goal.returns-clause-part
returns-clause-part g c = part_taken _ _ c.args.bytes.now c.loop.written c.loop.invariant.taken

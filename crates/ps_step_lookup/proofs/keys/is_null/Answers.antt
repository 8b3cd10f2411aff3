use Rattle.std.proofs.Common.{sym, ◌∙◌}
use Rattle.ps_mem.specs.Heap.{birth_at}
use Rattle.ps_step_lookup.proofs.Keying.{null_is}
use Rattle.ps_step_lookup.proofs.keys.is_null.Goals as goal

pub returns : goal.returns
returns c = λ h names held.
    null_is (birth_at h) names h c.args.word held ∙ sym (c.is_null.ensures held.word)

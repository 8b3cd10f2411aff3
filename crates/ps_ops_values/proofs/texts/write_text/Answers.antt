-- The text was written.
use Rattle.std.proofs.Common.{ℕ, List, subst}
use Rattle.ps_language.specs.Access.{with_part_bytes}
use Rattle.ps_mem.specs.Heap.{birth_at}
use Rattle.ps_mem.specs.Meaning.{part_of}
use Rattle.ps_mem.specs.Shows.{Shows}
use Rattle.ps_ops_values.proofs.texts.write_text.Goals as goal

pub returns-in-Ok-clause-shows : goal.returns-in-Ok-clause-shows
returns-in-Ok-clause-shows g c = λ names s shows within.
    let h = g.M.Memory.heap c.args.memory.now in
    let written = rw c.permitted.ensures.heap at c.in-Ok.ensures.shows in
    subst (λ (t : List ℕ). Shows (g.M.Memory.heap c.set_bytes-written.new.memory) names
    (with_part_bytes s (part_of (birth_at h) c.args.part) 0 t)) c.as_slice.ensures.value
    (written names s shows within)

use Rattle.std.proofs.Common.{◌+◌, arith, ap, ◌∙◌}
use Rattle.std.specs.Prelude.{slice_range}
use Rattle.ps_language.specs.Access.{bytes}
use Rattle.ps_mem.specs.Heap.{birth_at}
use Rattle.ps_seq.proofs.reads.read_part.Goals as goal

pub returns-clause-value : goal.returns-clause-value
returns-clause-value g c = λ names s shows within.
    let p = c.args.part in
    let t = bytes s (birth_at (g.M.Memory.heap c.args.memory.now) p.address) in
    let size = c.requires.length in
    c.read_run.ensures.value names s shows (omega (arith, within, size))
    ∙ ap (λ n. slice_range t p.offset (p.offset + n)) size

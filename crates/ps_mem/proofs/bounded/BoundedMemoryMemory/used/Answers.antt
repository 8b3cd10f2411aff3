use Rattle.std.proofs.Common.{sym, ◌∙◌, arith}
use Rattle.ps_mem.specs.Objects.{heap_in}
use Rattle.ps_mem.proofs.SpaceLemmas.{used-plain}
use Rattle.ps_mem.specs.Bounded.{bounded_space}
use Rattle.ps_mem.proofs.bounded.BoundedMemoryMemory.used.Goals as goal

pub returns-clause-answer : goal.returns-clause-answer
returns-clause-answer c = let r = c.args.self.now.region in c.used.ensures.answer
    ∙ sym (used-plain r.words r.used r.next (bounded_space c.args.self.now.size))

pub returns-clause-counted : goal.returns-clause-counted
returns-clause-counted c = let r = c.args.self.now.region in
    used-plain r.words r.used r.next (bounded_space c.args.self.now.size)
    ∙ sym (c.used.ensures.counted (bounded_space c.args.self.now.size))

pub returns-clause-within : goal.returns-clause-within
unfolding heap_in
returns-clause-within c = let filled = c.args.self.now.filled in omega (arith, filled)

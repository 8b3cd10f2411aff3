use Rattle.std.proofs.Common.{sym, ◌∙◌, arith}
use Rattle.ps_mem.specs.Objects.{heap_in}
use Rattle.ps_mem.proofs.SpaceLemmas.{used-plain}
use Rattle.ps_mem.specs.Plain.{plain_space}
use Rattle.ps_mem.proofs.plain.PlainMemoryMemory.used.Goals as goal

pub returns-clause-answer : goal.returns-clause-answer
returns-clause-answer c = let r = c.args.self.now.region in c.used.ensures.answer
    ∙ sym (used-plain r.words r.used r.next plain_space)

pub returns-clause-counted : goal.returns-clause-counted
returns-clause-counted c = let r = c.args.self.now.region in
    used-plain r.words r.used r.next plain_space ∙ sym (c.used.ensures.counted plain_space)

pub returns-clause-within : goal.returns-clause-within
unfolding heap_in
returns-clause-within c =
    let r = c.args.self.now.region in
    let limited = r.limited in
    let within = r.within in
    omega (arith, limited, within)

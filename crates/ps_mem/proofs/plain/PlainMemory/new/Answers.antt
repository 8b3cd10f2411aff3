use Rattle.std.proofs.Common.{◌∙◌, ap}
use Rattle.ps_mem.specs.Objects.{heap_in}
use Rattle.ps_mem.specs.Plain.{plain_space}
use Rattle.ps_mem.proofs.EmptyLemmas.{heap_in-none}
use Rattle.ps_mem.proofs.plain.PlainMemory.new.Goals as goal

pub returns : goal.returns
returns c =
    let r = c.empty.result in
    ap (λ u. heap_in r.words u r.next plain_space) c.empty.ensures.1
    ∙ (ap (λ n. heap_in r.words 0 n plain_space) c.empty.ensures.2 ∙ heap_in-none r.words plain_space)

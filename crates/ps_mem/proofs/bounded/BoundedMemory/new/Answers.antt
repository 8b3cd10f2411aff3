use Rattle.std.proofs.Common.{◌∙◌, ap}
use Rattle.ps_mem.specs.Objects.{heap_in}
use Rattle.ps_mem.specs.Bounded.{bounded_space}
use Rattle.ps_mem.proofs.EmptyLemmas.{heap_in-none}
use Rattle.ps_mem.proofs.bounded.BoundedMemory.new.Goals as goal

pub returns-clause-empty : goal.returns-clause-empty
returns-clause-empty c =
    let r = c.in_ok-region.region in
    let space = bounded_space c.args.size in
    ap (λ u. heap_in r.words u r.next space) c.in_ok-region.ensures.empty.0
    ∙ (ap (λ n. heap_in r.words 0 n space) c.in_ok-region.ensures.empty.1 ∙ heap_in-none r.words space)

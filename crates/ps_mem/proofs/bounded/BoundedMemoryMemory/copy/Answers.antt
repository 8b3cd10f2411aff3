use Rattle.std.proofs.Common.{◌+◌, ◌≤◌, length, subst, sym}
use Rattle.ps_mem.specs.Heap.{Space, fields_at}
use Rattle.ps_mem.specs.Objects.{heap_in}
use Rattle.ps_mem.specs.Bounded.{bounded_space}
use Rattle.ps_mem.specs.declared.region.Region.{Region}
use Rattle.ps_mem.proofs.SpaceLemmas.{reaches_any}
use Rattle.ps_mem.proofs.bounded.BoundedMemoryMemory.copy.Goals as goal

pub copy-requires-clause-source : goal.copy-requires-clause-source
copy-requires-clause-source c =
    let r = c.args.self.now.region in
    subst (λ (s : Region). (space : Space)
    → c.args.from.place + c.args.count
    ≤ length (fields_at (heap_in s.words s.used s.next space) c.args.from.address))
    (sym c.log.ensures.region)
    (reaches_any r.words r.used r.next (bounded_space c.args.self.now.size) c.args.from.address
    (c.args.from.place + c.args.count) c.requires.source)

pub copy-requires-clause-target : goal.copy-requires-clause-target
copy-requires-clause-target c =
    let r = c.args.self.now.region in
    subst (λ (s : Region). (space : Space)
    → c.args.to.place + c.args.count
    ≤ length (fields_at (heap_in s.words s.used s.next space) c.args.to.address))
    (sym c.log.ensures.region)
    (reaches_any r.words r.used r.next (bounded_space c.args.self.now.size) c.args.to.address
    (c.args.to.place + c.args.count) c.requires.target)

use Rattle.std.proofs.Common.{◌+◌, ◌≤◌, length, subst, sym}
use Rattle.ps_mem.specs.Heap.{Space, fields_at}
use Rattle.ps_mem.specs.Objects.{heap_in}
use Rattle.ps_mem.specs.Bounded.{bounded_space}
use Rattle.ps_mem.specs.declared.region.Region.{Region}
use Rattle.ps_mem.proofs.SpaceLemmas.{reaches_any}
use Rattle.ps_mem.proofs.bounded.BoundedMemoryMemory.store.Goals as goal

pub write-requires : goal.write-requires
write-requires c =
    let r = c.args.self.now.region in
    subst (λ (s : Region). (space : Space)
    → c.args.place + length c.args.items.now ≤ length
    (fields_at (heap_in s.words s.used s.next space) c.args.address)) (sym c.log.ensures.region)
    (reaches_any r.words r.used r.next (bounded_space c.args.self.now.size) c.args.address
    (c.args.place + length c.args.items.now) c.requires.place)

use Rattle.ps_mem.specs.Bounded.{bounded_space}
use Rattle.ps_mem.proofs.SpaceLemmas.{stands_any}
use Rattle.ps_mem.proofs.bounded.BoundedMemoryMemory.header.Goals as goal

pub header-requires : goal.header-requires
header-requires c = let r = c.args.self.now.region in
    stands_any r.words r.used r.next (bounded_space c.args.self.now.size) c.args.address c.requires.stands

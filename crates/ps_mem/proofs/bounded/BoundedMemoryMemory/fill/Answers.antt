use Rattle.ps_mem.specs.Bounded.{bounded_space}
use Rattle.ps_mem.proofs.SpaceLemmas.{below_any}
use Rattle.ps_mem.proofs.bounded.BoundedMemoryMemory.fill.Goals as goal

pub put-requires : goal.put-requires
put-requires c = let r = c.args.self.now.region in
    below_any r.words r.used r.next (bounded_space c.args.self.now.size) c.args.address c.args.place c.requires.place

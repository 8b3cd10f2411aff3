use Rattle.std.proofs.Common.{◌-◌}
use Rattle.ps_mem.specs.Bounded.{bounded_space}
use Rattle.ps_mem.proofs.SpaceLemmas.{below_any}
use Rattle.ps_mem.proofs.bounded.BoundedMemoryMemory.load_at.Goals as goal

pub load_at-requires-clause-place : goal.load_at-requires-clause-place
load_at-requires-clause-place c =
    let r = c.args.self.now.region in
    below_any r.words r.used r.next (bounded_space c.args.self.now.size) c.args.address
    (c.args.at - c.args.address)
    c.requires.place

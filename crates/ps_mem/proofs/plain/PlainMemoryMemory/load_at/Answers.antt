use Rattle.std.proofs.Common.{◌-◌}
use Rattle.ps_mem.specs.Plain.{plain_space}
use Rattle.ps_mem.proofs.SpaceLemmas.{below_any}
use Rattle.ps_mem.proofs.plain.PlainMemoryMemory.load_at.Goals as goal

pub load_at-requires-clause-place : goal.load_at-requires-clause-place
load_at-requires-clause-place c =
    let r = c.args.self.now.region in
    below_any r.words r.used r.next plain_space c.args.address (c.args.at - c.args.address)
    c.requires.place

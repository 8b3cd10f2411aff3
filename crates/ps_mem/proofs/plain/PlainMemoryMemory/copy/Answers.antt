use Rattle.std.proofs.Common.{◌+◌}
use Rattle.ps_mem.specs.Plain.{plain_space}
use Rattle.ps_mem.proofs.SpaceLemmas.{reaches_any}
use Rattle.ps_mem.proofs.plain.PlainMemoryMemory.copy.Goals as goal

pub copy-requires-clause-source : goal.copy-requires-clause-source
copy-requires-clause-source c = let r = c.args.self.now.region in
    reaches_any r.words r.used r.next plain_space c.args.from.address
    (c.args.from.place + c.args.count) c.requires.source

pub copy-requires-clause-target : goal.copy-requires-clause-target
copy-requires-clause-target c = let r = c.args.self.now.region in
    reaches_any r.words r.used r.next plain_space c.args.to.address
    (c.args.to.place + c.args.count) c.requires.target

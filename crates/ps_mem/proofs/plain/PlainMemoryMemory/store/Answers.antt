use Rattle.std.proofs.Common.{◌+◌, length}
use Rattle.ps_mem.specs.Plain.{plain_space}
use Rattle.ps_mem.proofs.SpaceLemmas.{reaches_any}
use Rattle.ps_mem.proofs.plain.PlainMemoryMemory.store.Goals as goal

pub write-requires : goal.write-requires
write-requires c = let r = c.args.self.now.region in
    reaches_any r.words r.used r.next plain_space c.args.address
    (c.args.place + length c.args.items.now) c.requires.place

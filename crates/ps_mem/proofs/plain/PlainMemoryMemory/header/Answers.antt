use Rattle.ps_mem.specs.Plain.{plain_space}
use Rattle.ps_mem.proofs.SpaceLemmas.{stands_any}
use Rattle.ps_mem.proofs.plain.PlainMemoryMemory.header.Goals as goal

pub header-requires : goal.header-requires
header-requires c = let r = c.args.self.now.region in
    stands_any r.words r.used r.next plain_space c.args.address c.requires.stands

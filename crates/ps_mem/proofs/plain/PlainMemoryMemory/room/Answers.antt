use Rattle.std.proofs.Common.{sym}
use Rattle.ps_mem.proofs.SpaceLemmas.{has_room-plain}
use Rattle.ps_mem.proofs.plain.PlainMemoryMemory.room.Goals as goal

pub returns-clause-answer : goal.returns-clause-answer
returns-clause-answer c = let r = c.args.self.now.region in
    sym (has_room-plain r.words r.used r.next c.args._words c.args._births)

use Rattle.ps_ctx_readers.proofs.Standing.{birth_read}
use Rattle.ps_ctx_readers.proofs.births.birth_of.Goals as goal

pub returns-clause-birth : goal.returns-clause-birth
returns-clause-birth g c =
    birth_read (g.M.Memory.heap c.args.memory.now) c.args.address c.header.result
    c.requires.stands c.header.ensures.answer

use Rattle.std.proofs.Common.{arith}
use Rattle.ps_table.proofs.plain_words.note_named.Goals as goal

pub load-requires : goal.load-requires
load-requires g c =
    let one = c.requires.same.1 in (c.requires.same.0, omega arith, c.requires.allows _ _)

-- No dictionary has a string.
use Rattle.std.proofs.Common.{sym, refl}
use Rattle.ps_dict.specs.Places.{pairs_at}
use Rattle.ps_dict.proofs.KeyLemmas.{string_absent}
use Rattle.ps_dict.proofs.dictionaries.near_position.Goals as goal

pub returns-in-None-clause-words : goal.returns-in-None-clause-words
returns-in-None-clause-words g c =
    sym (string_absent c.args.key (c.sought_place.ensures.string (rw c.in-None.is refl))
    (pairs_at (g.M.Memory.heap c.args.memory.now) c.args.address))

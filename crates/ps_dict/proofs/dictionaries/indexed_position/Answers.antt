-- An index has few places.
use Rattle.std.proofs.Common.{arith}
use Rattle.ps_dict.proofs.Probing.{few-places}
use Rattle.ps_dict.proofs.dictionaries.indexed_position.Goals as goal

pub place_behind-place-requires-clause-few : goal.place_behind-place-requires-clause-few
place_behind-place-requires-clause-few g c =
    let few = few-places (g.M.Memory.heap c.args.memory.now) c.args.address c.requires.known
    c.requires.sound in
    let capacity = c.requires.capacity in
    omega (arith, few, capacity)

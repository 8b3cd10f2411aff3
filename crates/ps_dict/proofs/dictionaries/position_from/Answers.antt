-- What the first place tells.
use Rattle.std.proofs.Common.{◌%◌, ◌∙◌, ap, sym, refl}
use Rattle.ps_mem.specs.Heap.{birth_at}
use Rattle.ps_mem.specs.Index.{hash_of}
use Rattle.ps_dict.proofs.Probing.{first-tells}
use Rattle.ps_dict.proofs.dictionaries.position_from.Goals as goal

pub indexed_position-requires-clause-ahead : goal.indexed_position-requires-clause-ahead
indexed_position-requires-clause-ahead g c =
    let h = g.M.Memory.heap c.args.memory.now in
    let tells = first-tells h h c.args.address c.args.capacity c.args.start
    c.args.key c.look_at.result c.requires.known c.requires.sound refl
    c.requires.capacity c.requires.some c.requires.below c.requires.start c.look_at.ensures.tells in
    rw c.look_at.ensures.heap (rw c.in-Other.is at tells)

pub returns-in-Here-clause-words : goal.returns-in-Here-clause-words
returns-in-Here-clause-words g c =
    let h = g.M.Memory.heap c.args.memory.now in
    let tells = first-tells h h c.args.address c.args.capacity c.args.start
    c.args.key c.look_at.result c.requires.known c.requires.sound refl
    c.requires.capacity c.requires.some c.requires.below c.requires.start c.look_at.ensures.tells in
    sym (rw c.in-Here.is at tells)

pub returns-in-Free-clause-words : goal.returns-in-Free-clause-words
returns-in-Free-clause-words g c =
    let h = g.M.Memory.heap c.args.memory.now in
    let tells = first-tells h h c.args.address c.args.capacity c.args.start
    c.args.key c.look_at.result c.requires.known c.requires.sound refl
    c.requires.capacity c.requires.some c.requires.below c.requires.start c.look_at.ensures.tells in
    sym (rw c.in-Free.is at tells)

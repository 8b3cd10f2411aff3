-- A name's hash number is its own.
use Rattle.std.proofs.Common.{◌≡◌, ◌%◌, ◌∙◌, ap, sym}
use Rattle.ps_mem.specs.Heap.{Heap, birth_at}
use Rattle.ps_dict.proofs.Hashing.{name_hash}
use Rattle.ps_dict.proofs.Probing.{ahead-none}
use Rattle.ps_dict.proofs.dictionaries.name_position.Goals as goal

pub returns-then-capacity-eq0-clause-words : goal.returns-then-capacity-eq0-clause-words
returns-then-capacity-eq0-clause-words g c =
    let h = g.M.Memory.heap c.args.memory.now in
    sym (ahead-none h c.args.address c.requires.known c.requires.sound c.args.key
    (sym c.capacity-capacity.ensures.words ∙ c.if-capacity-eq0.true))

pub position_from-requires-clause-start : goal.position_from-requires-clause-start
position_from-requires-clause-start g c =
    rw c.capacity-capacity.ensures.heap
    (c.remainder-start.ensures.answer
    ∙ ap (λ n. n % c.capacity-capacity.result)
    (name_hash (birth_at (g.M.Memory.heap c.args.memory.now)) c.args.key c.args.name
    c.requires.name))

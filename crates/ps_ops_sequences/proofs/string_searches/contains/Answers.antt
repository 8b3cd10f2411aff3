-- It is found where it is in what was read.
use Rattle.std.proofs.Common.{◌∙◌, ap, is_some}
use Rattle.ps_language.specs.Access.{part_bytes}
use Rattle.ps_mem.specs.Heap.{birth_at}
use Rattle.ps_mem.specs.Meaning.{part_of}
use Rattle.ps_ops_sequences.proofs.Places.{finds_place}
use Rattle.ps_ops_sequences.proofs.string_searches.contains.Goals as goal

pub returns-clause-value : goal.returns-clause-value
returns-clause-value g c = λ names s shows in_part in_wanted.
    let births = birth_at (g.M.Memory.heap c.args.memory.now) in
    let text = part_bytes s (part_of births c.args.part) in
    let needle = part_bytes s (part_of births c.args.wanted) in
    let read = rw c.read_bytes.ensures.heap at c.read_bytes-2.ensures.value in
    let found = rw (
      c.read_bytes.ensures.value names s shows in_part,
      read names s shows in_wanted,
    ) at c.find.ensures in
    c.is_some.ensures ∙ ap is_some (finds_place text needle _ found)

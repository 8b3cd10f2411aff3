-- There is room for the bytes, so they are appended.
use Rattle.std.proofs.Common.{◌++◌, ap, append_assoc, ◌∙◌, arith}
use Rattle.ps_language.specs.Access.{part_bytes}
use Rattle.ps_mem.specs.Heap.{birth_at}
use Rattle.ps_mem.specs.Meaning.{part_of}
use Rattle.ps_text.proofs.Cuts.{with_room}
use Rattle.ps_text.proofs.plain.append_part.Goals as goal

pub returns-clause-ok : goal.returns-clause-ok
returns-clause-ok g c = λ names s shows within.
    let p = c.args.part in
    let text = part_bytes s (part_of (birth_at (g.M.Memory.heap c.args.memory.now)) p) in
    let old = c.args.output.now.items in
    let room = c.in_ok-reserve.ensures in
    let written = with_room c.append_bytes.result c.append_bytes.ensures.full
    (λ full. omega (arith, full, room.ok, room.len)) (c.append_bytes.ensures.value names s shows within) in
    c.add.ensures.items
    ∙ (ap (λ xs. xs ++ c.args.ending.now) (written ∙ ap (λ xs. xs ++ text) room.items)
    ∙ append_assoc old text c.args.ending.now)

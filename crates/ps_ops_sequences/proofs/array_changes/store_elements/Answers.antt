use Rattle.std.proofs.Common.{◌+◌, ◌≡◌, [], arith, subst, sym, ap, ◌∙◌, length}
use Rattle.std.specs.Prelude.{reverse, take}
use Rattle.std.proofs.lemmas.List.{length-reverse, length-take-le}
use Rattle.ps_language.specs.Access.{elements, with_elements, splice, with_part_elements}
use Rattle.ps_mem.specs.Heap.{Heap, birth_at, stored}
use Rattle.ps_mem.specs.Keeps.{Keeps}
use Rattle.ps_mem.specs.Meaning.{part_of}
use Rattle.ps_mem.specs.Shows.{IsSound, Shows}
use Rattle.ps_mem.proofs.HeapLemmas.{birth_at-stored}
use Rattle.ps_seq.proofs.ArrayLemmas.{array_reaches, array_store_sound, array_store_keeps, array_store_shows, nothing_copied}
use Rattle.ps_ops_operands.specs.Changes.{values_in}
use Rattle.ps_ops_operands.proofs.Tops.{top_values, top_within, top_elements}
use Rattle.ps_ops_sequences.proofs.array_changes.store_elements.Goals as goal

pub store-requires-clause-place : goal.store-requires-clause-place
store-requires-clause-place g c =
    let h = g.M.Memory.heap c.args.memory.now in
    let p = c.args.part in
    let reach = array_reaches h p.address (p.offset + p.length) c.requires.stands in
    omega (
      arith,
      reach,
      ap length c.topmost.ensures,
      length-reverse (take p.length c.args.operands.now),
      length-take-le p.length c.args.operands.now c.requires.within,
    )

pub returns-then-part-ne0-clause-sound : goal.returns-then-part-ne0-clause-sound
returns-then-part-ne0-clause-sound g c =
    let h = g.M.Memory.heap c.args.memory.now in
    let p = c.args.part in
    let count = ap length c.topmost.ensures in
    let values = top_values h c.args.operands.now p.length c.topmost.result.now c.requires.ready.values
    c.topmost.ensures in
    subst IsSound (sym c.store.ensures.heap)
    (array_store_sound h p.address (p.offset + p.length) c.requires.stands c.requires.ready.sound p.offset
    c.topmost.result.now
    (omega (
      arith,
      count,
      length-reverse (take p.length c.args.operands.now),
      length-take-le p.length c.args.operands.now c.requires.within,
    )) values)

pub returns-then-part-ne0-clause-keeps : goal.returns-then-part-ne0-clause-keeps
returns-then-part-ne0-clause-keeps g c =
    let h = g.M.Memory.heap c.args.memory.now in
    let p = c.args.part in
    let count = ap length c.topmost.ensures in
    let values = top_values h c.args.operands.now p.length c.topmost.result.now c.requires.ready.values
    c.topmost.ensures in
    subst (Keeps h) (sym c.store.ensures.heap)
    (array_store_keeps h p.address (p.offset + p.length) c.requires.stands c.requires.ready.sound p.offset
    c.topmost.result.now
    (omega (
      arith,
      count,
      length-reverse (take p.length c.args.operands.now),
      length-take-le p.length c.args.operands.now c.requires.within,
    )) values)

pub returns-then-part-ne0-clause-births : goal.returns-then-part-ne0-clause-births
returns-then-part-ne0-clause-births g c = ap birth_at c.store.ensures.heap ∙ birth_at-stored _ _ _ _

pub returns-then-part-ne0-clause-shows : goal.returns-then-part-ne0-clause-shows
returns-then-part-ne0-clause-shows g c = λ names s shows within.
    let h = g.M.Memory.heap c.args.memory.now in
    let p = c.args.part in
    let b = birth_at h p.address in
    let count = ap length c.topmost.ensures in
    let values = top_values h c.args.operands.now p.length c.topmost.result.now c.requires.ready.values
    c.topmost.ensures in
    let inside = top_within h names s c.args.operands.now p.length c.topmost.result.now within c.topmost.ensures in
    let front : p.offset ≡ p.offset + 0 = omega arith in
    let items_are = top_elements h names c.args.operands.now p.length c.topmost.result.now c.topmost.ensures in
    subst (λ (k : Heap). Shows k names (with_part_elements s (part_of (birth_at h) p) 0
    (reverse (take p.length (values_in h names c.args.operands.now))))) (sym c.store.ensures.heap)
    (subst (λ vs. Shows (stored h p.address p.offset c.topmost.result.now) names
    (with_elements s b (splice (elements s b) (p.offset + 0) vs))) items_are
    (subst (λ i. Shows (stored h p.address p.offset c.topmost.result.now) names
    (with_elements s b (splice (elements s b) i (values_in h names c.topmost.result.now)))) front
    (array_store_shows h p.address (p.offset + p.length) c.requires.stands c.requires.ready.sound p.offset
    c.topmost.result.now
    (omega (
      arith,
      count,
      length-reverse (take p.length c.args.operands.now),
      length-take-le p.length c.args.operands.now c.requires.within,
    )) values names s shows inside)))

pub returns-else-part-ne0-clause-shows : goal.returns-else-part-ne0-clause-shows
returns-else-part-ne0-clause-shows g c = λ names s shows within.
    let h = g.M.Memory.heap c.args.memory.now in
    let p = c.args.part in
    let b = birth_at h p.address in
    let nothing = nothing_copied h p.address (p.offset + p.length) c.requires.stands names s shows (p.offset + 0) 0
    [] in
    let none = c.if-part-ne0.false in
    subst (Shows h names)
    (sym
    (ap (λ n. with_elements s b
    (splice (elements s b) (p.offset + 0) (reverse (take n (values_in h names c.args.operands.now))))) none
    ∙ nothing)) shows

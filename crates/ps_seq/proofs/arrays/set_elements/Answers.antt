-- A store into an array.
use Rattle.std.proofs.Common.{◌+◌, arith, map, subst, sym, ap, ◌∙◌}
use Rattle.ps_language.specs.Access.{with_part_elements}
use Rattle.ps_mem.specs.Heap.{Heap, birth_at}
use Rattle.ps_mem.specs.Keeps.{Keeps}
use Rattle.ps_mem.specs.Meaning.{part_of, value_of}
use Rattle.ps_mem.specs.Shows.{IsSound, Shows}
use Rattle.ps_mem.proofs.HeapLemmas.{birth_at-stored}
use Rattle.ps_seq.proofs.ArrayLemmas.{array_reaches, array_store_sound, array_store_keeps, array_store_shows, names_standing}
use Rattle.ps_seq.proofs.arrays.set_elements.Goals as goal

pub store-requires-clause-known : goal.store-requires-clause-known
store-requires-clause-known g c = names_standing _ _ _ c.requires.held

pub store-requires-clause-place : goal.store-requires-clause-place
store-requires-clause-place g c =
    let h = g.M.Memory.heap c.args.memory.now in
    let p = c.args.part in
    let reach = array_reaches h p.address (p.offset + p.length) c.requires.known in
    let fits = c.requires.fits in
    omega (arith, reach, fits)

pub returns-clause-sound : goal.returns-clause-sound
returns-clause-sound g c =
    let h = g.M.Memory.heap c.args.memory.now in
    let p = c.args.part in
    let fits = c.requires.fits in
    subst IsSound (sym c.store.ensures.heap) (array_store_sound h p.address
    (p.offset + p.length) c.requires.known c.requires.sound (p.offset + c.args.place)
    c.args.words.now (omega (arith, fits)) c.requires.held)

pub returns-clause-keeps : goal.returns-clause-keeps
returns-clause-keeps g c =
    let h = g.M.Memory.heap c.args.memory.now in
    let p = c.args.part in
    let fits = c.requires.fits in
    subst (Keeps h) (sym c.store.ensures.heap) (array_store_keeps h p.address
    (p.offset + p.length) c.requires.known c.requires.sound (p.offset + c.args.place)
    c.args.words.now (omega (arith, fits)) c.requires.held)

pub returns-clause-births : goal.returns-clause-births
returns-clause-births g c = ap birth_at c.store.ensures.heap ∙ birth_at-stored _ _ _ _

pub returns-clause-shows : goal.returns-clause-shows
returns-clause-shows g c = λ names s shows within.
    let h = g.M.Memory.heap c.args.memory.now in
    let p = c.args.part in
    let fits = c.requires.fits in
    subst (λ (k : Heap). Shows k names (with_part_elements s (part_of (birth_at h) p) c.args.place
    (map (value_of (birth_at h) names) c.args.words.now))) (sym c.store.ensures.heap)
    (array_store_shows h p.address (p.offset + p.length) c.requires.known c.requires.sound
    (p.offset + c.args.place) c.args.words.now (omega (arith, fits)) c.requires.held names s shows
    within)

use Rattle.std.proofs.Common.{◌+◌, [], ◌∷◌, arith, subst, sym, ap, ◌∙◌}
use Rattle.ps_mem.specs.Heap.{Heap, birth_at}
use Rattle.ps_mem.specs.Keeps.{Keeps}
use Rattle.ps_mem.specs.Shows.{IsSound, Shows}
use Rattle.ps_language.specs.Access.{with_part_elements}
use Rattle.ps_mem.specs.Meaning.{part_of, value_of}
use Rattle.ps_mem.proofs.HeapLemmas.{birth_at-stored}
use Rattle.ps_seq.proofs.ArrayLemmas.{array_reaches, array_store_sound, array_store_keeps, array_store_shows}
use Rattle.ps_seq.proofs.arrays.set_element.Goals as goal

pub store-requires-clause-place : goal.store-requires-clause-place
store-requires-clause-place g c =
    let h = g.M.Memory.heap c.args.memory.now in
    let p = c.args.part in
    let reach = array_reaches h p.address (p.offset + p.length) c.requires.known in
    let below = c.requires.index in
    omega (arith, reach, below)

pub returns-clause-sound : goal.returns-clause-sound
returns-clause-sound g c =
    let h = g.M.Memory.heap c.args.memory.now in
    let p = c.args.part in
    let below = c.requires.index in
    subst IsSound (sym c.store.ensures.heap) (array_store_sound h p.address
    (p.offset + p.length) c.requires.known c.requires.sound (p.offset + c.args.index)
    (c.args.word ∷ []) (omega (arith, below)) (c.requires.held, tt))

pub returns-clause-keeps : goal.returns-clause-keeps
returns-clause-keeps g c =
    let h = g.M.Memory.heap c.args.memory.now in
    let p = c.args.part in
    let below = c.requires.index in
    subst (Keeps h) (sym c.store.ensures.heap) (array_store_keeps h p.address
    (p.offset + p.length) c.requires.known c.requires.sound (p.offset + c.args.index)
    (c.args.word ∷ []) (omega (arith, below)) (c.requires.held, tt))

pub returns-clause-births : goal.returns-clause-births
returns-clause-births g c = ap birth_at c.store.ensures.heap ∙ birth_at-stored _ _ _ _

pub returns-clause-shows : goal.returns-clause-shows
returns-clause-shows g c = λ names s shows within.
    let h = g.M.Memory.heap c.args.memory.now in
    let p = c.args.part in
    let below = c.requires.index in
    subst (λ (k : Heap). Shows k names (with_part_elements s (part_of (birth_at h) p) c.args.index
    (value_of (birth_at h) names c.args.word ∷ []))) (sym c.store.ensures.heap)
    (array_store_shows h p.address (p.offset + p.length) c.requires.known c.requires.sound
    (p.offset + c.args.index) (c.args.word ∷ []) (omega (arith, below))
    (c.requires.held, tt) names s shows (within, tt))

use Rattle.std.proofs.Common.{◌≡◌, ℕ, List, length, ◌+◌, arith, subst, sym, ap, ◌∙◌}
use Rattle.std.specs.Prelude.{slice_range}
use Rattle.ps_language.specs.Access.{elements, part_elements, with_part_elements, with_elements, splice}
use Rattle.ps_word.specs.declared.words.Word.{Word}
use Rattle.ps_mem.specs.Heap.{Heap, birth_at, stored}
use Rattle.ps_mem.specs.Keeps.{Keeps}
use Rattle.ps_mem.specs.Shows.{AreValues, IsSound, Shows}
use Rattle.ps_mem.specs.Meaning.{part_of}
use Rattle.ps_mem.proofs.HeapLemmas.{birth_at-stored}
use Rattle.ps_seq.proofs.ArrayLemmas.{array_reaches, array_store_sound, array_store_keeps, array_store_shows, names_standing, run, length_run, run_values, run_within, run_elements, nothing_copied}
use Rattle.ps_seq.proofs.arrays.copy_elements.Given.{Over}
use Rattle.ps_seq.proofs.arrays.copy_elements.Goals.{After-copy}
use Rattle.ps_seq.proofs.arrays.copy_elements.Goals as goal

pub copy-requires-clause-source : goal.copy-requires-clause-source
copy-requires-clause-source g c =
    let p = c.args.from in array_reaches (g.M.Memory.heap c.args.memory.now) p.address
    (p.offset + p.length) c.requires.source

pub copy-requires-clause-target : goal.copy-requires-clause-target
copy-requires-clause-target g c =
    let p = c.args.to in
    let reach = array_reaches (g.M.Memory.heap c.args.memory.now) p.address
    (p.offset + p.length) c.requires.target in
    let place = c.requires.place in
    omega (arith, reach, place)

pub copy-requires-clause-known : goal.copy-requires-clause-known
copy-requires-clause-known g c =
    let h = g.M.Memory.heap c.args.memory.now in
    let p = c.args.from in
    names_standing h c.args.to.address _ (run_values h p.address
    (p.offset + p.length) c.requires.source p.offset p.length (omega arith) c.requires.sound)

-- ---- the elements that are copied

module _ (g : Over) (c : After-copy g) where
  abbrev h : Heap
  h = g.M.Memory.heap c.args.memory.now

  abbrev n : ℕ
  n = c.args.from.offset + c.args.from.length

  abbrev items : List Word
  items = run h c.args.from.address n c.requires.source c.args.from.offset c.args.from.length
      (omega arith)

  count : length items ≡ c.args.from.length
  count = length_run h c.args.from.address n c.requires.source c.args.from.offset
      c.args.from.length (omega arith)

  held : AreValues h items
  held = run_values h c.args.from.address n c.requires.source c.args.from.offset
      c.args.from.length (omega arith) c.requires.sound

pub returns-then-from-ne0-clause-sound : goal.returns-then-from-ne0-clause-sound
returns-then-from-ne0-clause-sound g c =
    let d = (goal.at.returns-then-from-ne0-clause-sound g c).After-copy in
    let q = c.args.to in
    let place = c.requires.place in
    subst IsSound (sym c.copy.ensures.heap)
    (array_store_sound (h g d) q.address (q.offset + q.length) c.requires.target c.requires.sound
    (q.offset + c.args.place) (items g d) (omega (arith, count g d, place)) (held g d))

pub returns-then-from-ne0-clause-keeps : goal.returns-then-from-ne0-clause-keeps
returns-then-from-ne0-clause-keeps g c =
    let d = (goal.at.returns-then-from-ne0-clause-keeps g c).After-copy in
    let q = c.args.to in
    let place = c.requires.place in
    subst (Keeps (h g d)) (sym c.copy.ensures.heap)
    (array_store_keeps (h g d) q.address (q.offset + q.length) c.requires.target c.requires.sound
    (q.offset + c.args.place) (items g d) (omega (arith, count g d, place)) (held g d))

pub returns-then-from-ne0-clause-births : goal.returns-then-from-ne0-clause-births
returns-then-from-ne0-clause-births g c = ap birth_at c.copy.ensures.heap ∙ birth_at-stored _ _ _ _

pub returns-then-from-ne0-clause-shows : goal.returns-then-from-ne0-clause-shows
returns-then-from-ne0-clause-shows g c = λ names s shows.
    let d = (goal.at.returns-then-from-ne0-clause-shows g c).After-copy in
    let p = c.args.from in
    let q = c.args.to in
    let place = c.requires.place in
    let b = birth_at (h g d) q.address in
    let stored_items = array_store_shows (h g d) q.address (q.offset + q.length) c.requires.target
    c.requires.sound (q.offset + c.args.place) (items g d) (omega (arith, count g d, place))
    (held g d) names s shows
    (run_within (h g d) p.address (n g d) c.requires.source p.offset p.length
    (omega arith) names s shows) in
    subst (λ (k : Heap). Shows k names
    (with_part_elements s (part_of (birth_at (h g d)) q) c.args.place
    (part_elements s (part_of (birth_at (h g d)) p)))) (sym c.copy.ensures.heap)
    (subst (λ vs. Shows (stored (h g d) q.address (q.offset + c.args.place) (items g d)) names
    (with_elements s b (splice (elements s b) (q.offset + c.args.place) vs)))
    (run_elements (h g d) p.address (n g d) c.requires.source p.offset p.length
    (omega arith) names s shows) stored_items)

pub returns-else-from-ne0-clause-shows : goal.returns-else-from-ne0-clause-shows
returns-else-from-ne0-clause-shows g c = λ names s shows.
    let h = g.M.Memory.heap c.args.memory.now in
    let p = c.args.from in
    let q = c.args.to in
    let b = birth_at h q.address in
    let es = elements s (birth_at h p.address) in
    let nothing = nothing_copied h q.address (q.offset + q.length) c.requires.target names s shows
    (q.offset + c.args.place) p.offset es in
    let count = c.if-from-ne0.false in
    subst (Shows h names) (sym (ap (λ n. with_elements s b (splice (elements s b)
    (q.offset + c.args.place) (slice_range es p.offset (p.offset + n)))) count ∙ nothing)) shows

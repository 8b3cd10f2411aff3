use Rattle.std.proofs.Common.{ℕ, List, ◌≡◌, ◌+◌, ◌/◌, ◌*◌, [], ◌∷◌, length, drop, arith, subst, sym, ap, ◌∙◌, refl}
use Rattle.ps_language.specs.Access.{bytes, splice, with_bytes}
use Rattle.ps_word.specs.declared.words.Word.{Word}
use Rattle.ps_mem.specs.Heap.{Heap, birth_at, fields_at, stored}
use Rattle.ps_mem.specs.Keeps.{Keeps}
use Rattle.ps_mem.specs.Shows.{IsSound, Shows}
use Rattle.ps_mem.specs.References.{NamesStanding, words_for}
use Rattle.ps_mem.proofs.HeapLemmas.{birth_at-stored}
use Rattle.ps_seq.proofs.TextLemmas.{text_reaches, text_at}
use Rattle.ps_seq.proofs.TextStores.{text_names, text_store_sound, text_store_keeps, text_store_shows, loaded_one, one_word}
use Rattle.ps_seq.proofs.strings.set_byte.Given.{Over}
use Rattle.ps_seq.proofs.strings.set_byte.Goals.{After-store}
use Rattle.ps_seq.proofs.strings.set_byte.Goals as goal

pub load-word-requires : goal.load-word-requires
load-word-requires g c =
    let h = g.M.Memory.heap c.args.memory.now in
    let p = c.args.part in
    let reach = text_reaches h p.address (words_for (p.offset + p.length)) c.requires.known in
    let below = c.requires.index in
    record { place = omega (arith, reach, below) }

pub store-requires-clause-known : goal.store-requires-clause-known
store-requires-clause-known g c =
    let h = g.M.Memory.heap c.args.memory.now in
    let p = c.args.part in
    subst (λ (k : Heap). NamesStanding k p.address (c.with_bytes-changed.result ∷ []))
    (sym c.load-word.ensures.heap)
    (text_names h p.address (words_for (p.offset + p.length)) (c.with_bytes-changed.result
    ∷ []) c.requires.known)

pub store-requires-clause-place : goal.store-requires-clause-place
store-requires-clause-place g c =
    let h = g.M.Memory.heap c.args.memory.now in
    let p = c.args.part in
    let reach = text_reaches h p.address (words_for (p.offset + p.length)) c.requires.known in
    let same = ap (λ (k : Heap). length (fields_at k p.address)) c.load-word.ensures.heap in
    let below = c.requires.index in
    omega (arith, reach, below, same)

-- ---- the word is stored

module _ (g : Over) (c : After-store g) where
  abbrev h : Heap
  h = g.M.Memory.heap c.args.memory.now

  abbrev a : ℕ
  a = c.args.part.address

  abbrev n : ℕ
  n = words_for (c.args.part.offset + c.args.part.length)

  abbrev at : ℕ
  at = c.args.part.offset + c.args.index

  abbrev items : List Word
  items = c.with_bytes-changed.result ∷ []

  now : g.M.Memory.heap c.store.new.self ≡ stored h a (at / 8) items
  now = c.store.ensures.heap
      ∙ ap (λ (k : Heap). stored k a (at / 8) items) c.load-word.ensures.heap

pub returns-clause-sound : goal.returns-clause-sound
returns-clause-sound g c =
    let below = c.requires.index in
    subst IsSound (sym (now g c))
    (text_store_sound (h g c) (a g c) (n g c) c.requires.known c.requires.sound (at g c / 8) 1
    (items g c) refl (omega (arith, below)))

pub returns-clause-keeps : goal.returns-clause-keeps
returns-clause-keeps g c =
    let below = c.requires.index in
    subst (Keeps (h g c)) (sym (now g c))
    (text_store_keeps (h g c) (a g c) (n g c) c.requires.known c.requires.sound (at g c / 8) 1
    (items g c) refl (omega (arith, below)))

pub returns-clause-births : goal.returns-clause-births
returns-clause-births g c = ap birth_at c.store.ensures.heap ∙ (birth_at-stored _ _ _ _
    ∙ ap birth_at c.load-word.ensures.heap)

pub returns-clause-shows : goal.returns-clause-shows
returns-clause-shows g c = λ names s shows within.
    let below = c.requires.index in
    let t = bytes s (birth_at (h g c) (a g c)) in
    let byte = c.ranges.byte in
    let text = text_at (h g c) (a g c) (n g c) c.requires.known names s shows in
    let value = c.with_bytes-changed.ensures
    ∙ loaded_one (h g c) (a g c) s text c.load-word.result (at g c) c.load-word.ensures.answer
    c.args.byte (omega (arith, within, below)) in
    subst (λ (k : Heap). Shows k names
    (with_bytes s (birth_at (h g c) (a g c)) (splice t (at g c) (c.args.byte ∷ []))))
    (sym (now g c))
    (text_store_shows (h g c) (a g c) (n g c) c.requires.known c.requires.sound (at g c / 8) 1
    (items g c) refl (omega (arith, below)) names s shows (at g c) (c.args.byte ∷ [])
    (omega (arith, byte), tt) (omega (arith, within, below)) (omega arith) (omega arith)
    (one_word c.with_bytes-changed.result
    (drop (8 * (at g c / 8)) (splice t (at g c) (c.args.byte ∷ []))) value))

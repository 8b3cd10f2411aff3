use Rattle.std.proofs.Common.{ℕ, List, ◌≡◌, ◌+◌, ◌-◌, ◌/◌, [], length, arith, rules, subst, sym, ap, ◌∙◌}
use Rattle.std.proofs.lemmas.List.{nil_from_length}
use Rattle.ps_language.specs.Access.{bytes, splice, with_bytes}
use Rattle.ps_word.specs.declared.words.Word.{Word}
use Rattle.ps_mem.specs.Heap.{Heap, birth_at, fields_at, stored}
use Rattle.ps_mem.specs.Keeps.{Keeps}
use Rattle.ps_mem.specs.Shows.{IsSound, Shows}
use Rattle.ps_mem.specs.References.{words_for}
use Rattle.ps_mem.proofs.HeapLemmas.{birth_at-stored}
use Rattle.ps_seq.proofs.TextLemmas.{text_reaches}
use Rattle.ps_seq.proofs.TextStores.{bytes_fit, text_store_sound, text_store_keeps, text_store_shows, nothing_put}
use Rattle.ps_seq.proofs.strings.set_bytes.Given.{Over}
use Rattle.ps_seq.proofs.strings.set_bytes.Goals.{After-store}
use Rattle.ps_seq.proofs.strings.set_bytes.Goals as goal

pub returns-then-is_empty-clause-shows : goal.returns-then-is_empty-clause-shows
returns-then-is_empty-clause-shows g c = λ names s shows within.
    let h = g.M.Memory.heap c.args.memory.now in
    let p = c.args.part in
    let b = birth_at h p.address in
    let at = p.offset + c.args.place in
    let count : length c.args.text.now ≡ 0 = search rules in
    let none : c.args.text.now ≡ [] = nil_from_length c.args.text.now count in
    subst (Shows h names) (sym (ap (λ bs. with_bytes s b (splice (bytes s b) at bs)) none
    ∙ nothing_put h p.address (words_for (p.offset + p.length)) c.requires.known names s shows
    at)) shows

pub store-requires-clause-place : goal.store-requires-clause-place
store-requires-clause-place g c =
    let h = g.M.Memory.heap c.args.memory.now in
    let p = c.args.part in
    let reach = text_reaches h p.address (words_for (p.offset + p.length)) c.requires.known in
    let same = ap (λ (k : Heap). length (fields_at k p.address)) c.in_ok-changed_words.ensures.heap
    in
    let place = c.requires.place in
    let count = c.in_ok-changed_words.ensures.count in
    let slice = ap length c.as_slice.ensures.value in
    omega (arith, reach, same, place, count, slice)

-- ---- the words are stored

module _ (g : Over) (c : After-store g) where
  abbrev h : Heap
  h = g.M.Memory.heap c.args.memory.now

  abbrev a : ℕ
  a = c.args.part.address

  abbrev at : ℕ
  at = c.args.part.offset + c.args.place

  abbrev items : List Word
  items = c.as_slice.result.now

  abbrev count : ℕ
  count = words_for (at + length c.args.text.now) - at / 8

  size : length items ≡ count
  size = ap length c.as_slice.ensures.value ∙ c.in_ok-changed_words.ensures.count

  now : g.M.Memory.heap c.store.new.self ≡ stored h a (at / 8) items
  now = c.store.ensures.heap
      ∙ ap (λ (k : Heap). stored k a (at / 8) items) c.changed_words.ensures.heap

pub returns-clause-sound : goal.returns-clause-sound
returns-clause-sound g c =
    let d = (goal.at.returns-clause-sound g c).After-store in
    let place = c.requires.place in
    subst IsSound (sym (now g d))
    (text_store_sound (h g d) (a g d) (words_for (c.args.part.offset + c.args.part.length))
    c.requires.known c.requires.sound (at g d / 8) (count g d) (items g d) (size g d)
    (omega (arith, place)))

pub returns-clause-keeps : goal.returns-clause-keeps
returns-clause-keeps g c =
    let d = (goal.at.returns-clause-keeps g c).After-store in
    let place = c.requires.place in
    subst (Keeps (h g d)) (sym (now g d))
    (text_store_keeps (h g d) (a g d) (words_for (c.args.part.offset + c.args.part.length))
    c.requires.known c.requires.sound (at g d / 8) (count g d) (items g d) (size g d)
    (omega (arith, place)))

pub returns-clause-births : goal.returns-clause-births
returns-clause-births g c = ap birth_at c.store.ensures.heap ∙ (birth_at-stored _ _ _ _
    ∙ ap birth_at c.changed_words.ensures.heap)

pub returns-clause-shows : goal.returns-clause-shows
returns-clause-shows g c = λ names s shows within.
    let d = (goal.at.returns-clause-shows g c).After-store in
    let place = c.requires.place in
    let t = bytes s (birth_at (h g d) (a g d)) in
    let text = c.args.text.now in
    let words = c.as_slice.ensures.value ∙ c.in_ok-changed_words.ensures.value names s shows (omega
    (arith, within, place)) in
    subst (λ (k : Heap). Shows k names
    (with_bytes s (birth_at (h g d) (a g d)) (splice t (at g d) text))) (sym (now g d))
    (text_store_shows (h g d) (a g d) (words_for (c.args.part.offset + c.args.part.length))
    c.requires.known c.requires.sound (at g d / 8) (count g d) (items g d) (size g d)
    (omega (arith, place)) names s shows (at g d) text
    (bytes_fit text (λ i. let fits = c.type_inv.text i in omega (arith, fits)))
    (omega (arith, within, place)) (omega arith) (omega arith) words)

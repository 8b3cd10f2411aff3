use Rattle.std.proofs.Common.{◌≡◌, ℕ, List, ◌+◌, ◌-◌, ◌*◌, ◌/◌, ◌≤◌, ◌++◌, length, take, drop, OnOk, arith, sym, ap, ◌∙◌, subst, length-drop}
use Rattle.std.specs.Prelude.{slice_range}
use Rattle.std.proofs.lemmas.List.{length-take-le}
use Rattle.ps_language.specs.Access.{bytes, part_bytes, with_part_bytes, splice}
use Rattle.ps_word.specs.declared.words.Word.{Word}
use Rattle.ps_mem.specs.Heap.{Heap, birth_at, fields_at}
use Rattle.ps_mem.specs.Keeps.{Keeps}
use Rattle.ps_mem.specs.Meaning.{part_of}
use Rattle.ps_mem.specs.References.{words_for}
use Rattle.ps_mem.specs.Shows.{IsSound, Shows}
use Rattle.ps_mem.specs.Strings.{words_from}
use Rattle.ps_mem.proofs.HeapLemmas.{birth_at-stored}
use Rattle.ps_seq.proofs.ByteLemmas.{all_take_bytes, all_drop_bytes}
use Rattle.ps_seq.proofs.CompareLemmas.{length_part}
use Rattle.ps_seq.proofs.SpliceLemmas.{words_from-run, words_from-copied}
use Rattle.ps_seq.proofs.TextLemmas.{text_reaches, text_at}
use Rattle.ps_seq.proofs.TextStores.{text_store_sound, text_store_keeps, text_store_shows}
use Rattle.ps_seq.proofs.strings.copy_bytes.Given.{Over}
use Rattle.ps_seq.proofs.strings.copy_bytes.Goals.{After-copy}
use Rattle.ps_seq.proofs.strings.copy_bytes.Goals as goal

copied_size : (ws : List Word) (source count : ℕ) → source + count ≤ length ws
    → length (slice_range ws source (source + count)) ≡ count
copied_size ws source count fits =
    let less : (source + count) - source ≡ count = omega arith in
    ap (λ n. length (take n (drop source ws))) less ∙ length-take-le count (drop source ws) (omega
    (arith, fits, length-drop source ws))

pub copy-requires-clause-source : goal.copy-requires-clause-source
copy-requires-clause-source g c =
    let h = g.M.Memory.heap c.args.memory.now in
    let p = c.args.from in
    let reach = text_reaches h p.address (words_for (p.offset + p.length)) c.requires.source in
    omega (arith, reach)

pub copy-requires-clause-target : goal.copy-requires-clause-target
copy-requires-clause-target g c =
    let h = g.M.Memory.heap c.args.memory.now in
    let q = c.args.to in
    let reach = text_reaches h q.address (words_for (q.offset + q.length)) c.requires.target in
    let place = c.requires.place in
    omega (arith, reach, place)

-- ---- the words that are copied

module _ (g : Over) (c : After-copy g) where
  abbrev h : Heap
  h = g.M.Memory.heap c.args.memory.now

  abbrev source : ℕ
  source = c.args.from.offset / 8

  abbrev count : ℕ
  count = c.args.from.length / 8

  abbrev items : List Word
  items = slice_range (fields_at h c.args.from.address) source (source + count)

  size : length items ≡ count
  size = copied_size (fields_at h c.args.from.address) source count
      (let reach = text_reaches h c.args.from.address
      (words_for (c.args.from.offset + c.args.from.length)) c.requires.source in
      omega (arith, reach))

pub returns-then-count-gt0-clause-sound : goal.returns-then-count-gt0-clause-sound
returns-then-count-gt0-clause-sound g c =
    let d = (goal.at.returns-then-count-gt0-clause-sound g c).After-copy in
    let q = c.args.to in
    let place = c.requires.place in
    subst IsSound (sym c.copy.ensures.heap)
    (text_store_sound (h g d) q.address (words_for (q.offset + q.length)) c.requires.target
    c.requires.sound ((q.offset + c.args.place) / 8) (count g d) (items g d) (size g d)
    (omega (arith, place)))

pub returns-then-count-gt0-clause-keeps : goal.returns-then-count-gt0-clause-keeps
returns-then-count-gt0-clause-keeps g c =
    let d = (goal.at.returns-then-count-gt0-clause-keeps g c).After-copy in
    let q = c.args.to in
    let place = c.requires.place in
    subst (Keeps (h g d)) (sym c.copy.ensures.heap)
    (text_store_keeps (h g d) q.address (words_for (q.offset + q.length)) c.requires.target
    c.requires.sound ((q.offset + c.args.place) / 8) (count g d) (items g d) (size g d)
    (omega (arith, place)))

pub returns-then-count-gt0-clause-births : goal.returns-then-count-gt0-clause-births
returns-then-count-gt0-clause-births g c = ap birth_at c.copy.ensures.heap ∙ birth_at-stored _ _ _ _

pub returns-then-count-gt0-clause-shows : goal.returns-then-count-gt0-clause-shows
returns-then-count-gt0-clause-shows g c = λ names s shows within within'.
    let d = (goal.at.returns-then-count-gt0-clause-shows g c).After-copy in
    let h = g.M.Memory.heap c.args.memory.now in
    let p = c.args.from in
    let q = c.args.to in
    let place = c.requires.place in
    let source_even = c.if-source-eq0.true in
    let target_even = c.if-target-eq0.true in
    let count_even = c.if-count-eq0.true in
    let source = p.offset / 8 in
    let count = p.length / 8 in
    let at = q.offset + c.args.place in
    let first = at / 8 in
    let from = bytes s (birth_at h p.address) in
    let text = bytes s (birth_at h q.address) in
    let there = text_at h p.address (words_for (p.offset + p.length)) c.requires.source names s
    shows in
    let bs = part_bytes s (part_of (birth_at h) p) in
    let long : length bs ≡ p.length = length_part from p.offset p.length within in
    let less : (source + count) - source ≡ count = omega arith in
    let at_is : 8 * first ≡ at = omega (arith, target_even) in
    let from_is : 8 * source ≡ p.offset = omega (arith, source_even) in
    let run_is : 8 * count ≡ (p.offset + p.length) - p.offset = omega (arith, count_even) in
    let words : items g d ≡ words_from count (drop (8 * first) (splice text at bs)) =
    ap (λ n. take n (drop source (fields_at h p.address))) less
    ∙ (ap (λ (vs : List Word). take count (drop source vs)) there.words
    ∙ (words_from-run (words_for (length from)) source count from (omega
    (arith, within, source_even, count_even))
    ∙ (words_from-copied text from first source count (omega
    (arith, within', place, target_even, count_even)) (omega
    (arith, within, source_even, count_even))
    ∙ (λ i. words_from count (drop (8 * first) (splice text (at_is i) (take (run_is i)
    (drop (from_is i) from)))))))) in
    subst (λ (k : Heap). Shows k names (with_part_bytes s (part_of (birth_at h) q) c.args.place bs))
    (sym c.copy.ensures.heap)
    (text_store_shows h q.address (words_for (q.offset + q.length)) c.requires.target
    c.requires.sound first count (items g d) (size g d) (omega (arith, place)) names s shows at bs
    (all_take_bytes _ _ (all_drop_bytes _ _ there.are)) (omega (arith, long, within', place))
    (omega (arith, at_is)) (omega (arith, at_is, long, count_even)) words)

pub returns-clause-shows : goal.returns-clause-shows
returns-clause-shows g c = λ names s shows within within'.
    let h = g.M.Memory.heap c.args.memory.now in
    let p = c.args.from in
    let q = c.args.to in
    let read : c.as_slice.result.now ≡ part_bytes s (part_of (birth_at h) p) =
    c.as_slice.ensures.value ∙ (c.in_ok-append_bytes.ensures.value names s shows within ∙ ap
    (λ xs. xs ++ part_bytes s (part_of (birth_at h) p)) c.requires.read) in
    let written = subst (λ (k : Heap). Shows k names s → q.offset + q.length ≤ length (bytes s
    (birth_at k q.address)) →
    OnOk c.set_bytes-copied.result (Shows (g.M.Memory.heap c.set_bytes-copied.new.memory) names
    (with_part_bytes s (part_of (birth_at k) q) c.args.place c.as_slice.result.now)))
    c.append_bytes.ensures.heap (c.set_bytes-copied.ensures.shows names s) shows within' in
    subst (λ (bs : List ℕ). OnOk c.set_bytes-copied.result (Shows
    (g.M.Memory.heap c.set_bytes-copied.new.memory) names (with_part_bytes s (part_of
    (birth_at h) q) c.args.place bs))) read written

use Rattle.std.proofs.Common.{◌≡◌, ◌+◌, ◌-◌, ◌*◌, ◌/◌, Some, length, take, drop, arith, rules, sym, ap, ◌∙◌, subst}
use Rattle.std.specs.Prelude.{slice_get, slice_range}
use Rattle.std.specs.Int.{w64, to_le_bytes}
use Rattle.ps_language.specs.Access.{bytes, splice}
use Rattle.ps_mem.specs.Heap.{Heap, birth_at, fields_at}
use Rattle.ps_mem.specs.References.{words_for}
use Rattle.ps_mem.specs.Strings.{number_of_bytes, words_from}
use Rattle.std.proofs.lemmas.List.{length-take-le, length-drop}
use Rattle.ps_seq.proofs.SpliceLemmas.{words_from-spliced}
use Rattle.ps_seq.proofs.TextLemmas.{text_reaches, text_at}
use Rattle.ps_seq.proofs.TextStores.{loaded_changed, next_word, next_words}
use Rattle.ps_seq.proofs.strings.changed_words.Goals as goal

pub loop-index-init : goal.loop-index-init
unfolding words_from
loop-index-init g c =
    let first = c.args.place / 8 in
    let none : first - first ≡ 0 = omega arith in
    record {
      heap = search rules;
      grants = search rules;
      from = search rules;
      upto = search rules;
      count = search rules;
      room = search rules;
      kept = search rules;
      value = λ names s shows within.
          c.reserve.ensures.items ∙ (c.requires.empty
          ∙ ap (λ n. words_from n (drop (8 * first) (splice (bytes s (birth_at
          (g.M.Memory.heap c.args.memory.now) c.args.address)) c.args.place c.args.text.now)))
          (sym none));
    }

pub load-word-requires : goal.load-word-requires
load-word-requires g c =
    let h = g.M.Memory.heap c.args.memory.now in
    let reach = text_reaches h c.args.address (words_for (c.args.place + length c.args.text.now))
    c.requires.known in
    let same = ap (λ (k : Heap). length (fields_at k c.args.address)) c.loop-index.invariant.heap in
    let below = c.loop-index-test.true in
    record { place = omega (arith, reach, same, below) }

pub loop-index-preserved : goal.loop-index-preserved
loop-index-preserved g c = record {
  heap = search rules;
  grants = search rules;
  from = search rules;
  upto = search rules;
  count = search rules;
  room = search rules;
  kept = search rules;
  value = λ names s shows within.
      let h = g.M.Memory.heap c.args.memory.now in
      let a = c.args.address in
      let place = c.args.place in
      let text = c.args.text.now in
      let k = c.loop-index.index in
      let start = c.max-start.result in
      let stop = c.min-stop.result in
      let largest = c.max-start.ensures in
      let least = c.min-stop.ensures in
      let from = c.loop-index.invariant.from in
      let below = c.loop-index-test.true in
      let some = c.requires.some in
      let here = text_at h a (words_for (place + length text)) c.requires.known names s shows in
      let read = subst (λ (g : Heap). slice_get (fields_at g a) k
      ≡ Some c.load-word.result) c.loop-index.invariant.heap c.load-word.ensures.answer in
      let turned : start - k * 8 ≡ start - 8 * k = omega arith in
      let value = c.with_bytes.ensures
      ∙ (ap (λ r. number_of_bytes (splice (to_le_bytes w64 c.load-word.result.0) r (slice_range text
      (start - place) (stop - place)))) turned
      ∙ loaded_changed h a s here k c.load-word.result read place text within start stop
      (omega (arith, largest)) (omega (arith, largest)) (omega
      (arith, largest, least, from, below, some)) (omega (arith, least)) (omega (arith, least))
      (λ i early. omega (arith, largest, early)) (λ i low past. omega (arith, least, low, past))) in
      c.push_reserved.ensures.items
      ∙ next_word (splice (bytes s (birth_at h a)) place text) c.loop-index.words.items
      c.with_bytes.result (place / 8) k from (c.loop-index.invariant.value names s shows within)
      value;
}

pub loop-index-preserved-then-index-whole : goal.loop-index-preserved-then-index-whole
loop-index-preserved-then-index-whole g c = record {
  heap = search rules;
  grants = search rules;
  from = search rules;
  upto = search rules;
  count = search rules;
  room = search rules;
  kept = search rules;
  value = λ names s shows within.
      let t = bytes s (birth_at (g.M.Memory.heap c.args.memory.now) c.args.address) in
      let place = c.args.place in
      let text = c.args.text.now in
      let k = c.loop-index.index in
      let whole = (place + length text) / 8 in
      let low = c.if-place-index.true in
      let below = c.if-index-whole.true in
      let from = c.loop-index.invariant.from in
      let start = k * 8 - place in
      let n = whole - k in
      let count : (whole * 8 - place) - start ≡ 8 * n = omega (arith, low, below) in
      let size : length (take ((whole * 8 - place) - start) (drop start text)) ≡ 8 * n =
      ap (λ m. length (take m (drop start text))) count
      ∙ length-take-le (8 * n) (drop start text) (omega
      (arith, low, below, length-drop start text)) in
      let words : length (take ((whole * 8 - place) - start) (drop start text)) / 8 ≡ n = omega
      (arith, size) in
      let more = (λ i. words_from (words i) (take (count i) (drop start text)))
      ∙ words_from-spliced t place text k start n (omega (arith, low)) (omega (arith, low, below))
      (omega (arith, within)) in
      let at_end : k + n ≡ whole = omega (arith, below) in
      c.in_ok-push_words.ensures.items
      ∙ (next_words (splice t place text) c.loop-index.words.items _ (place / 8) k n from
      (c.loop-index.invariant.value names s shows within) more
      ∙ ap (λ m. words_from (m - place / 8) (drop (8 * (place / 8)) (splice t place text))) at_end);
}

pub returns-clause-value : goal.returns-clause-value
returns-clause-value g c = λ names s shows within.
    let t = bytes s (birth_at (g.M.Memory.heap c.args.memory.now) c.args.address) in
    let place = c.args.place in
    let upto = c.loop-index.invariant.upto in
    let done = c.loop-index-test.false in
    let at_end : c.loop-index.index - place / 8 ≡ words_for (place + length c.args.text.now) - place
    / 8 = omega (arith, upto, done) in
    c.loop-index.invariant.value names s shows within ∙ ap (λ n. words_from n (drop (8 *
    (place / 8)) (splice t place c.args.text.now))) at_end

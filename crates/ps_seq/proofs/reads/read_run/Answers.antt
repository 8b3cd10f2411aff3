use Rattle.std.proofs.Common.{◌≡◌, ℕ, ◌+◌, ◌-◌, ◌*◌, ◌/◌, ◌%◌, ◌≤◌, ◌++◌, [], List, Some, length, take, drop, arith, rules, sym, ap, ◌∙◌, subst, refl}
use Rattle.std.specs.Prelude.{slice_get, slice_range}
use Rattle.std.specs.Int.{w64, to_le_bytes}
use Rattle.std.proofs.lemmas.List.{take_all, length-take-le, length-drop}
use Rattle.std.proofs.lemmas.Slice.{take-put_mid}
use Rattle.ps_language.specs.declared.kinds.Kind.TheVariants.{Text as TextKind}
use Rattle.ps_language.specs.Access.{bytes}
use Rattle.ps_mem.specs.Heap.{Heap, birth_at, fields_at}
use Rattle.ps_mem.specs.References.{StandsAs, words_for}
use Rattle.ps_seq.proofs.TextLemmas.{text_reaches, text_at, loaded_more, runs_joined, stands_shorter}
use Rattle.ps_seq.proofs.reads.read_run.Goals as goal

pub load-requires : goal.load-requires
load-requires g c =
    let h = g.M.Memory.heap c.args.memory.now in
    let reach = text_reaches h c.args.address (words_for (c.args.start + length c.args.text.now)) c.requires.known in
    let same = ap (λ (k : Heap). length (fields_at k c.args.address)) c.loop-place.invariant.heap in
    let below = c.loop-place-test.true in
    record { place = omega (arith, reach, same) }

-- what is written of the words that lie whole in the rest
whole_run : (text : List ℕ) (at n : ℕ) → at + n ≤ length text → length (take ((at + n) - at)
    (drop at text)) ≡ n
whole_run text at n fits =
    let long : (at + n) - at ≡ n = omega arith in
    ap (λ m. length (take m (drop at text))) long ∙ length-take-le n (drop at text) (omega
    (arith, fits, length-drop at text))

pub read_words-requires-clause-known : goal.read_words-requires-clause-known
read_words-requires-clause-known g c =
    let h = g.M.Memory.heap c.args.memory.now in
    let place = c.loop-place.place in
    let from = c.loop-place.invariant.from in
    let upto = c.loop-place.invariant.upto in
    let size = c.loop-place.invariant.size in
    let left = c.args.start + length c.args.text.now - place in
    let run = whole_run c.loop-place.text (place - c.args.start) (left - left % 8) (omega
    (arith, from, upto, size)) in
    subst (λ (k : Heap). StandsAs k TextKind c.args.address (words_for (8 * (place / 8) + length
    (take ((place - c.args.start + (left - left % 8)) - (place - c.args.start)) (drop (place - c.args.start)
    c.loop-place.text))))) (sym c.loop-place.invariant.heap)
    (stands_shorter h c.args.address (words_for (c.args.start + length c.args.text.now)) _ (omega
    (arith, run, from, upto)) c.requires.known)

pub loop-place-preserved-then-left-ge-BYTES : goal.loop-place-preserved-then-left-ge-BYTES
loop-place-preserved-then-left-ge-BYTES g c = record {
  heap = search rules;
  grants = search rules;
  from = search rules;
  upto = search rules;
  size = search rules;
  value = λ names s shows within.
      let h = g.M.Memory.heap c.args.memory.now in
      let t = bytes s (birth_at h c.args.address) in
      let text = c.loop-place.text in
      let place = c.loop-place.place in
      let from = c.loop-place.invariant.from in
      let upto = c.loop-place.invariant.upto in
      let size = c.loop-place.invariant.size in
      let aligned = c.if-first-eq0.true in
      let at = place - c.args.start in
      let left = c.args.start + length c.args.text.now - place in
      let whole = left - left % 8 in
      let run = whole_run text at whole (omega (arith, from, upto, size)) in
      let start : 8 * (place / 8) ≡ place = omega (arith, aligned) in
      let stop : 8 * (place / 8) + length (take ((at + whole) - at) (drop at text))
      ≡ place + whole = omega (arith, start, run) in
      let new : c.read_words.new.text ≡ slice_range t place (place + whole) =
      (rw c.loop-place.invariant.heap at c.read_words.ensures.value) names s shows (omega
      (arith, stop, within, from, upto))
      ∙ (λ i. slice_range t (start i) (stop i)) in
      let long = c.read_words.ensures.length in
      take-put_mid at ((at + whole) - at) text c.read_words.new.text ((place + whole) - c.args.start)
      (omega (arith, long, run, from)) (omega (arith, size, upto))
      ∙ ((λ i. c.loop-place.invariant.value names s shows within i ++ new i)
      ∙ runs_joined t c.args.start place (place + whole) from (omega arith));
}

pub loop-place-preserved : goal.loop-place-preserved
loop-place-preserved g c = record {
  heap = search rules;
  grants = search rules;
  from = search rules;
  upto = search rules;
  size = search rules;
  value = λ names s shows within.
      let h = g.M.Memory.heap c.args.memory.now in
      let text = c.loop-place.text in
      let place = c.loop-place.place in
      let count = c.min-count.result in
      let least = c.min-count.ensures in
      let test = c.loop-place-test.true in
      let upto = c.loop-place.invariant.upto in
      let from = c.loop-place.invariant.from in
      let size = c.loop-place.invariant.size in
      let at = place - c.args.start in
      let here = text_at h c.args.address (words_for (c.args.start + length c.args.text.now)) c.requires.known names s
      shows in
      let read = subst (λ (k : Heap). slice_get (fields_at k c.args.address) (place / 8)
      ≡ Some c.load.result) c.loop-place.invariant.heap c.load.ensures.answer in
      let word = to_le_bytes w64 c.load.result.0 in
      let eight : length word ≡ 8 = refl in
      let less : (place % 8 + count) - place % 8 ≡ count = omega arith in
      let run : c.copy_from_slice.new.self ≡ slice_range word (place % 8) (place % 8 + count) =
      c.copy_from_slice.ensures.after
      ∙ ap (λ bs. slice_range bs (place % 8) (place % 8 + count)) c.to_le_bytes-bytes.ensures in
      let long : length c.copy_from_slice.new.self ≡ count =
      ap length run
      ∙ (ap (λ n. length (take n (drop (place % 8) word))) less
      ∙ length-take-le count (drop (place % 8) word) (omega
      (arith, least, eight, length-drop (place % 8) word))) in
      take-put_mid at ((at + count) - at) text c.copy_from_slice.new.self
      ((place + count) - c.args.start) (omega (arith, long, from)) (omega (arith, size, upto))
      ∙ (ap (λ bs. take at text ++ bs) run
      ∙ loaded_more h c.args.address s here (place / 8) c.load.result read [] (take at text) c.args.start
      place count refl from (omega (arith, least, test)) (omega (arith, least)) (omega
      (arith, least, upto, within)) (c.loop-place.invariant.value names s shows within));
}

pub returns-clause-value : goal.returns-clause-value
returns-clause-value g c = λ names s shows within.
    let t = bytes s (birth_at (g.M.Memory.heap c.args.memory.now) c.args.address) in
    let upto = c.loop-place.invariant.upto in
    let size = c.loop-place.invariant.size in
    let done = c.loop-place-test.false in
    let at_end : c.loop-place.place ≡ c.args.start + length c.args.text.now = omega (arith, upto, done) in
    sym (take_all (c.loop-place.place - c.args.start) c.loop-place.text (omega (arith, at_end, size)))
    ∙ (c.loop-place.invariant.value names s shows within ∙ ap (slice_range t c.args.start) at_end)

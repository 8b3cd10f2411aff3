use Rattle.std.proofs.Common.{◌≡◌, ◌+◌, ◌-◌, ◌*◌, ◌/◌, ◌%◌, ◌++◌, [], Some, length, take, arith, rules, sym, ap, ◌∙◌, subst}
use Rattle.std.specs.Prelude.{slice_get, slice_range}
use Rattle.std.specs.Int.{w64, to_le_bytes}
use Rattle.std.proofs.lemmas.List.{take_all}
use Rattle.std.proofs.lemmas.Slice.{take-put_mid}
use Rattle.ps_language.specs.Access.{bytes}
use Rattle.ps_mem.specs.Heap.{Heap, birth_at, fields_at}
use Rattle.ps_mem.specs.References.{words_for}
use Rattle.ps_seq.proofs.TextLemmas.{text_reaches, text_at, loaded_more}
use Rattle.ps_seq.proofs.reads.read_words.Goals as goal

pub load_at-requires-clause-place : goal.load_at-requires-clause-place
load_at-requires-clause-place g c =
    let h = g.M.Memory.heap c.args.memory.now in
    let a = c.args.address in
    let reach = text_reaches h a (words_for (8 * c.args.first + length c.args.text.now))
    c.requires.known in
    let same = ap (λ (k : Heap). length (fields_at k a)) c.loop-index.invariant.heap in
    let below = c.loop-index-test.true in
    omega (arith, reach, same, below)

pub loop-index-preserved : goal.loop-index-preserved
loop-index-preserved g c = record {
  heap = search rules;
  grants = search rules;
  size = search rules;
  value = λ names s shows within.
      let h = g.M.Memory.heap c.args.memory.now in
      let a = c.args.address in
      let first = c.args.first in
      let k = c.loop-index.index in
      let w = c.load_at.result in
      let t = bytes s (birth_at h a) in
      let text = c.loop-index.text in
      let below = c.loop-index-test.true in
      let long = c.loop-index.invariant.size in
      let whole = c.requires.whole in
      let here = text_at h a (words_for (8 * first + length c.args.text.now)) c.requires.known
      names s shows in
      let there : (a + first + k) - a ≡ first + k = omega arith in
      let read : slice_get (fields_at h a) (first + k) ≡ Some w =
      ap (slice_get (fields_at h a)) (sym there)
      ∙ (subst (λ (m : Heap). slice_get (fields_at m a) ((a + first + k) - a) ≡ Some w)
      c.loop-index.invariant.heap c.load_at.ensures.answer) in
      let none : (8 * first + 8 * k) % 8 ≡ 0 = omega arith in
      let at : first + k ≡ (8 * first + 8 * k) / 8 = omega arith in
      let word : c.copy_from_slice.new.self ≡ slice_range (to_le_bytes w64 w.0)
      ((8 * first + 8 * k) % 8) ((8 * first + 8 * k) % 8 + 8) =
      c.copy_from_slice.ensures.after
      ∙ (c.to_le_bytes-bytes.ensures
      ∙ sym (ap (λ n. slice_range (to_le_bytes w64 w.0) n (n + 8)) none)) in
      let size : length c.copy_from_slice.new.self ≡ 8 = ap length
      (c.copy_from_slice.ensures.after ∙ c.to_le_bytes-bytes.ensures) in
      let next : 8 * first + 8 * k + 8 ≡ 8 * first + 8 * (k + 1) = omega arith in
      take-put_mid (8 * k) ((8 * k + 8) - 8 * k) text c.copy_from_slice.new.self (8 * (k + 1))
      (omega (arith, size)) (omega (arith, below, long))
      ∙ (ap (λ bs. take (8 * k) text ++ bs) word
      ∙ (loaded_more h a s here (first + k) w read [] (take (8 * k) text) (8 * first)
      (8 * first + 8 * k) 8 at (omega arith) (omega arith) (omega (arith, none))
      (omega (arith, below, within))
      (c.loop-index.invariant.value names s shows within)
      ∙ ap (slice_range t (8 * first)) next));
}

pub returns-clause-value : goal.returns-clause-value
returns-clause-value g c = λ names s shows within.
    let h = g.M.Memory.heap c.args.memory.now in
    let t = bytes s (birth_at h c.args.address) in
    let text = c.loop-index.text in
    let i = c.loop-index.index in
    let upto = c.loop-index.auto.index-end in
    let done = c.loop-index-test.false in
    let long = c.loop-index.invariant.size in
    let whole = c.requires.whole in
    let all : 8 * i ≡ length c.args.text.now = omega (arith, upto, done, whole) in
    sym (take_all (8 * i) text (omega (arith, all, long)))
    ∙ (c.loop-index.invariant.value names s shows within
    ∙ ap (λ n. slice_range t (8 * c.args.first) (8 * c.args.first + n)) all)

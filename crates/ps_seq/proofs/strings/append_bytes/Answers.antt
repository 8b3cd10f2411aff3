use Rattle.std.proofs.Common.{◌≡◌, ◌+◌, ◌++◌, length, take, ap, arith, rules, ◌∙◌}
use Rattle.std.specs.Prelude.{slice_range}
use Rattle.std.proofs.lemmas.List.{append_assoc, length-take-le, take-append-le}
use Rattle.ps_language.specs.Access.{bytes}
use Rattle.ps_mem.specs.Heap.{birth_at}
use Rattle.ps_seq.proofs.TextLemmas.{runs_joined}
use Rattle.ps_seq.proofs.strings.append_bytes.Goals as goal

pub loop-done-preserved : goal.loop-done-preserved
loop-done-preserved g c = record {
  heap = search rules;
  grants = search rules;
  upto = search rules;
  count = search rules;
  room = search rules;
  kept = search rules;
  front =
      let old = c.args.output.now.items in
      let out = c.loop-done.output.items in
      let held = c.args.output.now.ok.0 in
      let held' = c.loop-done.output.ok.0 in
      let count = c.loop-done.invariant.count in
      ap (take (length old)) c.in_ok-extend_from_slice.ensures.items
      ∙ (take-append-le (length old) out c.read_run.new.text (omega (arith, held, held', count))
      ∙ c.loop-done.invariant.front);
  value = λ names s shows within.
      let p = c.args.part in
      let t = bytes s (birth_at (g.M.Memory.heap c.args.memory.now) p.address) in
      let old = c.args.output.now.items in
      let from = p.offset + c.loop-done.done in
      let more = c.min-more.result in
      let least = c.min-more.ensures in
      let long = c.min-more.array_long in
      let taken : length (take more c.loop-done.run) ≡ more =
      length-take-le more c.loop-done.run (omega (arith, least, long)) in
      let stop : from + length (take more c.loop-done.run) ≡ from + more =
      ap (λ n. from + n) taken in
      let new : c.read_run.new.text ≡ slice_range t from (from + more) =
      (rw c.loop-done.invariant.heap at c.read_run.ensures.value) names s shows (omega
      (arith, taken, within, least, c.loop-done.invariant.upto))
      ∙ ap (slice_range t from) stop in
      let next : from + more ≡ p.offset + (c.loop-done.done + more) = omega arith in
      c.in_ok-extend_from_slice.ensures.items
      ∙ ((λ i. c.loop-done.invariant.value names s shows within i ++ new i)
      ∙ (append_assoc old (slice_range t p.offset from) (slice_range t from (from + more))
      ∙ ap (λ r. old ++ r) (runs_joined t p.offset from (from + more) (omega arith) (omega arith)
      ∙ ap (slice_range t p.offset) next)));
}

pub returns-clause-value : goal.returns-clause-value
returns-clause-value g c = λ names s shows within.
    let p = c.args.part in
    let t = bytes s (birth_at (g.M.Memory.heap c.args.memory.now) p.address) in
    let upto = c.loop-done.invariant.upto in
    let at_end : c.loop-done.done ≡ p.length = omega (arith, upto, c.loop-done-test.false) in
    c.loop-done.invariant.value names s shows within
    ∙ ap (λ n. c.args.output.now.items ++ slice_range t p.offset (p.offset + n)) at_end

use Rattle.std.proofs.Common.{◌≡◌, ◌<◌, ◌++◌, length, ◌∙◌, subst, arith}
use Rattle.std.specs.Prelude.{vec_capacity}
use Rattle.ps_language.specs.RowsOutput.{line}
use Rattle.ps_language.specs.Value.{Store}
use Rattle.ps_mem.specs.Heap.{Heap, birth_at}
use Rattle.ps_mem.specs.Meaning.{value_of}
use Rattle.ps_mem.specs.Shows.{IsValue, AreValues, IsWithin, AreWithin, Shows}
use Rattle.ps_text.specs.Forms.{text_as}
use Rattle.ps_text.proofs.Cuts.{was_ok, was_err, begins_on}
use Rattle.ps_text.proofs.Rests.{lines_step, line_full, all_below, all_last}
use Rattle.ps_text.proofs.lines.append_stack.Goals as goal

pub loop-word-preserved : goal.loop-word-preserved
loop-word-preserved g c =
    let h = g.M.Memory.heap c.args.memory.now in
    let word = c.in-Some.word.now in
    let below = c.in-Some.below.now in
    let names = c.args.names.now in
    let now = c.loop-word.output.items in
    let new = c.append_line.new.output.items in
    let last = c.in-Some.ensures.cases.0 in
    let Writes : Heap → Type 0 = λ k. (s : Store) → Shows k names s → IsWithin (birth_at k) names s word
    → new ≡ now ++ line (text_as c.args.form) s (value_of (birth_at k) names word) in
    let writes = subst Writes c.loop-word.invariant.heap
    (λ s shows within. was_ok _ c.append_line.result c.if-is_err.ensures.value
    (c.append_line.ensures.ok s shows within)) in
    let grown = c.append_line.ensures.capacity in
    let before = c.loop-word.invariant.capacity in
    record {
      heap = c.append_line.ensures.heap ∙ c.loop-word.invariant.heap;
      grants = c.append_line.ensures.grants ∙ c.loop-word.invariant.grants;
      held = all_below (IsValue h) below word (subst (AreValues h) last c.loop-word.invariant.held);
      front = begins_on c.args.output.now.items now new c.loop-word.invariant.front c.append_line.ensures.front;
      capacity = omega (arith, grown, before);
      within = λ s within. all_below (IsWithin (birth_at h) names s) below word
          (subst (AreWithin h names s) last (c.loop-word.invariant.within s within));
      left = λ s shows within.
          let here = all_last (IsWithin (birth_at h) names s) below word
          (subst (AreWithin h names s) last (c.loop-word.invariant.within s within)) in
          lines_step (line (text_as c.args.form) s)
          (value_of (birth_at h) names) _ now c.loop-word.rest.now below word last
          (c.loop-word.invariant.left s shows within) new (writes s shows here);
    }

pub returns-then-is_err-clause-full : goal.returns-then-is_err-clause-full
returns-then-is_err-clause-full g c = λ s shows within.
    let h = g.M.Memory.heap c.args.memory.now in
    let word = c.in-Some.word.now in
    let below = c.in-Some.below.now in
    let names = c.args.names.now in
    let now = c.loop-word.output.items in
    let room = vec_capacity c.loop-word.output in
    let last = c.in-Some.ensures.cases.0 in
    let Lacks : Heap → Type 0 = λ k. (s : Store) → Shows k names s → IsWithin (birth_at k) names s word
    → room < length (now ++ line (text_as c.args.form) s (value_of (birth_at k) names word)) in
    let lacks = subst Lacks c.loop-word.invariant.heap
    (λ s shows within. was_err _ c.append_line.result c.if-is_err.ensures.value
    (c.append_line.ensures.full s shows within)) in
    let here = all_last (IsWithin (birth_at h) names s) below word
    (subst (AreWithin h names s) last (c.loop-word.invariant.within s within)) in
    let less = line_full (line (text_as c.args.form) s)
    (value_of (birth_at h) names) _ now c.loop-word.rest.now below word last
    (c.loop-word.invariant.left s shows within) room (lacks s shows here) in
    let before = c.loop-word.invariant.capacity in
    omega (arith, less, before)

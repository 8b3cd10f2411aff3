use Rattle.std.proofs.Common.{◌∙◌, ◌∷◌}
use Rattle.ps_mem.specs.Heap.{birth_at}
use Rattle.ps_mem.specs.Meaning.{value_of}
use Rattle.ps_mem.specs.Shows.{IsWithin}
use Rattle.ps_ops_operands.specs.Changes.{values_in}
use Rattle.ps_states.specs.Steps.{operand_shown}
use Rattle.ps_states.proofs.Beside.{behind_space}
use Rattle.ps_states.proofs.Lines.{all_at, got, mapped, one_more}
use Rattle.ps_states.proofs.operands.append_others.Goals as goal

pub loop-word-preserved : goal.loop-word-preserved
loop-word-preserved g c =
    let h = g.M.Memory.heap c.args.runtime.now.memory in
    let names = c.args.runtime.now.shared.names in
    let told = c.in_ok-append_shown.ensures.text in
    let text = rw (c.loop-word.invariant.heap, c.loop-word.invariant.shared) at told in
    let here = got c.args.words.now c.loop-word.word-index _ c.loop-word-test.true in
    record {
      heap = c.append_shown.ensures.heap ∙ c.loop-word.invariant.heap;
      grants = c.append_shown.ensures.grants ∙ c.loop-word.invariant.grants;
      shared = c.append_shown.ensures.shared ∙ c.loop-word.invariant.shared;
      texts = λ s shows within.
          one_more (λ value. 32 ∷ operand_shown s value) (values_in h names c.args.words.now)
          c.loop-word.word-index _ c.args.to.now.items c.loop-word.to.items c.append_shown.new.to.items
          (mapped (value_of (birth_at h) names) c.args.words.now c.loop-word.word-index _ here)
          (c.loop-word.invariant.texts s shows within)
          (behind_space c.loop-word.to.items c.push.new.self.items c.append_shown.new.to.items _
          c.in_ok-push.ensures.items (text s shows
          (all_at (IsWithin (birth_at h) names s) c.args.words.now c.loop-word.word-index _ within here)));
    }

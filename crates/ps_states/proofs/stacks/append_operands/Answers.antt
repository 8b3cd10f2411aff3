use Rattle.std.proofs.Common.{◌∙◌, arith}
use Rattle.ps_mem.specs.Heap.{birth_at}
use Rattle.ps_mem.specs.Meaning.{value_of}
use Rattle.ps_mem.specs.Shows.{IsValue, IsWithin}
use Rattle.ps_ops_operands.specs.Changes.{values_in}
use Rattle.ps_states.specs.States.{operand_line}
use Rattle.ps_states.proofs.Lines.{all_at, one_more, all_told, all_gone, mapped, none_mapped}
use Rattle.ps_states.proofs.stacks.append_operands.Goals as goal

pub append_one-requires-clause-sound : goal.append_one-requires-clause-sound
append_one-requires-clause-sound g c = rw c.loop-depth.invariant.heap c.requires.sound

pub append_one-requires-clause-held : goal.append_one-requires-clause-held
append_one-requires-clause-held g c = rw c.loop-depth.invariant.heap
    (all_at (IsValue (g.M.Memory.heap c.args.runtime.now.memory)) c.args.operands.now c.loop-depth.depth
    c.in-Some.word c.requires.held c.in-Some.ensures)

pub loop-depth-preserved : goal.loop-depth-preserved
loop-depth-preserved g c =
    let h = g.M.Memory.heap c.args.runtime.now.memory in
    let names = c.args.runtime.now.shared.names in
    let told = c.in_ok-append_one.ensures.line in
    let line = rw (c.loop-depth.invariant.heap, c.loop-depth.invariant.shared) at told in
    record {
      heap = c.append_one.ensures.heap ∙ c.loop-depth.invariant.heap;
      grants = c.append_one.ensures.grants ∙ c.loop-depth.invariant.grants;
      shared = c.append_one.ensures.shared ∙ c.loop-depth.invariant.shared;
      lines = λ s shows within.
          one_more (operand_line s) (values_in h names c.args.operands.now) c.loop-depth.depth
          (value_of (birth_at h) names c.in-Some.word) c.args.to.now.items c.loop-depth.to.items c.append_one.new.to.items
          (mapped (value_of (birth_at h) names) c.args.operands.now c.loop-depth.depth c.in-Some.word c.in-Some.ensures)
          (c.loop-depth.invariant.lines s shows within)
          (line s shows
          (all_at (IsWithin (birth_at h) names s) c.args.operands.now c.loop-depth.depth c.in-Some.word within c.in-Some.ensures));
    }

pub returns-in_default-clause-lines : goal.returns-in_default-clause-lines
returns-in_default-clause-lines g c = λ s shows within.
    let h = g.M.Memory.heap c.args.runtime.now.memory in
    let names = c.args.runtime.now.shared.names in
    all_gone (operand_line s) (values_in h names c.args.operands.now) c.loop-depth.depth c.args.to.now.items
    c.loop-depth.to.items
    (none_mapped (value_of (birth_at h) names) c.args.operands.now c.loop-depth.depth c.in_default.ensures)
    (c.loop-depth.invariant.lines s shows within)

pub returns-clause-lines : goal.returns-clause-lines
returns-clause-lines g c = λ s shows within.
    let h = g.M.Memory.heap c.args.runtime.now.memory in
    let names = c.args.runtime.now.shared.names in
    all_told (operand_line s) (value_of (birth_at h) names) c.args.operands.now c.loop-depth.depth c.args.to.now.items
    c.loop-depth.to.items
    (omega (arith, c.loop-depth-test.false, c.len-depth-end.ensures.count)) (c.loop-depth.invariant.lines s shows within)

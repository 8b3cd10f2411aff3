use Rattle.std.proofs.Common.{◌∙◌, arith}
use Rattle.ps_mem.specs.Heap.{birth_at}
use Rattle.ps_ops_control.specs.Frames.{IsFrame, IsFrameWithin, frame_of, frames_in}
use Rattle.ps_ops_operands.specs.Changes.{values_in}
use Rattle.ps_states.specs.Chosen.{chart_of}
use Rattle.ps_states.specs.States.{frame_told}
use Rattle.ps_states.proofs.Lines.{all_at, one_more, all_told, all_gone, mapped, none_mapped}
use Rattle.ps_states.proofs.stacks.append_frames.Goals as goal

pub append_level-requires-clause-sound : goal.append_level-requires-clause-sound
append_level-requires-clause-sound g c = rw c.loop-depth.invariant.heap c.requires.sound

pub append_level-requires-clause-held : goal.append_level-requires-clause-held
append_level-requires-clause-held g c = rw c.loop-depth.invariant.heap (
  c.requires.held.0,
  all_at (IsFrame (g.M.Memory.heap c.args.runtime.now.memory) c.requires.held.0) c.args.frames.now
      c.loop-depth.depth c.in-Some.frame c.requires.held.1 c.in-Some.ensures,
)

pub append_level-requires-clause-dictionaries : goal.append_level-requires-clause-dictionaries
append_level-requires-clause-dictionaries g c = rw c.loop-depth.invariant.heap c.requires.dictionaries

pub loop-depth-preserved : goal.loop-depth-preserved
loop-depth-preserved g c =
    let h = g.M.Memory.heap c.args.runtime.now.memory in
    let names = c.args.runtime.now.shared.names in
    let told = c.in_ok-append_level.ensures.line in
    let line = rw (c.loop-depth.invariant.heap, c.loop-depth.invariant.shared) at told in
    record {
      heap = c.append_level.ensures.heap ∙ c.loop-depth.invariant.heap;
      grants = c.append_level.ensures.grants ∙ c.loop-depth.invariant.grants;
      shared = c.append_level.ensures.shared ∙ c.loop-depth.invariant.shared;
      lines = λ s shows within.
          one_more (frame_told (chart_of c.args.chart.now) s (values_in h names c.args.dictionaries.now)) (frames_in h names c.args.frames.now) c.loop-depth.depth
          (frame_of (birth_at h) names c.in-Some.frame) c.args.to.now.items c.loop-depth.to.items c.append_level.new.to.items
          (mapped (frame_of (birth_at h) names) c.args.frames.now c.loop-depth.depth c.in-Some.frame c.in-Some.ensures)
          (c.loop-depth.invariant.lines s shows within)
          (line s shows
          (all_at (IsFrameWithin (birth_at h) names s) c.args.frames.now c.loop-depth.depth c.in-Some.frame within c.in-Some.ensures));
    }

pub returns-in_default-clause-lines : goal.returns-in_default-clause-lines
returns-in_default-clause-lines g c = λ s shows within.
    let h = g.M.Memory.heap c.args.runtime.now.memory in
    let names = c.args.runtime.now.shared.names in
    all_gone (frame_told (chart_of c.args.chart.now) s (values_in h names c.args.dictionaries.now)) (frames_in h names c.args.frames.now) c.loop-depth.depth c.args.to.now.items
    c.loop-depth.to.items
    (none_mapped (frame_of (birth_at h) names) c.args.frames.now c.loop-depth.depth c.in_default.ensures)
    (c.loop-depth.invariant.lines s shows within)

pub returns-clause-lines : goal.returns-clause-lines
returns-clause-lines g c = λ s shows within.
    let h = g.M.Memory.heap c.args.runtime.now.memory in
    let names = c.args.runtime.now.shared.names in
    all_told (frame_told (chart_of c.args.chart.now) s (values_in h names c.args.dictionaries.now)) (frame_of (birth_at h) names) c.args.frames.now c.loop-depth.depth c.args.to.now.items
    c.loop-depth.to.items
    (omega (arith, c.loop-depth-test.false, c.len-depth-end.ensures.count)) (c.loop-depth.invariant.lines s shows within)

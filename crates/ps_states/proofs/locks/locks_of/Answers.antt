use Rattle.std.proofs.Common.{◌≡◌, List, [], ◌++◌, map, arith, sym, ap, subst, ◌∙◌}
use Rattle.std.specs.Prelude.{reverse}
use Rattle.std.specs.List.{flat_map, AllByRecursion}
use Rattle.ps_language.specs.World as world
use Rattle.ps_mem.specs.Heap.{birth_at}
use Rattle.ps_ops_control.specs.declared.frames.Frame.{Frame}
use Rattle.ps_ops_control.specs.Frames.{IsFrame, frame_of}
use Rattle.ps_ops_operands.proofs.Held.{all_reverse}
use Rattle.ps_ops_operands.proofs.Operands.{map-reverse}
use Rattle.ps_states.specs.States as states
use Rattle.ps_states.specs.States.{held_lock}
use Rattle.ps_states.proofs.Lines.{all_at, all_taken, all_told, got, mapped, one_more}
use Rattle.ps_states.proofs.locks.locks_of.Goals as goal

pub push_held-requires-clause-sound : goal.push_held-requires-clause-sound
push_held-requires-clause-sound g c = rw c.loop-frame.invariant.heap c.requires.sound

pub push_held-requires-clause-held : goal.push_held-requires-clause-held
push_held-requires-clause-held g c =
    let h = g.M.Memory.heap c.args.memory.now in
    let frames = c.args.member.now.context.frames in
    let whole : c.topmost-held.result.now ≡ reverse frames = c.topmost-held.ensures
    ∙ ap reverse (all_taken frames c.len.result (omega (arith, c.len.ensures.count))) in
    let each : AllByRecursion (IsFrame h c.requires.held.size) c.topmost-held.result.now =
    subst (λ (all : List Frame). AllByRecursion (IsFrame h c.requires.held.size) all) (sym whole)
    (all_reverse (IsFrame h c.requires.held.size) frames c.requires.held.frames) in
    rw c.loop-frame.invariant.heap (
      c.requires.held.size,
      all_at (IsFrame h c.requires.held.size) c.topmost-held.result.now c.loop-frame.frame-index _ each
          (got c.topmost-held.result.now c.loop-frame.frame-index _ c.loop-frame-test.true),
    )

pub loop-frame-preserved : goal.loop-frame-preserved
loop-frame-preserved g c =
    let h = g.M.Memory.heap c.args.memory.now in
    let told = c.in_ok-push_held.ensures.lock in
    let line = rw c.loop-frame.invariant.heap at told in
    record {
      heap = c.push_held.ensures.heap ∙ c.loop-frame.invariant.heap;
      grants = c.push_held.ensures.grants ∙ c.loop-frame.invariant.grants;
      locks = λ names s shows.
          one_more (held_lock s c.args.identifier) (map (frame_of (birth_at h) names) c.topmost-held.result.now)
          c.loop-frame.frame-index _ [] c.loop-frame.locks.items c.push_held.new.locks.items
          (mapped (frame_of (birth_at h) names) c.topmost-held.result.now c.loop-frame.frame-index _
          (got c.topmost-held.result.now c.loop-frame.frame-index _ c.loop-frame-test.true))
          (c.loop-frame.invariant.locks names s shows) (line names s shows);
    }

pub returns-clause-locks : goal.returns-clause-locks
unfolding states.locks_of
returns-clause-locks g c = λ names s shows.
    let h = g.M.Memory.heap c.args.memory.now in
    let frames = c.args.member.now.context.frames in
    let whole : c.topmost-held.result.now ≡ reverse frames = c.topmost-held.ensures
    ∙ ap reverse (all_taken frames c.len.result (omega (arith, c.len.ensures.count))) in
    all_told (held_lock s c.args.identifier) (frame_of (birth_at h) names) c.topmost-held.result.now
    c.loop-frame.frame-index [] c.loop-frame.locks.items
    (omega (arith, c.loop-frame-test.false)) (c.loop-frame.invariant.locks names s shows)
    ∙ ap (λ (all : List world.Frame). [] ++ flat_map (held_lock s c.args.identifier) all)
    (ap (map (frame_of (birth_at h) names)) whole ∙ map-reverse (frame_of (birth_at h) names) frames)

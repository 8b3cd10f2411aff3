-- The errors in their order, and the elements that are stored.
use Rattle.std.proofs.Common.{arith, length, sym, ap, ◌∙◌}
use Rattle.ps_ops_operands.proofs.Operands.{first_split}
use Rattle.ps_ops_state.specs.Lent.{Lent, lent_of}
use Rattle.ps_step_frames.proofs.Rooming.{roomy_good}
use Rattle.ps_step_frames.proofs.Rewriting.{limits_ok}
use Rattle.ps_step_frames.proofs.Stepping.{bind_lacks, bind_raises, bind_unlogged, bind_stored}
use Rattle.ps_step_frames.proofs.bindings.bind_turn.Goals as goal

pub returns-in-Err : goal.returns-in-Err
returns-in-Err g c =
    let l : Lent = lent_of g.M.Memory.heap g.M.Memory.grants c.args.context.now c.args.runtime.now in
    let none = ap length c.requires.good.empty.words in
    let few = c.in-Err.ensures.full in
    let same = c.in-Err.ensures.err in
    bind_lacks l c.requires.good c.args.over c.args.at c.args.depth
    (first_split _ _ (sym c.requires.top)) c.args.attempt
    (record c.args.runtime.now.shared.scratch { words = c.reserve.new.self })
    (record {
      text = c.requires.good.empty.text;
      sought = c.requires.good.empty.sought;
      words = c.reserve.ensures.items ∙ c.requires.good.empty.words;
    })
    (record { text = omega arith; sought = omega arith; words = omega (arith, same) })
    (omega (arith, few, none))

pub returns-in-Err-stored : goal.returns-in-Err-stored
returns-in-Err-stored g c =
    let l : Lent = lent_of g.M.Memory.heap g.M.Memory.grants c.args.context.now c.args.runtime.now in
    let found = limits_ok c.bind_elements-bound.result
    c.in-Ok-within_limits.bindings c.args.depth (length c.args.context.now.frames) (sym c.within_limits.ensures
    ∙ c.in-Ok-within_limits.is) in
    let room = c.reserve.ensures.capacity in
    let kept = c.bind_elements-bound.ensures.capacity in
    let left = c.clear.ensures.capacity in
    rw (c.in-Err-stored.ensures.unmade ∙ c.bind_elements-bound.ensures.heap)
    (bind_unlogged l c.requires.good c.args.over c.args.at c.args.depth
    (first_split _ _ (sym c.requires.top)) c.args.attempt (record c.args.runtime.now.shared.scratch { words = c.clear.new.self })
    (record {
      text = c.requires.good.empty.text;
      sought = c.requires.good.empty.sought;
      words = c.clear.ensures.items;
    })
    (record { text = omega arith; sought = omega arith; words = omega (arith, room, kept, left) })
    c.in-Ok-within_limits.bindings _
    (rw found at c.bind_elements-bound.ensures.binds)
    (rw found at (sym c.within_limits.ensures ∙ c.in-Ok-within_limits.is))
    c.in-Err-stored.ensures.reason.0 _
    (rw c.bind_elements-bound.ensures.grants at c.in-Err-stored.ensures.logs)
    c.in-Err-stored.reason
    (rw c.bind_elements-bound.ensures.grants at c.in-Err-stored.ensures.reason.1))

pub raise_by-requires : goal.raise_by-requires
raise_by-requires g c = record {
  good =
      let l : Lent = lent_of g.M.Memory.heap g.M.Memory.grants c.args.context.now c.args.runtime.now in
      let room = c.reserve.ensures.capacity in
      let kept = c.bind_elements-bound.ensures.capacity in
      let left = c.clear-in-Err-within_limits.ensures.capacity in
      rw (c.bind_elements-bound.ensures.heap, c.bind_elements-bound.ensures.grants)
      (roomy_good l (record c.args.runtime.now.shared.scratch { words = c.clear-in-Err-within_limits.new.self })
      (record {
        text = c.requires.good.empty.text;
        sought = c.requires.good.empty.sought;
        words = c.clear-in-Err-within_limits.ensures.items;
      })
      (record { text = omega arith; sought = omega arith; words = omega (arith, room, kept, left) })
      c.requires.good);
}

pub returns-in-Ok-stored : goal.returns-in-Ok-stored
returns-in-Ok-stored g c =
    let l : Lent = lent_of g.M.Memory.heap g.M.Memory.grants c.args.context.now c.args.runtime.now in
    let found = limits_ok c.bind_elements-bound.result
    c.in-Ok-within_limits.bindings c.args.depth (length c.args.context.now.frames) (sym c.within_limits.ensures
    ∙ c.in-Ok-within_limits.is) in
    let room = c.reserve.ensures.capacity in
    let kept = c.bind_elements-bound.ensures.capacity in
    let left = c.clear.ensures.capacity in
    rw (
      c.go_on.ensures,
      c.len.ensures ∙ (sym c.as_slice.ensures.len
          ∙ ap length c.as_slice.ensures.value),
    )
    (bind_stored l c.requires.good c.args.over c.args.at c.args.depth
    (first_split _ _ (sym c.requires.top)) c.args.attempt (record c.args.runtime.now.shared.scratch { words = c.clear.new.self })
    (record {
      text = c.requires.good.empty.text;
      sought = c.requires.good.empty.sought;
      words = c.clear.ensures.items;
    })
    (record { text = omega arith; sought = omega arith; words = omega (arith, room, kept, left) })
    c.in-Ok-within_limits.bindings _
    (rw found at c.bind_elements-bound.ensures.binds)
    (rw found at (sym c.within_limits.ensures ∙ c.in-Ok-within_limits.is))
    _ _
    (rw c.bind_elements-bound.ensures.heap at c.store_bound-stored.ensures.keeps)
    c.store_bound-stored.ensures.sound
    (rw (c.in-Ok-stored.is, c.bind_elements-bound.ensures.grants)
    at c.store_bound-stored.ensures.logs)
    (rw (c.in-Ok-stored.is, c.bind_elements-bound.ensures.heap, c.as_slice.ensures.value)
    at c.store_bound-stored.ensures.shows))

pub returns-in-Err-within_limits : goal.returns-in-Err-within_limits
returns-in-Err-within_limits g c =
    let l : Lent = lent_of g.M.Memory.heap g.M.Memory.grants c.args.context.now c.args.runtime.now in
    let room = c.reserve.ensures.capacity in
    let kept = c.bind_elements-bound.ensures.capacity in
    let left = c.clear-in-Err-within_limits.ensures.capacity in
    bind_raises l c.requires.good c.args.over c.args.at c.args.depth
    (first_split _ _ (sym c.requires.top)) c.args.attempt
    (record c.args.runtime.now.shared.scratch { words = c.clear-in-Err-within_limits.new.self })
    (record {
      text = c.requires.good.empty.text;
      sought = c.requires.good.empty.sought;
      words = c.clear-in-Err-within_limits.ensures.items;
    })
    (record { text = omega arith; sought = omega arith; words = omega (arith, room, kept, left) })
    c.bind_elements-bound.result _ c.bind_elements-bound.ensures.binds
    c.in-Err-within_limits.error
    (sym c.within_limits.ensures ∙ c.in-Err-within_limits.is) c.raise_by.result _
    (rw (c.bind_elements-bound.ensures.heap, c.bind_elements-bound.ensures.grants)
    at c.raise_by.ensures)

-- The lines, or no memory for them.
use Rattle.std.proofs.Common.{arith, refl}
use Rattle.ps_mem.specs.Heap.{birth_at}
use Rattle.ps_mem.specs.Shows.{IsValue, IsWithin}
use Rattle.ps_ops_operands.specs.declared.failure.NotMade.TheVariants.{Memory}
use Rattle.ps_ops_state.proofs.Meeting.{keeps-same, logs-same, stays_as, at_least-same}
use Rattle.ps_ops_state.proofs.Acting.{wanting_acts, left_acts}
use Rattle.ps_ops_values.proofs.Printing.{all_turned, stack_prints, prints_made, prints_wants, good_drop}
use Rattle.ps_ops_values.proofs.lines.show_stack.Goals as goal

pub print_stack-requires-clause-held : goal.print_stack-requires-clause-held
print_stack-requires-clause-held g c =
    let h = g.M.Memory.heap c.args.runtime.now.memory in
    all_turned (IsValue h) _ _ _ c.len.ensures.count c.topmost-words.ensures c.requires.good.operands

pub returns-in-Ok : goal.returns-in-Ok
returns-in-Ok g c =
    let births = birth_at (g.M.Memory.heap c.args.runtime.now.memory) in
    rw (c.print_stack.ensures.heap, c.print_stack.ensures.grants, c.print_stack.ensures.bounded.most)
    (record {
      acts = λ attempt. left_acts _ attempt _ _ c.requires.good _ (good_drop _ _ _ 0 c.requires.good)
          (keeps-same _)
          (stays_as _ _ refl refl refl refl c.print_stack.ensures.bounded.capacity
          (at_least-same _)) (logs-same _ _ _)
          (prints_made _ _ 0 _ attempt (stack_prints _ c.args.form _ _ c.len.ensures.count
          c.topmost-words.ensures) _ _
          (λ store shown. (c.in-Ok.ensures.prints store shown.shows
          (all_turned (IsWithin births _ store) _ _ _ c.len.ensures.count c.topmost-words.ensures
          shown.operands)).ok));
    })

pub returns-in-Err : goal.returns-in-Err
returns-in-Err g c =
    let births = birth_at (g.M.Memory.heap c.args.runtime.now.memory) in
    rw (
      c.print_stack.ensures.heap,
      c.print_stack.ensures.grants,
      c.print_stack.ensures.bounded.most,
      c.in-Err.ensures.err,
    )
    (record {
      acts = λ attempt. wanting_acts _ attempt _ _ c.requires.good _ _ _
          (let kept = rw c.in-Err.ensures.err at c.print_stack.ensures.bounded.capacity in
          omega (arith, kept)) (at_least-same _)
          c.requires.good.empty (logs-same 0 _ _) Memory
          (prints_wants _ _ 0 _ attempt (stack_prints _ c.args.form _ _ c.len.ensures.count
          c.topmost-words.ensures) _
          (λ store shown. (c.in-Err.ensures.prints store shown.shows
          (all_turned (IsWithin births _ store) _ _ _ c.len.ensures.count c.topmost-words.ensures
          shown.operands)).full));
    })

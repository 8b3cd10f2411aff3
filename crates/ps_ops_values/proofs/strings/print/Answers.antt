-- The bytes, no string, or no memory for them.
use Rattle.std.proofs.Common.{arith, refl, sym, ◌∙◌}
use Rattle.ps_mem.specs.Heap.{birth_at}
use Rattle.ps_mem.specs.Shows.{IsWithin}
use Rattle.ps_ops_operands.specs.declared.failure.NotMade.TheVariants.{Memory}
use Rattle.ps_ops_operands.proofs.Held.{first_held}
use Rattle.ps_ops_state.proofs.Meeting.{keeps-same, logs-same, stays_as, at_least-same}
use Rattle.ps_ops_state.proofs.Acting.{wanting_acts, left_acts}
use Rattle.ps_ops_values.proofs.Printing.{print_prints, prints_made, prints_wants, good_drop}
use Rattle.ps_ops_values.proofs.strings.print.Goals as goal

pub returns-in-Ok : goal.returns-in-Ok
returns-in-Ok g c =
    let births = birth_at (g.M.Memory.heap c.args.runtime.now.memory) in
    let readable = sym c.is_readable.ensures ∙ c.if-not-is_readable.false in
    rw (
      c.discard.ensures,
      c.print_part.ensures.heap,
      c.print_part.ensures.grants,
      c.print_part.ensures.bounded.most,
    )
    (record {
      acts = λ attempt. left_acts _ attempt _ _ c.requires.good _ (good_drop _ _ _ 1 c.requires.good)
          (keeps-same _)
          (stays_as _ _ refl refl refl refl c.print_part.ensures.bounded.capacity
          (at_least-same _)) (logs-same _ _ _)
          (prints_made _ _ 1 _ attempt
          (print_prints _ _ c.in-Some.ensures _ c.in-Some-string_of.ensures.part readable) _ _
          (λ store shown. (c.in-Ok.ensures.prints _ store shown.shows
          (c.in-Some-string_of.ensures.within _ _ store
          (first_held (IsWithin births _ store) _ shown.operands _ c.in-Some.ensures))).ok));
    })

pub returns-in-Err : goal.returns-in-Err
returns-in-Err g c =
    let births = birth_at (g.M.Memory.heap c.args.runtime.now.memory) in
    let readable = sym c.is_readable.ensures ∙ c.if-not-is_readable.false in
    rw (
      c.print_part.ensures.heap,
      c.print_part.ensures.grants,
      c.print_part.ensures.bounded.most,
      c.in-Err.ensures.err,
    )
    (record {
      acts = λ attempt. wanting_acts _ attempt _ _ c.requires.good _ _ _
          (let kept = rw c.in-Err.ensures.err at c.print_part.ensures.bounded.capacity in
          omega (arith, kept)) (at_least-same _)
          c.requires.good.empty (logs-same 0 _ _) Memory
          (prints_wants _ _ 1 _ attempt
          (print_prints _ _ c.in-Some.ensures _ c.in-Some-string_of.ensures.part readable) _
          (λ store shown. (c.in-Err.ensures.prints _ store shown.shows
          (c.in-Some-string_of.ensures.within _ _ store
          (first_held (IsWithin births _ store) _ shown.operands _ c.in-Some.ensures))).full));
    })

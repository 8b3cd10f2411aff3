-- The line, no operand, or no memory for it.
use Rattle.std.proofs.Common.{arith, refl, sym, ◌∙◌}
use Rattle.ps_language.specs.Texts.{plain_text}
use Rattle.ps_language.specs.declared.errors.ErrorName.TheVariants.{StackUnderflow}
use Rattle.ps_ops_operands.specs.declared.failure.NotMade.TheVariants.{Memory}
use Rattle.ps_mem.specs.Heap.{birth_at}
use Rattle.ps_mem.specs.Shows.{IsValue, IsWithin}
use Rattle.ps_ops_operands.proofs.Held.{first_held}
use Rattle.ps_ops_state.proofs.Meeting.{keeps-same, logs-same, stays_as, at_least-same}
use Rattle.ps_ops_state.proofs.Acting.{raised_acts, wanting_acts, left_acts}
use Rattle.ps_ops_values.proofs.Printing.{line_empty, line_prints, prints_made, prints_wants, good_drop}
use Rattle.ps_ops_values.proofs.lines.equals.Goals as goal

pub returns-in_default : goal.returns-in_default
returns-in_default g c = record {
  acts = λ attempt. raised_acts _ attempt _ _ c.requires.good StackUnderflow
      (line_empty plain_text _ (sym c.in_default.is ∙ c.top.ensures));
}

pub print_plain_line-requires-clause-held : goal.print_plain_line-requires-clause-held
print_plain_line-requires-clause-held g c =
    first_held (IsValue (g.M.Memory.heap c.args.runtime.now.memory)) _ c.requires.good.operands _
    c.in-Some.ensures

pub returns-in-Ok : goal.returns-in-Ok
returns-in-Ok g c =
    let births = birth_at (g.M.Memory.heap c.args.runtime.now.memory) in
    rw (
      c.discard.ensures,
      c.print_plain_line.ensures.heap,
      c.print_plain_line.ensures.grants,
      c.print_plain_line.ensures.bounded.most,
    )
    (record {
      acts = λ attempt. left_acts _ attempt _ _ c.requires.good _ (good_drop _ _ _ 1 c.requires.good)
          (keeps-same _)
          (stays_as _ _ refl refl refl refl c.print_plain_line.ensures.bounded.capacity
          (at_least-same _)) (logs-same _ _ _)
          (prints_made _ _ 1 _ attempt (line_prints plain_text _ _ c.in-Some.ensures) _ _
          (λ store shown. (c.in-Ok.ensures.prints store shown.shows
          (first_held (IsWithin births _ store) _ shown.operands _ c.in-Some.ensures)).ok));
    })

pub returns-in-Err : goal.returns-in-Err
returns-in-Err g c =
    let births = birth_at (g.M.Memory.heap c.args.runtime.now.memory) in
    rw (
      c.print_plain_line.ensures.heap,
      c.print_plain_line.ensures.grants,
      c.print_plain_line.ensures.bounded.most,
      c.in-Err.ensures.err,
    )
    (record {
      acts = λ attempt. wanting_acts _ attempt _ _ c.requires.good _ _ _
          (let kept = rw c.in-Err.ensures.err at c.print_plain_line.ensures.bounded.capacity in
          omega (arith, kept)) (at_least-same _)
          c.requires.good.empty (logs-same 0 _ _) Memory
          (prints_wants _ _ 1 _ attempt (line_prints plain_text _ _ c.in-Some.ensures) _
          (λ store shown. (c.in-Err.ensures.prints store shown.shows
          (first_held (IsWithin births _ store) _ shown.operands _ c.in-Some.ensures)).full));
    })

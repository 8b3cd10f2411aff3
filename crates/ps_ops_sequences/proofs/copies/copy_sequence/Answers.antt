-- By the topmost operand.
use Rattle.std.proofs.Common.{◌≡◌, ◌∷◌, ◌+◌, ◌≤◌, arith, drop, nat_le, true, sym, ap, ◌∙◌}
use Rattle.std.specs.Prelude.{is_some}
use Rattle.std.proofs.lemmas.Bool.Decides.{nat_tests}
use Rattle.ps_language.specs.declared.errors.ErrorName.TheVariants.{InvalidAccess, RangeCheck, StackUnderflow, TypeCheck}
use Rattle.ps_language.specs.Value.{Value}
use Rattle.ps_mem.specs.Heap.{birth_at}
use Rattle.ps_mem.specs.Shows.{IsValue, IsWithin}
use Rattle.ps_ops_operands.specs.Changes.{values_in}
use Rattle.ps_ops_operands.proofs.Held.{first_held, second_held, first_of_two_held, rest_held}
use Rattle.ps_ops_state.proofs.Acting.{raised_acts}
use Rattle.ps_ops_state.proofs.Alike.{came_acts, effect_acts, asked_acts}
use Rattle.ps_ops_state.proofs.Lifts.{does_acts}
use Rattle.ps_ops_sequences.proofs.Copying.{copied_acts, uncopied_acts}
use Rattle.ps_ops_sequences.proofs.CopyRows.{two_tops, copy_counts, copy_counts_asks, copy_wrong, copy_alone, copy_unlike, copy_hidden, copy_outside, copy_copies}
use Rattle.ps_ops_sequences.proofs.copies.copy_sequence.Goals as goal

pub returns-then-is_some : goal.returns-then-is_some
returns-then-is_some g c =
    let number = ap is_some (sym c.as_integer.ensures) ∙ (sym c.is_some.ensures ∙ c.if-is_some.true)
    in
    came_acts _ _ _ _ _ _ _ c.made.ensures
    (asked_acts _ _ _ _ _ _ _ (copy_counts_asks _ _ c.in-Some.ensures number)
    (effect_acts _ _ _ _ _ _ _ (copy_counts _ _ c.in-Some.ensures number)
    (does_acts _ c.requires.good _ _ _ _ c.copy_count.ensures.row c.copy_count.ensures.kept)))

pub returns-in_default-as_part : goal.returns-in_default-as_part
returns-in_default-as_part g c =
    let number = ap is_some (sym c.as_integer.ensures)
    ∙ (sym c.is_some.ensures ∙ c.if-is_some.false) in
    raised_acts _ _ _ _ c.requires.good TypeCheck
    (copy_wrong _ _ c.in-Some.ensures number (ap is_some (sym c.in_default-as_part.ensures)) c.requires.topmost)

pub returns-in_default-peek : goal.returns-in_default-peek
returns-in_default-peek g c =
    let number = ap is_some (sym c.as_integer.ensures)
    ∙ (sym c.is_some.ensures ∙ c.if-is_some.false) in
    raised_acts _ _ _ _ c.requires.good StackUnderflow
    (copy_alone _ _ c.in-Some.ensures number (ap is_some (sym c.in-Some-as_part.ensures)) c.in_default-peek.ensures)

pub returns-in_default-pair_of : goal.returns-in_default-pair_of
returns-in_default-pair_of g c =
    let number = ap is_some (sym c.as_integer.ensures)
    ∙ (sym c.is_some.ensures ∙ c.if-is_some.false) in
    raised_acts _ _ _ _ c.requires.good TypeCheck
    (copy_unlike _ _ c.in-Some.ensures number (ap is_some (sym c.in-Some-as_part.ensures)) _ c.in-Some-peek.ensures
    (c.in_default-pair_of.ensures.parts _ _))

pub returns-then-not-may_copy : goal.returns-then-not-may_copy
returns-then-not-may_copy g c =
    let number = ap is_some (sym c.as_integer.ensures)
    ∙ (sym c.is_some.ensures ∙ c.if-is_some.false) in
    raised_acts _ _ _ _ c.requires.good InvalidAccess
    (copy_hidden _ _ c.in-Some.ensures number (ap is_some (sym c.in-Some-as_part.ensures)) _ c.in-Some-peek.ensures
    c.in-Some-pair_of.pair (c.in-Some-pair_of.ensures.parts _ _)
    (sym c.may_copy.ensures ∙ c.if-not-may_copy.true))

pub returns-then-pair : goal.returns-then-pair
returns-then-pair g c =
    let number = ap is_some (sym c.as_integer.ensures)
    ∙ (sym c.is_some.ensures ∙ c.if-is_some.false) in
    raised_acts _ _ _ _ c.requires.good RangeCheck
    (copy_outside _ _ c.in-Some.ensures number (ap is_some (sym c.in-Some-as_part.ensures)) _ c.in-Some-peek.ensures
    c.in-Some-pair_of.pair (c.in-Some-pair_of.ensures.parts _ _)
    (sym c.may_copy.ensures ∙ c.if-not-may_copy.false) (grind (arith, nat_tests, c.if-pair.true)))

pub copy_contents-requires-clause-pair : goal.copy_contents-requires-clause-pair
copy_contents-requires-clause-pair g c =
    let h = g.M.Memory.heap c.args.runtime.now.memory in
    let tops = two_tops _ _ _ c.in-Some.ensures c.in-Some-peek.ensures in
    c.in-Some-pair_of.ensures.stands h
    (second_held (IsValue h) _ c.requires.good.operands _ _ tops)
    (first_of_two_held (IsValue h) _ c.requires.good.operands _ _ tops)

pub returns-in-Err : goal.returns-in-Err
returns-in-Err g c =
    let number = ap is_some (sym c.as_integer.ensures)
    ∙ (sym c.is_some.ensures ∙ c.if-is_some.false) in
    let pair = c.in-Some-pair_of.pair in
    let short : pair.from.length ≤ pair.to.length = c.if-pair.false in
    let room : 0 + pair.from.length ≤ pair.to.length = omega (arith, short) in
    let fits : nat_le pair.from.length pair.to.length ≡ true = grind (arith, nat_tests) in
    rw c.in-Err.ensures.same (uncopied_acts _ _ _ _ _ _ _ _ _ c.requires.good room
    (c.in-Some-pair_of.ensures.from _ _) (c.in-Some-pair_of.ensures.to _ _)
    (copy_copies _ _ c.in-Some.ensures number (ap is_some (sym c.in-Some-as_part.ensures)) _ c.in-Some-peek.ensures
    pair (c.in-Some-pair_of.ensures.parts _ _) (sym c.may_copy.ensures ∙ c.if-not-may_copy.false)
    c.requires.good _ fits (c.in-Some-pair_of.ensures.from _ _) (c.in-Some-pair_of.ensures.to _ _))
    _ _ c.copy_contents.ensures.room c.copy_contents.ensures.empty _ c.in-Err.ensures.spends
    c.in-Err.ensures.reason)

pub returns : goal.returns
returns g c =
    let h = g.M.Memory.heap c.args.runtime.now.memory in
    let number = ap is_some (sym c.as_integer.ensures)
    ∙ (sym c.is_some.ensures ∙ c.if-is_some.false) in
    let pair = c.in-Some-pair_of.pair in
    let short : pair.from.length ≤ pair.to.length = c.if-pair.false in
    let room : 0 + pair.from.length ≤ pair.to.length = omega (arith, short) in
    let fits : nat_le pair.from.length pair.to.length ≡ true = grind (arith, nat_tests) in
    let tops = two_tops _ _ _ c.in-Some.ensures c.in-Some-peek.ensures in
    rw c.replace.ensures (copied_acts _ _ _ _ _ _ _ _ _ c.requires.good room
    (c.in-Some-pair_of.ensures.from _ _) (c.in-Some-pair_of.ensures.to _ _)
    (copy_copies _ _ c.in-Some.ensures number (ap is_some (sym c.in-Some-as_part.ensures)) _ c.in-Some-peek.ensures
    pair (c.in-Some-pair_of.ensures.parts _ _) (sym c.may_copy.ensures ∙ c.if-not-may_copy.false)
    c.requires.good _ fits (c.in-Some-pair_of.ensures.from _ _) (c.in-Some-pair_of.ensures.to _ _))
    _ _ c.copy_contents.ensures.room c.copy_contents.ensures.empty _
    c.in_default-copy_contents.ensures.keeps c.in_default-copy_contents.ensures.sound
    _ (
      c.front_of.ensures.held h (first_held (IsValue h) _ c.requires.good.operands _
          c.in-Some.ensures),
      rest_held (IsValue h) _ c.requires.good.operands 2,
    )
    (ap (λ (v : Value). v ∷ values_in h c.args.runtime.now.shared.names
    (drop 2 c.args.context.now.operands)) (sym (c.front_of.ensures.value _ _)))
    (λ store shown. (
      c.front_of.ensures.within (birth_at h) _ store
          (first_held (IsWithin (birth_at h) _ store) _ shown.operands _ c.in-Some.ensures),
      rest_held (IsWithin (birth_at h) _ store) _ shown.operands 2,
    ))
    c.in_default-copy_contents.ensures.spends
    (λ store shown. c.in_default-copy_contents.ensures.shows _ store shown.shows
    (c.in-Some-pair_of.ensures.within (birth_at h) _ store
    (second_held (IsWithin (birth_at h) _ store) _ shown.operands _ _ tops)
    (first_of_two_held (IsWithin (birth_at h) _ store) _ shown.operands _ _ tops))))

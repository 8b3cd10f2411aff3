-- What is copied, or one of the errors.
use Rattle.std.proofs.Common.{refl, sym, ◌∙◌, rules, w32}
use mir.Val.{SFits}
use Rattle.std.proofs.lemmas.Int.{to_z-of_z}
use Rattle.ps_language.specs.declared.errors.ErrorName.TheVariants.{InvalidAccess, RangeCheck, TypeCheck}
use Rattle.ps_mem.specs.Heap.{birth_at}
use Rattle.ps_mem.specs.Shows.{IsValue, IsWithin}
use Rattle.ps_ops_operands.proofs.Held.{first_of_three_held, third_held, rest_held}
use Rattle.ps_ops_state.proofs.Acting.{raised_acts}
use Rattle.ps_ops_sequences.proofs.Copying.{copied_acts, uncopied_acts}
use Rattle.ps_ops_sequences.proofs.PutIntervals.{put_wrong, put_hidden, put_outside, put_copies}
use Rattle.ps_ops_sequences.proofs.copies.putinterval.Goals as goal

pub returns-in_default-pair_of-clause-acts : goal.returns-in_default-pair_of-clause-acts
returns-in_default-pair_of-clause-acts g c = raised_acts _ _ _ _ c.requires.good TypeCheck
    (put_wrong _ _ _ _ c.in-Some.ensures _ (c.in-Some-integer_of.ensures _ _)
    (c.in_default-pair_of.ensures.parts _ _))

pub returns-then-not-may_copy-clause-acts : goal.returns-then-not-may_copy-clause-acts
returns-then-not-may_copy-clause-acts g c = raised_acts _ _ _ _ c.requires.good InvalidAccess
    (put_hidden _ _ _ _ c.in-Some.ensures _ (c.in-Some-integer_of.ensures _ _)
    c.in-Some-pair_of.pair (c.in-Some-pair_of.ensures.parts _ _) (sym c.may_copy.ensures ∙ c.if-not-may_copy.true))

pub returns-in_default-interval_within-clause-acts : goal.returns-in_default-interval_within-clause-acts
returns-in_default-interval_within-clause-acts g c =
    let fits : SFits w32 c.in-Some-integer_of.number = search rules in
    raised_acts _ _ _ _ c.requires.good RangeCheck
    (put_outside _ _ _ _ c.in-Some.ensures _ (c.in-Some-integer_of.ensures _ _)
    c.in-Some-pair_of.pair (c.in-Some-pair_of.ensures.parts _ _) (sym c.may_copy.ensures ∙ c.if-not-may_copy.false)
    (simp to_z-of_z at c.in_default-interval_within.ensures.place))

pub copy_contents-requires-clause-pair : goal.copy_contents-requires-clause-pair
copy_contents-requires-clause-pair g c =
    let h = g.M.Memory.heap c.args.runtime.now.memory in
    c.in-Some-pair_of.ensures.stands h
    (first_of_three_held (IsValue h) _ c.requires.good.operands _ _ _ c.in-Some.ensures)
    (third_held (IsValue h) _ c.requires.good.operands _ _ _ c.in-Some.ensures)

pub returns-in-Err-clause-acts : goal.returns-in-Err-clause-acts
returns-in-Err-clause-acts g c =
    let fits : SFits w32 c.in-Some-integer_of.number = search rules in
    rw c.in-Err.ensures.same (uncopied_acts _ _ _ _ _ _ _ _ _ c.requires.good
    c.in-Some-interval_within.ensures.within (c.in-Some-pair_of.ensures.from _ _)
    (c.in-Some-pair_of.ensures.to _ _)
    (put_copies _ _ _ _ c.in-Some.ensures _ (c.in-Some-integer_of.ensures _ _)
    c.in-Some-pair_of.pair (c.in-Some-pair_of.ensures.parts _ _) (sym c.may_copy.ensures ∙ c.if-not-may_copy.false)
    c.requires.good _ _ (simp to_z-of_z at c.in-Some-interval_within.ensures.place)
    (c.in-Some-pair_of.ensures.from _ _) (c.in-Some-pair_of.ensures.to _ _))
    _ _ c.copy_contents.ensures.room c.copy_contents.ensures.empty _ c.in-Err.ensures.spends
    c.in-Err.ensures.reason)

pub returns-clause-acts : goal.returns-clause-acts
returns-clause-acts g c =
    let h = g.M.Memory.heap c.args.runtime.now.memory in
    let fits : SFits w32 c.in-Some-integer_of.number = search rules in
    rw c.discard.ensures (copied_acts _ _ _ _ _ _ _ _ _ c.requires.good
    c.in-Some-interval_within.ensures.within (c.in-Some-pair_of.ensures.from _ _)
    (c.in-Some-pair_of.ensures.to _ _)
    (put_copies _ _ _ _ c.in-Some.ensures _ (c.in-Some-integer_of.ensures _ _)
    c.in-Some-pair_of.pair (c.in-Some-pair_of.ensures.parts _ _) (sym c.may_copy.ensures ∙ c.if-not-may_copy.false)
    c.requires.good _ _ (simp to_z-of_z at c.in-Some-interval_within.ensures.place)
    (c.in-Some-pair_of.ensures.from _ _) (c.in-Some-pair_of.ensures.to _ _))
    _ _ c.copy_contents.ensures.room c.copy_contents.ensures.empty _
    c.copy_contents.ensures.keeps c.copy_contents.ensures.sound
    _ (rest_held (IsValue h) _ c.requires.good.operands 3) refl
    (λ store shown. rest_held (IsWithin (birth_at h) _ store) _ shown.operands 3)
    c.in_default-copy_contents.ensures.spends
    (λ store shown. c.in_default-copy_contents.ensures.shows _ store shown.shows
    (c.in-Some-pair_of.ensures.within (birth_at h) _ store
    (first_of_three_held (IsWithin (birth_at h) _ store) _ shown.operands _ _ _ c.in-Some.ensures)
    (third_held (IsWithin (birth_at h) _ store) _ shown.operands _ _ _ c.in-Some.ensures))))

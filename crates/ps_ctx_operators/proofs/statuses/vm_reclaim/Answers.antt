-- The number goes, or is no wish.
use Rattle.std.proofs.Common.{sym, ◌∙◌, rules, w32}
use mir.Val.{SFits}
use Rattle.std.proofs.lemmas.Int.{to_z-of_z}
use Rattle.ps_language.specs.declared.errors.ErrorName.TheVariants.{RangeCheck}
use Rattle.ps_mem.specs.Shows.{IsValue}
use Rattle.ps_ops_operands.proofs.Held.{rest_held}
use Rattle.ps_ops_state.proofs.Acting.{raised_acts}
use Rattle.ps_ops_state.proofs.Direct.{words_acts}
use Rattle.ps_ctx_operators.proofs.Wishing.{wish_refused, wish_taken}
use Rattle.ps_ctx_operators.proofs.statuses.vm_reclaim.Goals as goal

pub returns-then-not-is_wish-clause-acts : goal.returns-then-not-is_wish-clause-acts
returns-then-not-is_wish-clause-acts g c attempt =
    let fits : SFits w32 c.in-Some-integer_of.number = search rules in
    raised_acts _ attempt _ _ c.requires.good RangeCheck
    (wish_refused _ _ c.in-Some.ensures _ c.in-Some-integer_of.ensures
    (sym (simp to_z-of_z at c.is_wish.ensures) ∙ c.if-not-is_wish.true))

pub returns-clause-acts : goal.returns-clause-acts
returns-clause-acts g c attempt =
    let fits : SFits w32 c.in-Some-integer_of.number = search rules in
    rw (c.discard.ensures)
    (words_acts _ attempt _ _ _ c.requires.good
    (rest_held (IsValue (g.M.Memory.heap c.args.runtime.now.memory)) _ c.requires.good.operands 1)
    (wish_taken _ _ c.in-Some.ensures _ c.in-Some-integer_of.ensures
    (sym (simp to_z-of_z at c.is_wish.ensures) ∙ c.if-not-is_wish.false) attempt _))

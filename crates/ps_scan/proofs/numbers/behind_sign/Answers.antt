-- A sign in front is left out.
use Rattle.std.proofs.Common.{◌∙◌, sym, arith, ◌<◌, length}
use Rattle.std.proofs.lemmas.Bool.{eqb-false, eqb-true}
use Rattle.ps_scan.proofs.NumberForms.{tail_is, unsigned_on, unsigned_off, unsigned_none}
use Rattle.ps_scan.proofs.numbers.behind_sign.Goals as goal
use Rattle.ps_scan.proofs.numbers.behind_sign.Goals.{else-not-is_empty-via-then-not-is_empty+else-is_sign_byte}
use Rattle.ps_scan.proofs.numbers.behind_sign.Goals.{else-not-is_empty-via-else-not-is_empty}

pub returns-then-is_sign_byte : goal.returns-then-is_sign_byte
returns-then-is_sign_byte c =
    let some : 0 < length c.args.run.now =
    omega (arith, eqb-false _ _ (sym c.is_empty.ensures ∙ c.if-not-is_empty.true)) in
    tail_is c.args.run.now 1
    ∙ sym (unsigned_on c.args.run.now some (sym c.is_sign_byte.ensures ∙ c.if-is_sign_byte.true))

pub returns-else-not-is_empty : goal.returns-else-not-is_empty
returns-else-not-is_empty c = elim c.else-not-is_empty.branch [
  | else-not-is_empty-via-then-not-is_empty+else-is_sign_byte w ↦ sym
      (unsigned_off c.args.run.now (sym w.is_sign_byte.ensures ∙ w.if-is_sign_byte.false))
  | else-not-is_empty-via-else-not-is_empty w ↦ sym
      (unsigned_none c.args.run.now (eqb-true _ _ (sym c.is_empty.ensures ∙ w.if-not-is_empty.false)))
]

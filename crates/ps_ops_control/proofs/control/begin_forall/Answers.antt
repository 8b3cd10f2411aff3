-- By what the two operands are, and by the access that was read.
use Rattle.std.proofs.Common.{refl, arith, sym, ◌∙◌}
use Rattle.std.proofs.lemmas.Bool.Decides.{nat_tests}
use Rattle.ps_mem.specs.Shows.{IsValue}
use Rattle.ps_ops_operands.proofs.Held.{first_of_two_held}
use Rattle.ps_ops_control.proofs.Foralls.{forall_wrong, forall_hidden, forall_full, forall_begins}
use Rattle.ps_ops_control.proofs.control.begin_forall.Goals as goal

pub returns-in_default-access : goal.returns-in_default-access
returns-in_default-access c = record {
  controls = λ h size ready second.
      forall_wrong h size _ _ ready _ second _ _ c.in-Some.ensures _ c.in-Some-procedure_of.ensures.part
      c.in_default-access.is;
  framed = refl;
}

pub returns-then-not-may_loop : goal.returns-then-not-may_loop
returns-then-not-may_loop c = record {
  controls = λ h size ready second.
      forall_hidden h size _ _ ready _ second _ _ c.in-Some.ensures _ c.in-Some-procedure_of.ensures.part _
      c.in-Some-access.is (sym c.may_loop.ensures ∙ c.if-not-may_loop.true);
  framed = refl;
}

pub returns-then-is_full : goal.returns-then-is_full
returns-then-is_full c = record {
  controls = λ h size ready second.
      forall_full h size _ _ ready _ second _ _ c.in-Some.ensures _ c.in-Some-procedure_of.ensures.part _
      c.in-Some-access.is (sym c.may_loop.ensures ∙ c.if-not-may_loop.false)
      (grind (arith, nat_tests, c.is_full.ensures, c.if-is_full.true));
  framed = refl;
}

pub returns : goal.returns
returns c = record {
  controls = λ h size ready second. rw (c.discard.ensures, c.push_frame.ensures)
      (forall_begins h size _ _ ready _ second _ _ c.in-Some.ensures _ c.in-Some-procedure_of.ensures.part _
      c.in-Some-access.is (sym c.may_loop.ensures ∙ c.if-not-may_loop.false)
      (grind (arith, nat_tests, c.is_full.ensures, c.if-is_full.false))
      (c.in-Some-procedure_of.ensures.held h
      (first_of_two_held (IsValue h) _ ready.operands.values _ _ c.in-Some.ensures)));
  framed = tt;
}

use Rattle.std.proofs.Common.{inl, inr, refl, sym, ◌∙◌, subst}
use Rattle.std.specs.Prelude.{Any}
use Rattle.std.proofs.lemmas.Bool.{true≢false}
use Rattle.ps_vault.specs.Endings.{IsAlike}
use Rattle.ps_vault.proofs.exploring.keep.Goals as goal

pub returns-then-has_alike : goal.returns-then-has_alike
returns-then-has_alike c = inl (
  subst (Any (IsAlike c.args.report)) c.as_slice.ensures.value
      (c.has_alike.ensures.0 c.if-has_alike.true),
  refl,
)

pub returns : goal.returns
returns c = inr (
  λ one. true≢false (sym (c.has_alike.ensures.1
      (subst (Any (IsAlike c.args.report)) (sym c.as_slice.ensures.value) one))
      ∙ c.if-has_alike.false),
  c.in_ok-push.ensures.items,
)

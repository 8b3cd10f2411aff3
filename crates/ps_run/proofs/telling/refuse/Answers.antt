use Rattle.std.proofs.Common.{inr, refl, sym, ◌∙◌}
use Rattle.std.proofs.lemmas.Bool.{true≢false}
use Rattle.ps_run.proofs.telling.refuse.Goals as goal

pub returns : goal.returns
returns g c = inr (
  refl,
  λ is.
      let test = rw (c.kind.ensures, is) at c.eq.ensures in
      absurd (true≢false (sym test ∙ c.if-eq.false)),
)

-- What is counted in the table are the contexts that are left.
use Rattle.std.proofs.Common.{◌≡◌, refl, sym, ◌∙◌, ap, arith}
use Rattle.std.specs.Prelude.{◌==◌, false}
use Rattle.std.proofs.lemmas.Bool.Decides.{nat_tests}
use Rattle.ps_language.specs.Contexts.{count_not_ended}
use Rattle.ps_ctx_table.proofs.Holding.{contexts_in-count}
use Rattle.ps_vault.specs.Stories.{Story, world_at}
use Rattle.ps_vault.proofs.Keeping.{at_story}
use Rattle.ps_vault.proofs.vaults.Vault.at_once.Given as givens
use Rattle.ps_vault.proofs.vaults.Vault.at_once.Goals as goal
use Rattle.ps_vault.proofs.vaults.Vault.at_once.Goals.{After-left}

counted : (g : givens.Over) (c : After-left g)
    → count_not_ended (world_at c.args.self.now).contexts ≡ c.left.result
counted g c =
    ap count_not_ended (at_story _ c.self.inside.schedule.items c.args.self.now c.self.invariant
    (ap (λ (s : Story). s.program) c.self.view_is) (ap (λ (s : Story). s.schedule) c.self.view_is)
    (ap (λ (s : Story). s.caller) c.self.view_is) c.requires).contexts
    ∙ (contexts_in-count _ _ _ ∙ sym c.left.ensures.left)

pub returns-then-left-eq1 : goal.returns-then-left-eq1
returns-then-left-eq1 g c =
    let is = counted g (goal.at.returns-then-left-eq1 g c).After-left in
    let one : count_not_ended (world_at c.args.self.now).contexts ≡ 1 =
    omega (arith, is, c.if-left-eq1.true) in
    rw one refl

pub returns : goal.returns
returns g c =
    let is = counted g (goal.at.returns g c).After-left in
    let more : (count_not_ended (world_at c.args.self.now).contexts == 1) ≡ false =
    grind (arith, nat_tests, is, c.if-left-eq1.false) in
    rw more c.min.ensures

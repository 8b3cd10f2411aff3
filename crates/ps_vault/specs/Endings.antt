-- What runs in orders of a caller's choice come to.
use Rattle.std.specs.Prelude.{◌≡◌, ℕ, suc, false, List, [], ◌∷◌, ◌++◌, Any}
use Rattle.ps_language.specs.Effect.{Around, Scene}
use Rattle.ps_language.specs.World.{Status}
use Rattle.ps_ops_state.specs.Acts.{Asked}
use Rattle.ps_vault.specs.declared.reports.Report.{Report}
use Rattle.ps_vault.specs.Reports.{Bounds, IsBounded, IsRunOf, is_memory}

-- two runs ended alike: they printed the same, and the outcome is the same
pub record IsAlike (a b : Report) : Type 0 where
  pub printed : a.printed.items ≡ b.printed.items
  pub outcome : a.outcome ≡ b.outcome

-- asks: what a step asks for that the language doesn't say
module _ (asks : Status → Around → Scene → Asked) (program : List ℕ) (steps : ℕ) (most : Bounds)
  where
    -- a run of the program with a budget of steps and these bounds, which wanted no memory
    pub record IsEnding (report : Report) : Type 0 where
      pub run : IsRunOf asks program steps report
      pub bounded : IsBounded most report
      pub known : is_memory report.outcome ≡ false

    -- so many runs, one after another, ended so: of those that ended alike the first is here
    pub data AreEndings : (runs : ℕ) → List Report → Type 0 where
      no_run : AreEndings 0 []
      alike : {runs : ℕ} {endings : List Report} {report : Report} → AreEndings runs endings
          → IsEnding report → Any (IsAlike report) endings → AreEndings (suc runs) endings
      another : {runs : ℕ} {endings : List Report} {report : Report} → AreEndings runs endings
          → IsEnding report → ¬ Any (IsAlike report) endings
          → AreEndings (suc runs) (endings ++ report ∷ [])

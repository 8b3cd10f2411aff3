-- Which runs ended alike.
use Rattle.std.proofs.Common.{◌≡◌, ◌+◌, ◌<◌, ◌≤◌, ℕ, suc, List, [], ◌∷◌, ◌++◌, length, length-append, inl, inr, sym, ◌∙◌, ap, subst, arith}
use Rattle.std.specs.Prelude.{◌⊎◌, All, Any, slice_index_or}
use Rattle.std.proofs.Math.Nat.{eq-or-lt_of_le}
use Rattle.std.proofs.lemmas.List.{get_or_default}
use Rattle.std.proofs.lemmas.List.Elements.{All-nil, All-cons, All-append}
use Rattle.ps_language.specs.Effect.{Around, Scene}
use Rattle.ps_language.specs.World.{Status}
use Rattle.ps_ops_state.specs.Acts.{Asked}
use Rattle.ps_vault.specs.declared.reports.Report.{Report}
use Rattle.ps_vault.specs.Endings.{AreEndings, no_run, alike, another, IsAlike, IsEnding}
use Rattle.ps_vault.specs.Reports.{Bounds}

-- the next one isn't alike either
pub none_further : (report : Report) (endings : List Report) (at : ℕ) (next : Report)
    → at < length endings → next ≡ slice_index_or endings at next
    → ((place : ℕ) → place < at → (other : Report) → slice_index_or endings place other ≡ other
    → ¬ IsAlike report other) → ¬ IsAlike report next
    → (place : ℕ) → place < at + 1 → (other : Report) → slice_index_or endings place other ≡ other
    → ¬ IsAlike report other
none_further report endings at next less is before new place within other found =
    elim (eq-or-lt_of_le (let le : suc place ≤ suc at = omega (arith, within) in le)) [
      | inl same ↦ λ alike.
          let here : place ≡ at = omega (arith, same) in
          new (subst (IsAlike report)
          (sym found ∙ (ap (λ (k : ℕ). slice_index_or endings k other) here
          ∙ (get_or_default endings at other next less ∙ sym is))) alike)
      | inr less_place ↦ before place (omega (arith, less_place)) other found
    ]

-- ---- how many endings so many runs have, and what each is

module _ (asks : Status → Around → Scene → Asked) (program : List ℕ) (steps : ℕ)
    (most : Bounds) where
  pub endings_few : (runs : ℕ) (endings : List Report)
      → AreEndings asks program steps most runs endings → length endings ≤ runs
  endings_few runs endings no_run = omega arith
  endings_few runs endings (alike before is one) =
      let less = endings_few _ _ before in
      omega (arith, less)
  endings_few runs endings (another {endings = some} {report = report} before is none) =
      let less = endings_few _ _ before in
      let more = length-append some (report ∷ []) in
      omega (arith, less, more)

  pub endings_some : (runs : ℕ) (endings : List Report)
      → AreEndings asks program steps most runs endings → 1 ≤ runs → 1 ≤ length endings
  endings_some runs endings no_run less = absurd (omega (arith, less))
  endings_some runs endings (alike before is one) less = omega (arith, one.2)
  endings_some runs endings (another {endings = some} {report = report} before is none) less =
      let more = length-append some (report ∷ []) in
      omega (arith, more)

  pub each_ending : (runs : ℕ) (endings : List Report)
      → AreEndings asks program steps most runs endings → All (IsEnding asks program steps most) endings
  each_ending runs endings no_run = λ k d less. absurd (omega (arith, less))
  each_ending runs endings (alike before is one) = each_ending _ _ before
  each_ending runs endings (another {endings = some} {report = report} before is none) =
      All-append (IsEnding asks program steps most) some (report ∷ []) (each_ending _ _ before)
      (All-cons (IsEnding asks program steps most) report [] is (All-nil (IsEnding asks program steps most)))

  -- one run more, which ended like another or is the first that ended so
  pub one_run_more : (runs : ℕ) (endings new : List Report) (report : Report)
      → AreEndings asks program steps most runs endings → IsEnding asks program steps most report
      → (Any (IsAlike report) endings × (new ≡ endings))
      ⊎ ((¬ Any (IsAlike report) endings) × (new ≡ endings ++ report ∷ []))
      → AreEndings asks program steps most (runs + 1) new
  one_run_more runs endings new report before is kept =
      let next : suc runs ≡ runs + 1 = omega arith in
      subst (λ (n : ℕ). AreEndings asks program steps most n new) next (more kept)
    where
      more : (Any (IsAlike report) endings × (new ≡ endings))
          ⊎ ((¬ Any (IsAlike report) endings) × (new ≡ endings ++ report ∷ []))
          → AreEndings asks program steps most (suc runs) new
      more (inl one) =
          subst (AreEndings asks program steps most (suc runs)) (sym one.1) (alike before is one.0)
      more (inr none) =
          subst (AreEndings asks program steps most (suc runs)) (sym none.1) (another before is none.0)

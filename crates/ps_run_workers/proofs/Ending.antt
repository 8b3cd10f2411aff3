-- How a run ends, of whom it began with.
use Rattle.std.proofs.Common.{◌≡◌, ◌≤◌, ℕ, List, [], false, Ok, Err, None, ap, ◌∙◌, length, refl, sym, subst}
use Rattle.std.specs.Prelude.{IfOk, Result}
use Rattle.std.proofs.lemmas.Result.{IfOk-weaker}
use Rattle.ps_language.specs.Effect.{Around, Scene}
use Rattle.ps_language.specs.World.{Status}
use Rattle.ps_language.specs.Worlds.{printed}
use Rattle.ps_ops_state.specs.Acts.{Asked}
use Rattle.ps_mem.specs.Bounded.{bounded_space}
use Rattle.ps_mem.specs.Heap.{Heap, object_at}
use Rattle.ps_mem.proofs.EmptyLemmas.{object_at-empty}
use Rattle.ps_ctx_start.specs.Starts.{IsEmptyHeap}
use Rattle.ps_vault.specs.declared.reports.Report.{Report}
use Rattle.ps_vault.specs.declared.reports.RunFault.{RunFault}
use Rattle.ps_vault.specs.Reports.{Bounds, bounds_of, IsBounded, IsRunIn}
use Rattle.ps_vault.specs.declared.reports.Config.{Config}
use Rattle.ps_vault.specs.Screens.{HasShown, Sight}
use Rattle.ps_vault.proofs.Screening.{none_shown, same_bytes}
use Rattle.ps_run_workers.specs.Batons.{HasEnded, Keeps, Progress, Start}

-- where no one watches, the run isn't cut
pub unwatched : (asks : Status → Around → Scene → Asked) (start : Start)
    (report : Result Report RunFault) (sight : Sight) → HasEnded asks start report sight
    → start.sight.watching ≡ false → start.sight.failed ≡ false
    → IfOk report (IsRunIn asks (bounded_space start.config.space) start.program start.config.steps)
unwatched asks start report sight ended unseen going = IfOk-weaker report _ _ (λ made run.
    subst (λ (n : ℕ). IsRunIn asks (bounded_space start.config.space) start.program n made)
    (run.2 (ap (λ (s : Sight). s.failed) (ended.still unseen) ∙ going)) run.3) ended.run

-- a run that can't begin
pub not_begun : (asks : Status → Around → Scene → Asked) (start : Start) (fault : RunFault)
    → start.sight.shown ≡ 0 → start.sight.failed ≡ false
    → HasEnded asks start (Err fault) start.sight
not_begun asks start fault nothing going = record {
  run = tt;
  shown = tt;
  unshown = ([], none_shown start.sight _ nothing going);
  still = λ unseen. refl;
  bounded = tt;
}

-- a run without a report
pub unreported : (asks : Status → Around → Scene → Asked) (start : Start) (p : Progress)
    (fault : RunFault) → Keeps asks start p → HasEnded asks start (Err fault) p.sight
unfolding printed
unreported asks start p fault keeps = record {
  run = tt;
  shown = tt;
  unshown = (
    p.story.schedule,
    subst (λ (program : List ℕ). HasShown start.sight.seen p.sight
        (printed program p.story.schedule)) keeps.program keeps.watched.shown,
  );
  still = keeps.watched.still;
  bounded = tt;
}

-- a run with one
pub reported : (asks : Status → Around → Scene → Asked) (start : Start) (p : Progress)
    (report : Report) → Keeps asks start p
    → IsRunIn asks (bounded_space p.config.space) p.story.program p.budget report
    → report.schedule.items ≡ p.story.schedule → IsBounded p.story.most report
    → HasEnded asks start (Ok report) p.sight
reported asks start p report keeps run schedule few =
    let steps = ap (λ (c : Config). c.steps) keeps.config in
    let space = ap (λ (c : Config). c.space) keeps.config in
    let most = keeps.most ∙ ap bounds_of keeps.config in
    record {
      run = (
        p.budget,
        subst (λ (n : ℕ). p.budget ≤ n) steps keeps.budget,
        λ going. keeps.whole going ∙ steps,
        subst (λ (n : ℕ). IsRunIn asks (bounded_space n) start.program p.budget report) space
            (subst (λ (program : List ℕ). IsRunIn asks (bounded_space p.config.space) program
            p.budget report) keeps.program run),
      );
      shown = subst (HasShown start.sight.seen p.sight)
          (sym (run.prints ∙ same_bytes p.story report.schedule.items schedule)) keeps.watched.shown;
      unshown = tt;
      still = keeps.watched.still;
      bounded = subst (λ (m : Bounds). IsBounded m report) most few;
    }

-- nothing stands at any address
pub none_stands : (h : Heap) → IsEmptyHeap h → (address : ℕ) → object_at h address ≡ None
none_stands h empty address =
    ap (λ (heap : Heap). object_at heap address) empty ∙ object_at-empty h.space address

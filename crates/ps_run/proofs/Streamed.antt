-- What an output holds of a run whose bytes went there while it went on.
use Rattle.std.proofs.Common.{◌≡◌, ℕ, Bool, true, false, true≢false, List, [], Option, None, inl, inr, take, drop, refl, sym, ap, ◌∙◌, subst, take-append-drop}
use Rattle.std.specs.Prelude.{◌≤◌, ◌⊎◌, Result, Ok, Err, IfOk, OnErr}
use Rattle.std.specs.Io.KnownBytes.{Appends}
use Rattle.std.proofs.KnownBytes.{Appends-trans}
use Rattle.ps_language.specs.Effect.{Around, Scene}
use Rattle.ps_language.specs.World as world
use Rattle.ps_language.specs.Worlds.{printed}
use Rattle.ps_ops_state.specs.Acts as acts
use Rattle.ps_vault.specs.Reports.{WithBudget}
use Rattle.ps_vault.specs.Screens.{AppendsPart, AreSeen, HasShown, HasShownSome, Sight}
use Rattle.ps_vault.proofs.Parts.{part_behind}
use Rattle.ps_vault.proofs.Screening.{none_shown}
use Rattle.ps_run.specs.Driving.{Asked, IsBegun, IsProgramIn, Names, Outputs}
use Rattle.ps_run.proofs.Written.{part_taken}

-- ---- what was shown

module _ (first : Option (List ℕ)) (sight : Sight) (bytes : List ℕ)
    (has : HasShown first sight bytes) where
  -- it is a beginning
  pub part_shown : AppendsPart first sight.seen bytes
  part_shown = by sight.failed has.seen
    where
      by : (failed : Bool) → AreSeen failed first sight.seen sight.shown bytes
          → AppendsPart first sight.seen bytes
      by false seen = part_taken first sight.seen bytes sight.shown seen
      by true seen = seen

  whole_shown : sight.failed ≡ false → Appends first sight.seen (take sight.shown bytes)
  whole_shown going =
      subst (λ (failed : Bool). AreSeen failed first sight.seen sight.shown bytes) going has.seen

  -- with the rest behind it, it is all
  pub all_shown : (now : Option (List ℕ)) → sight.failed ≡ false
      → Appends sight.seen now (drop sight.shown bytes) → Appends first now bytes
  all_shown now going rest =
      subst (Appends first now) (take-append-drop sight.shown bytes)
      (Appends-trans first sight.seen now _ _ (whole_shown going) rest)

  -- with a part of the rest behind it, it is one still
  pub more_shown : (now : Option (List ℕ)) → sight.failed ≡ false
      → AppendsPart sight.seen now (drop sight.shown bytes) → AppendsPart first now bytes
  more_shown now going rest =
      subst (AppendsPart first now) (take-append-drop sight.shown bytes)
      (part_behind first sight.seen now _ _ (whole_shown going) rest)

-- ---- a run without a report

-- a fault that shows nothing
pub nothing_shown : {A E : Type 0} (found : Result A E) (program : List ℕ) (before after : Sight)
    → before.shown ≡ 0 → before.failed ≡ false → OnErr found (after ≡ before)
    → OnErr found (HasShownSome program before.seen after)
nothing_shown (Ok report) program before after none going same = tt
nothing_shown (Err fault) program before after none going same = (
  [],
  subst (λ (now : Sight). HasShown before.seen now (printed program [])) (sym same)
      (none_shown before (printed program []) none going),
)

pub of_report : {A E : Type 0} (found : Result A E) (P : A → Type 0) (report : A)
    → found ≡ Ok report → IfOk found P → P report
of_report found P report is p = subst (λ r. IfOk r P) is p

pub of_fault : {A E P : Type 0} (found : Result A E) (fault : E) → found ≡ Err fault
    → OnErr found P → P
of_fault (Ok report) fault is p = cc
of_fault (Err other) fault is p = p

-- ---- who asks for it

-- only a run that is streamed is cut
pub cut_streamed : (streamed : Bool) (before after : Sight) → before.watching ≡ streamed
    → before.failed ≡ false → (before.watching ≡ false → after ≡ before) → after.failed ≡ true
    → streamed ≡ true
cut_streamed true before after watching going still cut = refl
cut_streamed false before after watching going still cut =
    absurd (true≢false (sym cut ∙ (ap (λ (s : Sight). s.failed) (still watching) ∙ going)))

-- what one without a report leaves of its output
module _ (asks : world.Status → Around → Scene → acts.Asked) (names : Names)
    (IsAsked : Asked → Type 0) (asked : Asked) (outputs : Outputs) (program : List ℕ)
    (before after : Sight) where
  pub begun_or_same : IsAsked asked → asked.explored ≡ None
      → IsProgramIn outputs.files_old names program → before.watching ≡ asked.streamed
      → outputs.out_old ≡ before.seen → outputs.out_new ≡ after.seen
      → (before.watching ≡ false → after ≡ before) → HasShownSome program before.seen after
      → (outputs.out_new ≡ outputs.out_old) ⊎ IsBegun asks names IsAsked outputs
  begun_or_same is single file watching old new still some = by asked.streamed refl
    where
      by : (streamed : Bool) → asked.streamed ≡ streamed
          → (outputs.out_new ≡ outputs.out_old) ⊎ IsBegun asks names IsAsked outputs
      by false same =
          inl (new ∙ (ap (λ (s : Sight). s.seen) (still (watching ∙ same)) ∙ sym old))
      by true same = inr (record {
        asked = asked;
        is_asked = is;
        is_single = single;
        is_streamed = same;
        program = program;
        is_program = file;
        schedule = some.0;
        part = subst (λ (seen : Option (List ℕ)).
            AppendsPart outputs.out_old seen (printed program some.0)) (sym new)
            (subst (λ (seen : Option (List ℕ)).
            AppendsPart seen after.seen (printed program some.0)) (sym old)
            (part_shown before.seen after (printed program some.0) some.1));
      })

-- ---- its budget

-- another fact of the same budget
pub with_budget : (cut : Bool) (given steps : ℕ) (P Q : ℕ → Type 0) → given ≡ steps
    → ((budget : ℕ) → budget ≤ given → P budget → Q budget) → WithBudget cut given P
    → WithBudget cut steps Q
with_budget cut given steps P Q same next made = (
  made.0,
  subst (λ (most : ℕ). made.0 ≤ most) same made.1,
  λ going. made.2 going ∙ same,
  next made.0 made.1 made.3,
)

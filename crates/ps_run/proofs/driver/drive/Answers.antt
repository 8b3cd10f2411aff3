use Rattle.std.proofs.Common.{◌≡◌, ℕ, Option, map, inl, inr, refl, sym, ap, subst, ◌∙◌}
use Rattle.std.specs.Prelude.{codes, ◌⊎◌, option_map}
use Rattle.ps_run_options.specs.CommandLine.{IsFlag, view_asked}
use Rattle.ps_run_options.specs.declared.views.View.{View}
use Rattle.ps_vault.specs.Reports.{IsWithin}
use Rattle.ps_run.specs.Driving.{AreAsked, AreOutOfRange, Asked, IsFileFault, IsPastEnd, IsUnread, Names, asked_of, config_in, most_endings, names_in, names_of, records_in, records_of}
use Rattle.ps_run.specs.Driving as driving
use Rattle.ps_run.specs.Telling.{Told}
use Rattle.ps_run.specs.declared.files.ReadFault.{ReadFault}
use Rattle.ps_run.specs.declared.statuses.Status.{Status}
use Rattle.ps_run.proofs.Driven.{driven_more, faulty, written_named}
use Rattle.ps_run.proofs.ReadParts.{if_mapped}
use Rattle.ps_run.proofs.driver.drive.Given as givens
use Rattle.ps_run.proofs.driver.drive.Goals as goal
use Rattle.ps_run.proofs.driver.drive.Goals.{In-Ok}

-- ---- what the options are, by the words

same_names : (g : givens.Over) (c : In-Ok g)
    → names_of c.in-Ok.options ≡ names_in (map (λ word. word.now) c.args.words.now)
same_names g c = λ i. record {
  file = c.in-Ok.ensures.file i;
  text = c.in-Ok.ensures.text i;
  recorded = c.in-Ok.ensures.record_file i;
  replayed = c.in-Ok.ensures.replay_file i;
  drawn = c.in-Ok.ensures.timeline_file i;
}

are_asked : (g : givens.Over) (c : In-Ok g) (asked : Asked) → asked ≡ asked_of c.in-Ok.options
    → AreAsked (map (λ word. word.now) c.args.words.now) asked
are_asked g c asked is = (
  ap (λ (a : Asked). a.space) is ∙ c.in-Ok.ensures.numbers.space,
  ap (λ (a : Asked). a.steps) is ∙ c.in-Ok.ensures.numbers.steps,
  λ text found numeral small.
      ap (λ (a : Asked). a.quantum) is
      ∙ c.in-Ok.ensures.numbers.quantum text found numeral small,
  subst (IsFlag (codes "plain") (map (λ word. word.now) c.args.words.now))
      (sym (ap (λ (a : Asked). a.plain) is)) c.in-Ok.ensures.plain,
  subst (IsFlag (codes "stream") (map (λ word. word.now) c.args.words.now))
      (sym (ap (λ (a : Asked). a.streamed) is)) c.in-Ok.ensures.stream,
  subst (IsFlag (codes "where") (map (λ word. word.now) c.args.words.now))
      (sym (ap (λ (a : Asked). a.places) is)) c.in-Ok.ensures.places,
  subst (IsFlag (codes "stats") (map (λ word. word.now) c.args.words.now))
      (sym (ap (λ (a : Asked). a.stats) is)) c.in-Ok.ensures.stats,
  ap (λ (a : Asked). a.explored) is ∙ c.in-Ok.ensures.explore,
  ap (λ (a : Asked). a.at) is ∙ c.in-Ok.ensures.at,
  ap (λ (a : Asked). a.output) is ∙ c.in-Ok.ensures.output,
  ap (λ (a : Asked). a.entries) is ∙ c.in-Ok.ensures.entries,
)

records_are : (g : givens.Over) (c : In-Ok g)
    → records_of c.in-Ok.options ≡ records_in (map (λ word. word.now) c.args.words.now)
records_are g c = ap (option_map most_endings) c.in-Ok.ensures.explore

is_fault : (g : givens.Over) (c : In-Ok g) (err : Told)
    → (IsFileFault (g.F.FileSet.contents c.args.outside.now.files) (names_of c.in-Ok.options)
    (records_of c.in-Ok.options) (g.X.Telling.told c.args.outside.now.err) err
    ⊎ ¬ IsWithin (config_in c.in-Ok.options))
    ⊎ IsPastEnd (g.F.FileSet.contents c.args.outside.now.files) (names_of c.in-Ok.options)
    c.in-Ok.options.at (g.X.Telling.told c.args.outside.now.err) err
    → IsFileFault (g.F.FileSet.contents c.args.outside.now.files)
    (names_in (map (λ word. word.now) c.args.words.now))
    (records_in (map (λ word. word.now) c.args.words.now))
    (g.X.Telling.told c.args.outside.now.err) err
    ⊎ (AreOutOfRange (map (λ word. word.now) c.args.words.now)
    ⊎ IsPastEnd (g.F.FileSet.contents c.args.outside.now.files)
    (names_in (map (λ word. word.now) c.args.words.now))
    (view_asked (map (λ word. word.now) c.args.words.now))
    (g.X.Telling.told c.args.outside.now.err) err)
is_fault g c err (inl (inl file)) = inl (subst (λ (names : Names).
    IsFileFault (g.F.FileSet.contents c.args.outside.now.files) names
    (records_in (map (λ word. word.now) c.args.words.now))
    (g.X.Telling.told c.args.outside.now.err) err) (same_names g c)
    (subst (λ (m : Option ℕ). IsFileFault (g.F.FileSet.contents c.args.outside.now.files)
    (names_of c.in-Ok.options) m (g.X.Telling.told c.args.outside.now.err) err) (records_are g c)
    file))
is_fault g c err (inl (inr outside)) = inr (inl (record {
  config = config_in c.in-Ok.options;
  numbers = c.in-Ok.ensures.numbers;
  outside = outside;
}))
is_fault g c err (inr past) = inr (inr (subst (λ (names : Names).
    IsPastEnd (g.F.FileSet.contents c.args.outside.now.files) names
    (view_asked (map (λ word. word.now) c.args.words.now))
    (g.X.Telling.told c.args.outside.now.err) err) (same_names g c)
    (subst (λ (at : Option View). IsPastEnd (g.F.FileSet.contents c.args.outside.now.files)
    (names_of c.in-Ok.options) at (g.X.Telling.told c.args.outside.now.err) err)
    c.in-Ok.ensures.at past)))

-- ---- what the options ask for

pub returns-in-Ok-clause-run : goal.returns-in-Ok-clause-run
returns-in-Ok-clause-run g c =
    let at = (goal.at.returns-in-Ok-clause-run g c).In-Ok in (
      c.carry_out-status.result.0,
      c.number_of.ensures,
      driven_more _ _ _ _ _ _ _ _ _ (same_names g at) (are_asked g at)
          (λ fault. inr (is_fault g at _ fault)) c.carry_out-status.ensures.run,
    )

pub returns-in-Ok-clause-files : goal.returns-in-Ok-clause-files
returns-in-Ok-clause-files g c = λ name other.
    let at = (goal.at.returns-in-Ok-clause-files g c).In-Ok in
    c.carry_out-status.ensures.files name (λ is.
    other (written_named _ _ _ _ _ _ name c.in-Ok.ensures.record_file c.in-Ok.ensures.timeline_file
    (records_are g at) is))

pub returns-in-Ok-clause-unread : goal.returns-in-Ok-clause-unread
returns-in-Ok-clause-unread g c = λ none.
    let at = (goal.at.returns-in-Ok-clause-unread g c).In-Ok in
    let old = g.X.Telling.told c.args.outside.now.err in
    let new = g.X.Telling.told c.carry_out-status.new.outside.err in
    let more : (fault : ReadFault)
    → IsUnread (names_of c.in-Ok.options) fault c.carry_out-status.result.0 old new
    → (told : Status) × (c.number_of.result ≡ driving.number_of told)
    × IsUnread (names_in (map (λ word. word.now) c.args.words.now)) fault told old new =
    λ fault is. (
      c.carry_out-status.result.0,
      c.number_of.ensures,
      subst (λ (names : Names). IsUnread names fault c.carry_out-status.result.0 old new)
          (same_names g at) is,
    ) in
    if_mapped _ _ _ more (c.carry_out-status.ensures.unread none)

-- ---- faulty words

pub returns-in-Err-clause-run : goal.returns-in-Err-clause-run
returns-in-Err-clause-run g c = (
  c.refuse-status.result,
  c.number_of-in-Err.ensures,
  elim c.refuse-status.ensures [
    | inl memory ↦ inr (inl (memory.0, inl refl, refl, memory.1))
    | inr usage ↦
        inl (usage.0, refl, refl, inl (faulty _ c.in-Err.error c.in-Err.ensures.fault usage.1))
  ],
)

use Rattle.std.proofs.Common.{rules, ◌≡◌, ◌≤◌, ◌∙◌, ℕ, Option, Some, inl, inr, refl, sym, ap, subst, arith, length}
use Rattle.std.specs.Prelude.{option_map}
use Rattle.ps_run_options.specs.CommandLine.{IsExploration}
use Rattle.ps_run_options.specs.declared.options.Exploration.TheVariants.{ByChance}
use Rattle.ps_run.specs.Driving.{Contents, IsRecordName, asked_of, ending_lines, line_of, most_asked, most_endings, names_of}
use Rattle.ps_vault.specs.declared.reports.Config.{Config}
use Rattle.ps_vault.specs.Endings.{AreEndings}
use Rattle.ps_vault.specs.Reports.{Bounds, bounds_of}
use Rattle.ps_vault.proofs.Endings.{endings_few}
use Rattle.ps_run.specs.Telling.{Tells, Told}
use Rattle.ps_run.specs.declared.statuses.Status.TheVariants as status
use Rattle.ps_run.proofs.Driven.{keeps_program}
use Rattle.ps_run.proofs.ManyRuns.{all_written_as, all_written_from, endings_entries, record_fewer}
use Rattle.ps_run.proofs.ReadParts.{of_known}
use Rattle.ps_run.proofs.Streamed.{of_report}
use Rattle.ps_run.proofs.exploring.explore.Goals as goal

pub finish_all-requires : goal.finish_all-requires
finish_all-requires g c =
    let is-many : c.args.options.now.explore ≡ Some (ByChance c.in-Some-ByChance.runs) = search rules in
    let made = of_report _ _ c.in-Ok-made.endings c.in-Ok-made.is c.explore-made.ensures in
    let few = endings_few _ _ _ _ _ _ made in
    let range = of_known c.args.options.now.explore IsExploration (ByChance c.in-Some-ByChance.runs)
    is-many c.requires.range in
    let same = ap length c.as_slice.ensures.value in
    omega (arith, few, same, range.1)

pub returns-in-Ok-made-clause-run : goal.returns-in-Ok-made-clause-run
returns-in-Ok-made-clause-run g c =
    let is-many : c.args.options.now.explore ≡ Some (ByChance c.in-Some-ByChance.runs) = search rules in
    let steps : c.config_of-config.result.steps ≡ c.args.options.now.steps =
    ap (λ (config : Config). config.steps) c.config_of-config.ensures in
    let most : bounds_of c.config_of-config.result ≡ most_asked (asked_of c.args.options.now) =
    ap bounds_of c.config_of-config.ensures in
    let made : AreEndings g.S.Interpret.asks c.in-Ok.program.items c.config_of-config.result.steps
    (bounds_of c.config_of-config.result) c.in-Some-ByChance.runs c.in-Ok-made.endings.items =
    rw c.as_slice-bytes.ensures.value at
    (of_report _ _ c.in-Ok-made.endings c.in-Ok-made.is c.explore-made.ensures) in
    let few = endings_few _ _ _ _ _ _ made in
    let same = ap length c.as_slice.ensures.value in
    let fewer : length c.as_slice.result.now ≤ c.in-Some-ByChance.runs =
    omega (arith, few, same) in
    let lines : c.as_slice-in-Ok-made.result.now
    ≡ ending_lines c.in-Some-ByChance.runs (length c.in-Ok-made.endings.items) = search rules in
    inr (inr (inr (inl (record {
      asked = asked_of c.args.options.now;
      is_asked = refl;
      runs = c.in-Some-ByChance.runs;
      are_many = is-many;
      program = c.in-Ok.program.items;
      is_program = c.in-Ok.ensures.program;
      endings = c.in-Ok-made.endings.items;
      are = subst (λ (n : ℕ). AreEndings g.S.Interpret.asks c.in-Ok.program.items n
          (most_asked (asked_of c.args.options.now)) c.in-Some-ByChance.runs c.in-Ok-made.endings.items)
          steps
          (subst (λ (n : Bounds). AreEndings g.S.Interpret.asks c.in-Ok.program.items
          c.config_of-config.result.steps n c.in-Some-ByChance.runs c.in-Ok-made.endings.items) most made);
      entries = endings_entries _ _ _ _ _ _ (omega (arith, c.config_of-config.type_inv)) made;
      written =
          all_written_from _ _ _ _ _ _ _
          (ap g.X.Telling.told (c.in_default-keep_program.ensures.told ∙ c.in-Ok.ensures.told))
          c.in-Ok.ensures.kept (all_written_as _ _ _ _ _ _ _ c.as_slice.ensures.value
          lines
          c.finish_all.ensures.written);
      keeps =
          keeps_program _ _ (IsRecordName (names_of c.args.options.now).recorded
          (Some c.in-Some-ByChance.runs)) c.in-Ok.program.items
          (λ name is. rw (c.as_slice-bytes.ensures.value, c.in-Ok.ensures.kept) at
          (c.in_default-keep_program.ensures.kept name (inl is)))
          (λ name other. c.finish_all.ensures.others name (λ is.
          other (record_fewer _ _ c.in-Some-ByChance.runs name fewer is))
          ∙ ap (λ (contents : Contents). contents name) c.in-Ok.ensures.kept);
    }))))

pub returns-in-Ok-made-clause-files : goal.returns-in-Ok-made-clause-files
returns-in-Ok-made-clause-files g c = λ name other.
    let is-many : c.args.options.now.explore ≡ Some (ByChance c.in-Some-ByChance.runs) = search rules in
    let made = of_report _ _ c.in-Ok-made.endings c.in-Ok-made.is c.explore-made.ensures in
    let few = endings_few _ _ _ _ _ _ made in
    let same = ap length c.as_slice.ensures.value in
    let fewer : length c.as_slice.result.now ≤ c.in-Some-ByChance.runs =
    omega (arith, few, same) in
    c.finish_all.ensures.others name (λ is.
    other (subst (λ (many : Option ℕ).
    IsRecordName (names_of c.args.options.now).recorded many name)
    (ap (option_map most_endings) (sym is-many)) (record_fewer _ _ c.in-Some-ByChance.runs name fewer is)))
    ∙ ap (λ (contents : Contents). contents name) c.in-Ok.ensures.kept

pub returns-in-Err-keep_program-clause-run : goal.returns-in-Err-keep_program-clause-run
returns-in-Err-keep_program-clause-run g c =
    let is-many : c.args.options.now.explore ≡ Some (ByChance c.in-Some-ByChance.runs) = search rules in
    let new = g.X.Telling.told c.keep_program.new.err in
    let errs = ap g.X.Telling.told c.in-Ok.ensures.told in
    elim c.in-Err-keep_program.ensures.over [
      | inl memory ↦ inr (inl (
        memory.0,
        inl refl,
        c.in-Ok.ensures.kept,
        subst (λ (old : Told). Tells old new (line_of status.Memory)) errs memory.1,
      ))
      | inr over ↦ inl (
        over.0,
        refl,
        c.in-Ok.ensures.kept,
        inl (inr (inr (record {
          program = c.in-Ok.program.items;
          is_program = c.in-Ok.ensures.program;
          name = over.1;
          is_written = elim over.2 [
            | inl record_is ↦ inl (subst (λ (many : Option ℕ).
                IsRecordName (names_of c.args.options.now).recorded many over.1)
                (ap (option_map most_endings) (sym is-many)) record_is)
            | inr picture_is ↦ inr picture_is
          ];
          holds = rw (c.as_slice-bytes.ensures.value, c.in-Ok.ensures.kept) at over.3;
        }))),
      )
    ]

use Rattle.std.proofs.Common.{◌≡◌, ℕ, Bool, true, false, List, Option, None, inl, inr, refl, sym, ap, subst, ◌∙◌}
use Rattle.std.specs.Prelude.{◌⊎◌, option_map}
use Rattle.ps_vault.specs.Screens.{HasShown, HasShownSome}
use Rattle.ps_run.specs.Driving.{Asked, Contents, IsGiven, IsWrittenName, asked_of, line_of, names_of}
use Rattle.ps_run.specs.Telling.{Tells, Told}
use Rattle.ps_run.specs.declared.statuses.Status.TheVariants as status
use Rattle.ps_run.proofs.Driven.{keeps_program, written_from}
use Rattle.ps_run.proofs.Streamed.{begun_or_same, cut_streamed, of_fault, of_report}
use Rattle.ps_run.proofs.driver.run.Goals as goal

pub returns-in-Ok-report-clause-run : goal.returns-in-Ok-report-clause-run
returns-in-Ok-report-clause-run g c =
    let screen = c.screen_of-screen.result in
    let shown = c.make-report.result.screen in
    let report = c.in-Ok-report.report in
    let first = g.W.Write.contents c.args.out in
    let seen = subst (λ (known : Option (List ℕ)). HasShown known shown report.printed.items)
    c.screen_of-screen.ensures.seen
    (of_report _ _ report c.in-Ok-report.is c.make-report.ensures.shown) in
    inr (inr (inl (record {
      asked = asked_of c.args.options.now;
      is_asked = refl;
      is_single = c.requires.single;
      is_whole = c.requires.whole;
      cut = shown.failed;
      report = report;
      run = record {
        program = c.in-Ok.program.items;
        is_program = c.in-Ok.ensures.program;
        given = option_map (λ schedule. schedule.items) c.in-Ok-read_given.given;
        is_given =
            subst (λ (contents : Contents). IsGiven contents
            (names_of c.args.options.now).replayed
            (option_map (λ schedule. schedule.items) c.in-Ok-read_given.given))
            c.in-Ok.ensures.kept c.in-Ok-read_given.ensures.given;
        run = rw c.as_slice-bytes.ensures.value at
            (of_report _ _ report c.in-Ok-report.is c.make-report.ensures.made);
        bounded = of_report _ _ report c.in-Ok-report.is c.make-report.ensures.bounded;
        streamed = cut_streamed c.args.options.now.stream screen shown
            c.screen_of-screen.ensures.watching c.screen_of-screen.ensures.failed
            c.make-report.ensures.still;
      };
      places = c.text.result.now;
      are_places = rw c.text.ensures c.places_in-places.ensures;
      ended = record {
        status = c.finish-status.result.0;
        err = g.X.Telling.told c.finish-status.new.outside.err;
        files = g.F.FileSet.contents c.finish-status.new.outside.files;
        unwritten = g.F.FileSet.is_unwritten c.finish-status.new.outside.files;
      };
      written =
          written_from _ _ _ _ report _ _ _ _
          (ap g.X.Telling.told (c.in-Ok-read_given.ensures.told
          ∙ (c.in_default.ensures.told ∙ c.in-Ok.ensures.told)))
          (c.in-Ok-read_given.ensures.kept ∙ c.in-Ok.ensures.kept)
          (c.finish-status.ensures.written first seen);
      drawn = c.draw.ensures.drawn c.in-Ok.program.items
          (rw c.as_slice-bytes.ensures.value at c.in-Ok-second_runs_of.ensures.program);
      others = λ name apart. c.draw.ensures.others name apart;
      keeps = keeps_program _ _ (IsWrittenName (names_of c.args.options.now).recorded
          (names_of c.args.options.now).drawn None) c.in-Ok.program.items
          (λ name is. rw (c.as_slice-bytes.ensures.value, c.in-Ok.ensures.kept) at
          (c.in_default.ensures.kept name is))
          (λ name other. c.draw.ensures.others name (λ is. other (inr is))
          ∙ c.finish-status.ensures.others name (λ is. other (inl is))
          ∙ ap (λ (contents : Contents). contents name)
          (c.in-Ok-read_given.ensures.kept ∙ c.in-Ok.ensures.kept));
    })))

pub returns-in-Err-Memory-clause-run : goal.returns-in-Err-Memory-clause-run
returns-in-Err-Memory-clause-run g c =
    let screen = c.screen_of-screen.result in
    let shown = c.make-report.result.screen in
    let some : HasShownSome c.in-Ok.program.items screen.seen shown =
    rw c.as_slice-bytes.ensures.value at
    (of_fault _ c.in-Err-Memory.field-0 c.in-Err-Memory.is c.make-report.ensures.unshown) in
    inr (inl (
      c.end-in-Err-Memory.ensures.status,
      begun_or_same g.S.Interpret.asks (names_of c.args.options.now)
          (λ (asked : Asked). asked ≡ asked_of c.args.options.now) (asked_of c.args.options.now) _
          c.in-Ok.program.items screen shown refl c.requires.single c.in-Ok.ensures.program
          c.screen_of-screen.ensures.watching (sym c.screen_of-screen.ensures.seen)
          c.output_of.ensures c.make-report.ensures.still some,
      c.in-Ok-read_given.ensures.kept ∙ c.in-Ok.ensures.kept,
      subst (λ (old : Told). Tells old (g.X.Telling.told c.end-in-Err-Memory.new.err) (line_of status.Memory))
          (ap g.X.Telling.told (c.in-Ok-read_given.ensures.told
          ∙ (c.in_default.ensures.told ∙ c.in-Ok.ensures.told))) c.end-in-Err-Memory.ensures.told,
    ))

-- the files that aren't written are as they were
pub returns-in-Ok-report-clause-files : goal.returns-in-Ok-report-clause-files
returns-in-Ok-report-clause-files g c = λ name other.
    c.draw.ensures.others name (λ is. other (inr is))
    ∙ c.finish-status.ensures.others name (λ is. other (inl is))
    ∙ ap (λ (contents : Contents). contents name)
    (c.in-Ok-read_given.ensures.kept ∙ c.in-Ok.ensures.kept)

either : (b : Bool) → (b ≡ true) ⊎ (b ≡ false)
either true = inl refl
either false = inr refl

-- where the record failed the picture may have been written
pub returns-in-Ok-report-clause-unwritten : goal.returns-in-Ok-report-clause-unwritten
returns-in-Ok-report-clause-unwritten g c = λ before after.
    let start = c.in-Ok-read_given.ensures.writes ∙ c.in-Ok.ensures.writes ∙ before in
    elim (either (g.F.FileSet.is_unwritten c.finish-status.new.outside.files)) [
      | inl failed ↦ c.draw.ensures.usage (c.finish-status.ensures.unwritten start failed)
      | inr kept ↦ c.draw.ensures.unwritten kept after
    ]

-- a file that is written would have the program, or memory is wanted for its name
pub returns-in-Err-keep_program-clause-run : goal.returns-in-Err-keep_program-clause-run
returns-in-Err-keep_program-clause-run g c =
    let new = g.X.Telling.told c.keep_program.new.err in
    let errs = ap g.X.Telling.told c.in-Ok.ensures.told in
    elim c.in-Err-keep_program.ensures.over [
      | inl memory ↦ inr (inl (
        memory.0,
        inl refl,
        c.in-Ok.ensures.kept,
        subst (λ (old : Told). Tells old new (line_of status.Memory)) errs memory.1,
      ))
      | inr over ↦ inl (
        over.0,
        refl,
        c.in-Ok.ensures.kept,
        inl (inr (inr (record {
          program = c.in-Ok.program.items;
          is_program = c.in-Ok.ensures.program;
          name = over.1;
          is_written = over.2;
          holds = rw (c.as_slice-bytes.ensures.value, c.in-Ok.ensures.kept) at over.3;
        }))),
      )
    ]

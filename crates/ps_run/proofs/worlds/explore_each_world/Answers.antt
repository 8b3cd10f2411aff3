use Rattle.std.proofs.Common.{rules, ◌≡◌, ◌≤◌, ◌∙◌, ℕ, Option, Some, inl, inr, refl, sym, ap, subst, arith, length}
use Rattle.std.specs.Prelude.{List, map, option_map}
use Rattle.ps_run_options.specs.declared.options.Exploration.TheVariants.{EachWorld}
use Rattle.ps_run.specs.Driving.{Contents, IsRecordName, asked_of, line_of, most_endings, names_of}
use Rattle.ps_run.specs.Telling.{Tells, Told}
use Rattle.ps_run.specs.declared.statuses.Status.TheVariants as status
use Rattle.ps_run.specs.Worlds.{AreWorlds, Worlds, way_report, world_lines}
use Rattle.ps_run.proofs.Driven.{keeps_program}
use Rattle.ps_run.proofs.ManyRuns.{all_written_as, all_written_from, record_fewer}
use Rattle.ps_run.proofs.worlds.explore_each_world.Goals as goal

pub returns-clause-run : goal.returns-clause-run
returns-clause-run g c =
    let is-all : c.args.options.now.explore ≡ Some (EachWorld c.in-Some-EachWorld.most) = search rules in
    let explored = c.in-Ok-explore_all.explored in
    let told : (found : Worlds) × AreWorlds c.in-Ok.program.items c.in-Some-EachWorld.most found
    × (explored.reports.items ≡ map way_report found.endings)
    × (explored.lines.items ≡ world_lines found) =
    rw (c.runs_of-runs.ensures, c.as_slice-bytes.ensures.value) at
    c.in-Ok-explore_all.ensures.told in
    inr (inr (inr (inr (inr (inl (record {
      asked = asked_of c.args.options.now;
      is_asked = refl;
      most = c.in-Some-EachWorld.most;
      are_all = is-all;
      program = c.in-Ok.program.items;
      is_program = c.in-Ok.ensures.program;
      found = told.0;
      are = told.1;
      written =
          all_written_from (names_of c.args.options.now).recorded
          (map way_report told.0.endings) (world_lines told.0)
          _ _ _ _
          (ap g.X.Telling.told (c.in_default-keep_program.ensures.told ∙ c.in-Ok.ensures.told))
          c.in-Ok.ensures.kept
          (all_written_as _ _ _ _ _ _ _
          (c.as_slice-endings.ensures.value ∙ told.2)
          (c.as_slice.ensures.value ∙ told.3) c.finish_all.ensures.written);
      keeps =
          keeps_program _ _ (IsRecordName (names_of c.args.options.now).recorded
          (Some (length c.as_slice-endings.result.now))) c.in-Ok.program.items
          (λ name is. rw (c.as_slice-bytes.ensures.value, c.in-Ok.ensures.kept) at
          (c.in_default-keep_program.ensures.kept name (inl is)))
          (λ name other. c.finish_all.ensures.others name other
          ∙ ap (λ (contents : Contents). contents name) c.in-Ok.ensures.kept);
    }))))))

pub returns-clause-files : goal.returns-clause-files
returns-clause-files g c = λ name other.
    let is-all : c.args.options.now.explore ≡ Some (EachWorld c.in-Some-EachWorld.most) = search rules in
    let few = c.in-Ok-explore_all.ensures.few in
    let same = ap {B = ℕ} length c.as_slice-endings.ensures.value in
    let fewer : length c.as_slice-endings.result.now ≤ c.in-Some-EachWorld.most =
    omega (arith, few, same) in
    c.finish_all.ensures.others name (λ is.
    other (subst (λ (many : Option ℕ).
    IsRecordName (names_of c.args.options.now).recorded many name)
    (ap (option_map most_endings) (sym is-all))
    (record_fewer _ _ c.in-Some-EachWorld.most name fewer is)))
    ∙ ap (λ (contents : Contents). contents name) c.in-Ok.ensures.kept

pub returns-in-Err-keep_program-clause-run : goal.returns-in-Err-keep_program-clause-run
returns-in-Err-keep_program-clause-run g c =
    let is-all : c.args.options.now.explore ≡ Some (EachWorld c.in-Some-EachWorld.most) = search rules in
    let contents = g.F.FileSet.contents c.args.outside.now.files in
    let new = g.X.Telling.told c.keep_program.new.err in
    let errs = ap g.X.Telling.told c.in-Ok.ensures.told in
    let same = ap {B = ℕ} length c.as_slice-endings.ensures.value in
    let fewer : length c.as_slice-endings.result.now ≤ c.in-Some-EachWorld.most =
    omega (arith, c.in-Ok-explore_all.ensures.few, same) in
    elim c.in-Err-keep_program.ensures.over [
      | inl memory ↦ inr (inl (
        memory.0,
        inl refl,
        c.in-Ok.ensures.kept,
        subst (λ (old : Told). Tells old new (line_of status.Memory)) errs memory.1,
      ))
      | inr over ↦ inl (
        over.0,
        refl,
        c.in-Ok.ensures.kept,
        inl (inr (inr (record {
          program = c.in-Ok.program.items;
          is_program = c.in-Ok.ensures.program;
          name = over.1;
          is_written = elim over.2 [
            | inl record_is ↦ inl (subst (λ (many : Option ℕ).
                IsRecordName (names_of c.args.options.now).recorded many over.1)
                (ap (option_map most_endings) (sym is-all))
                (record_fewer _ _ c.in-Some-EachWorld.most over.1 fewer record_is))
            | inr picture_is ↦ inr picture_is
          ];
          holds = rw (c.as_slice-bytes.ensures.value, c.in-Ok.ensures.kept) at over.3;
        }))),
      )
    ]

pub overflow_cast-records : goal.overflow_cast-records
overflow_cast-records g c =
    let fits = c.in-Ok-explore_all.ensures.fits in
    let same = ap {B = ℕ} length c.as_slice-endings.ensures.value in
    omega (arith, fits, same)

pub finish_all-requires : goal.finish_all-requires
finish_all-requires g c =
    let fits = c.in-Ok-explore_all.ensures.fits in
    let same = ap {B = ℕ} length c.as_slice-endings.ensures.value in
    record { few = omega (arith, fits, same) }

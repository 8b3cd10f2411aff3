use Rattle.std.proofs.Common.{rules, ◌≡◌, ◌≤◌, ◌∙◌, ℕ, Option, Some, inl, inr, refl, sym, ap, subst, arith, length}
use Rattle.std.specs.Prelude.{List, map, option_map}
use Rattle.ps_run_options.specs.declared.options.Exploration.TheVariants.{EachOrder}
use Rattle.ps_run.specs.Driving.{Contents, IsRecordName, asked_of, line_of, most_endings, names_of, program_name}
use Rattle.ps_run.specs.Telling.{Tells, Told}
use Rattle.ps_run.specs.declared.statuses.Status.TheVariants as status
use Rattle.ps_run.specs.Orders.{AreTold, report_of}
use Rattle.ps_run.proofs.Driven.{keeps_program}
use Rattle.ps_run.proofs.ManyRuns.{all_written_as, all_written_from, record_fewer}
use Rattle.ps_run.proofs.orders.explore_each_order.Goals as goal

pub returns-clause-run : goal.returns-clause-run
returns-clause-run g c =
    let is-all : c.args.options.now.explore ≡ Some (EachOrder c.in-Some-EachOrder.bounds) = search rules in
    let explored = c.in-Ok-explore_all.explored in
    let file = program_name (names_of c.args.options.now) in
    let told : AreTold file c.in-Ok.program.items c.args.options.now.steps c.in-Some-EachOrder.bounds
    explored.reports.items explored.lines.items =
    subst (λ (name : List ℕ). AreTold name c.in-Ok.program.items c.args.options.now.steps
    c.in-Some-EachOrder.bounds explored.reports.items explored.lines.items)
    c.program_name-file.ensures
    (subst (λ (program : List ℕ). AreTold c.program_name-file.result.now program
    c.args.options.now.steps c.in-Some-EachOrder.bounds explored.reports.items
    explored.lines.items)
    (c.runs_of-runs.ensures ∙ c.as_slice-bytes.ensures.value) c.in-Ok-explore_all.ensures.told) in
    inr (inr (inr (inr (inl (record {
      asked = asked_of c.args.options.now;
      is_asked = refl;
      bounds = c.in-Some-EachOrder.bounds;
      are_all = is-all;
      program = c.in-Ok.program.items;
      is_program = c.in-Ok.ensures.program;
      orders = told.orders;
      are = told.are;
      lines = explored.lines.items;
      are_lines = told.are_lines;
      written =
          all_written_from (names_of c.args.options.now).recorded
          (map report_of told.orders.endings) explored.lines.items
          _ _ _ _
          (ap g.X.Telling.told (c.in_default-keep_program.ensures.told ∙ c.in-Ok.ensures.told))
          c.in-Ok.ensures.kept
          (all_written_as _ _ _ _ _ _ _
          (c.as_slice-endings.ensures.value ∙ told.are_reports)
          c.as_slice.ensures.value c.finish_all.ensures.written);
      keeps =
          keeps_program _ _ (IsRecordName (names_of c.args.options.now).recorded
          (Some (length c.as_slice-endings.result.now))) c.in-Ok.program.items
          (λ name is. rw (c.as_slice-bytes.ensures.value, c.in-Ok.ensures.kept) at
          (c.in_default-keep_program.ensures.kept name (inl is)))
          (λ name other. c.finish_all.ensures.others name other
          ∙ ap (λ (contents : Contents). contents name) c.in-Ok.ensures.kept);
    })))))

pub returns-clause-files : goal.returns-clause-files
returns-clause-files g c = λ name other.
    let is-all : c.args.options.now.explore ≡ Some (EachOrder c.in-Some-EachOrder.bounds) = search rules in
    let few = c.in-Ok-explore_all.ensures.few in
    let same = ap {B = ℕ} length c.as_slice-endings.ensures.value in
    let fewer : length c.as_slice-endings.result.now ≤ c.in-Some-EachOrder.bounds.runs =
    omega (arith, few, same) in
    c.finish_all.ensures.others name (λ is.
    other (subst (λ (many : Option ℕ).
    IsRecordName (names_of c.args.options.now).recorded many name)
    (ap (option_map most_endings) (sym is-all))
    (record_fewer _ _ c.in-Some-EachOrder.bounds.runs name fewer is)))
    ∙ ap (λ (contents : Contents). contents name) c.in-Ok.ensures.kept

pub returns-in-Err-keep_program-clause-run : goal.returns-in-Err-keep_program-clause-run
returns-in-Err-keep_program-clause-run g c =
    let is-all : c.args.options.now.explore ≡ Some (EachOrder c.in-Some-EachOrder.bounds) = search rules in
    let contents = g.F.FileSet.contents c.args.outside.now.files in
    let new = g.X.Telling.told c.keep_program.new.err in
    let errs = ap g.X.Telling.told c.in-Ok.ensures.told in
    let same = ap {B = ℕ} length c.as_slice-endings.ensures.value in
    let fewer : length c.as_slice-endings.result.now ≤ c.in-Some-EachOrder.bounds.runs =
    omega (arith, c.in-Ok-explore_all.ensures.few, same) in
    elim c.in-Err-keep_program.ensures.over [
      | inl memory ↦ inr (inl (
        memory.0,
        inl refl,
        c.in-Ok.ensures.kept,
        subst (λ (old : Told). Tells old new (line_of status.Memory)) errs memory.1,
      ))
      | inr over ↦ inl (
        over.0,
        refl,
        c.in-Ok.ensures.kept,
        inl (inr (inr (record {
          program = c.in-Ok.program.items;
          is_program = c.in-Ok.ensures.program;
          name = over.1;
          is_written = elim over.2 [
            | inl record_is ↦ inl (subst (λ (many : Option ℕ).
                IsRecordName (names_of c.args.options.now).recorded many over.1)
                (ap (option_map most_endings) (sym is-all))
                (record_fewer _ _ c.in-Some-EachOrder.bounds.runs over.1 fewer record_is))
            | inr picture_is ↦ inr picture_is
          ];
          holds = rw (c.as_slice-bytes.ensures.value, c.in-Ok.ensures.kept) at over.3;
        }))),
      )
    ]

pub overflow_cast-records : goal.overflow_cast-records
overflow_cast-records g c =
    let fits = c.in-Ok-explore_all.ensures.fits in
    let same = ap {B = ℕ} length c.as_slice-endings.ensures.value in
    omega (arith, fits, same)

pub finish_all-requires : goal.finish_all-requires
finish_all-requires g c =
    let fits = c.in-Ok-explore_all.ensures.fits in
    let same = ap {B = ℕ} length c.as_slice-endings.ensures.value in
    record { few = omega (arith, fits, same) }

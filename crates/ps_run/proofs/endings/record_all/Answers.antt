-- Each round writes one record, to a file of its own, or is the last.
use Rattle.std.proofs.Common.{◌≡◌, ◌+◌, Some, Err, rules, ap, subst, ◌∙◌, arith, length}
use Rattle.std.proofs.lemmas.List.{get_or_default}
use Rattle.ps_vault.specs.declared.reports.Report.{Report}
use Rattle.ps_run.specs.Driving.{IsRecorded, TellsUnwritten, numbered}
use Rattle.ps_run.specs.Telling.{Told}
use Rattle.ps_run.proofs.ManyRuns.{named_record, recorded_kept, recorded_more}
use Rattle.ps_run.proofs.endings.record_all.Goals as goal

pub loop-number-preserved : goal.loop-number-preserved
loop-number-preserved g c =
    let endings = c.args.endings.now in
    let count = c.loop-number.number in
    let prefix = c.in-Some.prefix.now in
    record {
      within = omega (arith, c.loop-number-test.true);
      recorded = recorded_more (g.F.FileSet.contents c.loop-number.outside.files)
          (g.F.FileSet.contents c.record_ending.new.outside.files) prefix endings count
          c.requires.few
          c.loop-number-test.true c.loop-number.invariant.recorded c.record_ending.ensures.others
          (λ default.
          subst (λ (entries : _). IsRecorded
          (g.F.FileSet.contents c.record_ending.new.outside.files)
          (Some (numbered prefix (count + 1))) entries)
          (c.entries-schedule.ensures ∙ ap (λ (r : Report). r.schedule.items)
          (get_or_default endings count c.index-endings-number.result default
          c.loop-number-test.true))
          c.in_ok-record_ending.ensures.recorded);
      told = c.in_ok-record_ending.ensures.told ∙ c.loop-number.invariant.told;
      others = λ other none.
          c.record_ending.ensures.others other (λ same.
          none (named_record c.args.options.now.record_file c.in-Some.prefix other (count + 1)
          (length endings) c.in-Some.is (omega arith) (omega (arith, c.loop-number-test.true)) same))
          ∙ c.loop-number.invariant.others other none;
      reads = c.record_ending.ensures.reads ∙ c.loop-number.invariant.reads;
      writes = c.in_ok-record_ending.ensures.writes ∙ c.loop-number.invariant.writes;
    }

pub returns-in_err-record_ending-clause-unrecorded : goal.returns-in_err-record_ending-clause-unrecorded
returns-in_err-record_ending-clause-unrecorded g c =
    let endings = c.args.endings.now in
    let count = c.loop-number.number in
    let prefix = c.in-Some.prefix.now in
    let same : c.from_residual.result ≡ Err c.in_err-record_ending.field-0.0 = search rules in
    rw (same, c.in-Some.is) (
      count,
      c.loop-number-test.true,
      recorded_kept (g.F.FileSet.contents c.loop-number.outside.files)
          (g.F.FileSet.contents c.record_ending.new.outside.files) prefix endings count
          c.requires.few
          c.loop-number-test.true c.loop-number.invariant.recorded c.record_ending.ensures.others,
      subst (λ (old : Told).
          TellsUnwritten (g.F.FileSet.is_unwritten c.record_ending.new.outside.files)
          (Some (numbered prefix (count + 1)))
          c.in_err-record_ending.field-0.0 old (g.X.Telling.told c.record_ending.new.outside.err))
          (ap g.X.Telling.told c.loop-number.invariant.told)
          c.in_err-record_ending.ensures.unrecorded,
    )

-- A run is a name or is too long for one.
use Rattle.std.proofs.Common.{◌∙◌, drop, arith}
use Rattle.std.specs.List.{slice_range}
use Rattle.ps_scan.proofs.ReadingForms.{length_slice, named_run, named_short, named_long}
use Rattle.ps_scan.proofs.words.name_from.Goals as goal

pub returns-then-end-start-gt-NAME_LIMIT-clause-reading : goal.returns-then-end-start-gt-NAME_LIMIT-clause-reading
returns-then-end-start-gt-NAME_LIMIT-clause-reading c name =
    let xs = c.args.bytes.now in
    let end = c.run_end-end.result in
    named_run name xs c.args.start end c.run_end-end.ensures.rest c.run_end-end.ensures.low c.run_end-end.ensures.high
    ∙ named_long name (slice_range xs c.args.start end) (drop end xs)
    (omega (arith, length_slice xs c.args.start end c.run_end-end.ensures.high))

pub returns-clause-reading : goal.returns-clause-reading
returns-clause-reading c name =
    let xs = c.args.bytes.now in
    let end = c.run_end-end.result in
    named_run name xs c.args.start end c.run_end-end.ensures.rest c.run_end-end.ensures.low c.run_end-end.ensures.high
    ∙ named_short name (slice_range xs c.args.start end) (drop end xs)
    (omega (arith, length_slice xs c.args.start end c.run_end-end.ensures.high))

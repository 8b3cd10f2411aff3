-- A string is unfinished, too long, or has an extent.
use Rattle.std.proofs.Common.{drop}
use Rattle.ps_scan.proofs.StringForms.{extent_is, read_unfinished, read_long, read_extent}
use Rattle.ps_scan.proofs.strings.sized_extent.Goals as goal

pub returns-in-None : goal.returns-in-None
returns-in-None c = read_unfinished _ c.in-None.ensures.none

pub returns-then-extent-gt-SEQUENCE_LIMIT : goal.returns-then-extent-gt-SEQUENCE_LIMIT
returns-then-extent-gt-SEQUENCE_LIMIT c =
    read_long _ c.in-Some.extent.length (drop c.in-Some.extent.end c.args.bytes.now) c.in-Some.ensures.some
    c.if-extent-gt-SEQUENCE_LIMIT.true

pub returns : goal.returns
returns c =
    let rest = drop c.in-Some.extent.end c.args.bytes.now in
    let is = extent_is _ c.in-Some.extent.length rest c.in-Some.ensures.some in (
      is.0,
      read_extent _ c.in-Some.extent.length rest is.0 is.1 is.2 c.if-extent-gt-SEQUENCE_LIMIT.false,
      is.2,
      c.if-extent-gt-SEQUENCE_LIMIT.false,
      c.in-Some.ensures.place.0,
      c.in-Some.ensures.place.1,
    )

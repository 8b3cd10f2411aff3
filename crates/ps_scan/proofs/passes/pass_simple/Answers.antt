-- The first byte says which token it is.
use Rattle.std.proofs.Common.{◌+◌, arith}
use Rattle.ps_scan.specs.Shown.{token_of}
use Rattle.ps_scan.proofs.ReadingForms.{string_at, angle_at}
use Rattle.ps_scan.proofs.Passing.{same_passed}
use Rattle.ps_scan.proofs.passes.pass_simple.Goals as goal

pub returns-then-first-eq40 : goal.returns-then-first-eq40
returns-then-first-eq40 c =
    let xs = c.args.bytes.now in
    same_passed xs c.args.at _ _ _ (string_at xs c.args.at c.if-first-eq40.true)
    (c.pass_string.ensures xs c.args.at (c.args.at + 1) _ (omega arith) c.sized_extent.ensures)

pub returns-then-first-eq60 : goal.returns-then-first-eq60
returns-then-first-eq60 c =
    same_passed c.args.bytes.now c.args.at _ _ _ (angle_at c.args.bytes.now c.args.at c.if-first-eq60.true)
    c.pass_angle.ensures

pub returns-in-Ok : goal.returns-in-Ok
returns-in-Ok c =
    let xs = c.args.bytes.now in
    let is = c.in-Ok.ensures in rw c.passing.ensures.end (
      token_of xs c.in-Ok.token.kind,
      is.0,
      c.passing.ensures.class xs,
      is.1,
      is.2,
    )

pub returns-in-Err : goal.returns-in-Err
returns-in-Err c = c.in-Err.ensures

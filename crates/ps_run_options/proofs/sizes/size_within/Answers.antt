use Rattle.std.proofs.Common.{◌≡◌, ◌≤◌, ◌^◌, Err, IfSome, rules, sym, arith}
use Rattle.ps_run_options.specs.Sizes.{size_of}
use Rattle.ps_run_options.proofs.Growth.{past}
use Rattle.ps_run_options.proofs.sizes.size_within.Goals as goal

pub returns-in_err-size-clause-is : goal.returns-in_err-size-clause-is
returns-in_err-size-clause-is c =
    let same : c.from_residual.result ≡ Err c.in_err-size.field-0.0 = search rules in
    let large : IfSome (size_of c.args.text.now) (λ size. 2 ^ 64 ≤ size) = search rules in
    rw same (sym (past c.args.least c.args.most (size_of c.args.text.now)
    (omega (arith, c.ranges.most.fits)) large))

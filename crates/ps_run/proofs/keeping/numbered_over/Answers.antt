use Rattle.std.proofs.Common.{◌≡◌, ◌+◌, ℕ, List, IfSome, arith, rules, subst}
use Rattle.std.specs.Str.{bytes_eq}
use Rattle.ps_run.specs.Driving.{numbered}
use Rattle.ps_run.proofs.Held.{held}
use Rattle.ps_run.proofs.keeping.numbered_over.Goals as goal

pub returns-then-holds-clause-over : goal.returns-then-holds-clause-over
returns-then-holds-clause-over g c = λ is.
    let number = c.loop-place.place + 1 in
    let name : c.as_str.result.now ≡ numbered c.args.prefix.now number = search rules in (
      number,
      omega arith,
      omega (arith, c.loop-place-test.true),
      held _ c.args.program.now c.holds.result
          (subst (λ (name : List ℕ). IfSome (g.F.FileSet.contents c.args.files.now name)
          (λ known. c.holds.result ≡ bytes_eq known c.args.program.now)) name c.holds.ensures)
          c.if-holds.true,
    )

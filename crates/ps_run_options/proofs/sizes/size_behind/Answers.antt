use Rattle.std.proofs.Common.{◌≡◌, ◌≤◌, ◌^◌, ℕ, Option, Err, IfSome, rules, true, sym, subst, slice_index}
use Rattle.std.specs.Char.{is_ascii_digit}
use Rattle.ps_run_options.specs.Sizes.{with_digit}
use Rattle.ps_run_options.proofs.Growth.{overflows}
use Rattle.ps_run_options.proofs.sizes.size_behind.Goals as goal

pub returns-in_err-number-clause-fault : goal.returns-in_err-number-clause-fault
returns-in_err-number-clause-fault c =
    let same : c.from_residual.result ≡ Err c.in_err-number.field-0.0 = search rules in
    let digit : is_ascii_digit (slice_index c.args.text.now c.loop-place.place) ≡ true =
    search rules in
    let large : 2 ^ 64 ≤ with_digit c.loop-place.number
    (slice_index c.args.text.now c.loop-place.place) = search rules in
    rw same (subst (λ (found : Option ℕ). IfSome found (λ size. 2 ^ 64 ≤ size))
    (sym c.loop-place.invariant.same)
    (overflows c.loop-place.number c.loop-place.place c.args.text.now c.loop-place-test.true digit
    large))

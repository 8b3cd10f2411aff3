-- What the output is handed stands behind what was shown.
use Rattle.std.proofs.Common.{◌≡◌, false, rules}
use Rattle.ps_run.proofs.Streamed.{more_shown}
use Rattle.ps_run.proofs.streams.write_rest.Goals as goal

pub returns-then-is_err-clause-part : goal.returns-then-is_err-clause-part
returns-then-is_err-clause-part g c = λ first has.
    let going : c.args.screen.failed ≡ false = search rules in
    more_shown first c.args.screen c.args.printed.now has _ going
    (rw (c.output_of-out.ensures, c.in-Some.ensures.rest) at c.hand_out.ensures.part)

pub returns-clause-part : goal.returns-clause-part
returns-clause-part g c = λ first has.
    let going : c.args.screen.failed ≡ false = search rules in
    more_shown first c.args.screen c.args.printed.now has _ going
    (rw (c.output_of-out.ensures, c.in-Some.ensures.rest) at c.hand_out.ensures.part)

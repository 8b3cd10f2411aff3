use Rattle.std.proofs.Common.{◌≡◌, ◌∙◌, length, sym, ap}
use Rattle.std.specs.Prelude.{nat_lt}
use Rattle.ps_states.proofs.moments.end_of.Goals as goal

pub returns-clause-end : goal.returns-clause-end
returns-clause-end g c = λ w is.
    let slice = c.as_slice.ensures in
    let printed = rw c.begins_error-fails.ensures.shared at slice in
    let bytes : length c.as_slice.result.now ≡ length w.printed = ap length (printed ∙ sym is.printed) in
    let more = ap (nat_lt c.args.outset.printed) bytes in
    let error = c.begins_error-fails.ensures.error w is in
    λ i. record {
      context = c.args.outset.context;
      is_made = c.args.is_made;
      prints = more i;
      fails = error i;
    }

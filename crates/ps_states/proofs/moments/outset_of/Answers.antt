use Rattle.std.proofs.Common.{◌≡◌, ◌∙◌, length, sym, ap, arith}
use Rattle.ps_states.proofs.Each.{made_all}
use Rattle.ps_states.proofs.moments.outset_of.Goals as goal

pub returns : goal.returns
returns g c = λ w is.
    let h = g.M.Memory.heap c.args.runtime.now.memory in
    let names = c.args.runtime.now.shared.names in
    let all = made_all h names c.args.contexts.now.table w is.contexts in
    let made : c.made.result ≡ length w.contexts = omega (arith, all, c.made.ensures.made) in
    let bytes : length c.as_slice.result.now ≡ length w.printed =
    ap length (c.as_slice.ensures ∙ sym is.printed) in
    λ i. record {
      context = c.args.identifier;
      contexts = made i;
      printed = bytes i;
      stops = c.stops_at.ensures w is i;
    }

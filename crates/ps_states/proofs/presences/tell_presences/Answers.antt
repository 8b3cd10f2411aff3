use Rattle.std.proofs.Common.{◌∙◌, ap, length, arith}
use Rattle.ps_states.specs.Moments.{presence_at}
use Rattle.std.proofs.lemmas.List.{length-append}
use Rattle.ps_states.proofs.Each.{made_all}
use Rattle.ps_states.proofs.Pointing.{told_more}
use Rattle.ps_states.proofs.presences.tell_presences.Goals as goal

pub loop-place-preserved : goal.loop-place-preserved
loop-place-preserved g c = record {
  count = ap length c.in_ok-push.ensures.items ∙ length-append c.loop-place.seen.items _
      ∙ omega (arith, c.loop-place.invariant.count);
  each = λ w is. told_more (presence_at w) c.loop-place.seen.items _ c.loop-place.place _
      c.loop-place.invariant.count c.in_ok-push.ensures.items (c.loop-place.invariant.each w is)
      (c.presence_at.ensures w is);
}

pub returns-clause-told : goal.returns-clause-told
returns-clause-told g c = λ w is.
    let h = g.M.Memory.heap c.args.runtime.now.memory in
    let all = made_all h c.args.runtime.now.shared.names c.args.contexts.now.table w is.contexts in
    record {
      count = omega (
        arith,
        c.loop-place.invariant.count,
        c.loop-place-test.false,
        c.made-place-end.ensures.made,
        all,
      );
      each = λ k h. c.loop-place.invariant.each w is k (omega (arith, h, c.loop-place.invariant.count));
    }

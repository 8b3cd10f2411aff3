use Rattle.std.proofs.Common.{◌∙◌, arith}
use Rattle.ps_worlds.proofs.Naming.{first_taken, taken_more}
use Rattle.ps_worlds.proofs.names.NamesImage.of.Goals as goal

pub loop-number-init : goal.loop-number-init
loop-number-init c = record {
  whole = c.new-image.ensures.whole;
  names = c.new-image.ensures.names ∙ first_taken c.args.names.now c.from-number.result
      c.from-number.ensures c.requires;
}

pub loop-number-preserved : goal.loop-number-preserved
loop-number-preserved c =
    let below = c.loop-number-test.true in
    let count = c.len-number-end.ensures.count in
    record {
      whole = c.in_ok-push.ensures.whole;
      names = c.in_ok-push.ensures.names
          ∙ taken_more _ c.args.names.now c.loop-number.number c.text.result.now
          c.loop-number.invariant.names (omega (arith, below, count)) c.text.ensures.bytes;
    }

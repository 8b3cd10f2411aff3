use Rattle.std.proofs.Common.{◌≡◌, true, false, refl, sym, ◌∙◌, below_more, arith}
use Rattle.ps_core_laws.proofs.HeapTests.{clash}
use Rattle.ps_core_laws.specs.Memory.{is_shut}
use Rattle.ps_gc.proofs.Flipping.{shut_closes, closes_shut}
use Rattle.ps_gc.proofs.flips.all_closed.Goals as goal

pub loop-slot-preserved : goal.loop-slot-preserved
loop-slot-preserved c = below_more _ _ c.loop-slot.invariant
    (shut_closes c.args.seat.now.me.0.vm c.loop-slot.slot
    (rw c.numbered-slot.ensures at (sym c.is_closed.ensures ∙ c.if-not-is_closed.false)))

pub returns-then-not-is_closed : goal.returns-then-not-is_closed
returns-then-not-is_closed c =
    let v = c.args.seat.now.me.0.vm in
    let slot = c.loop-slot.slot in (
      λ bad. absurd (let b : false ≡ true = bad in cc),
      λ all. clash (is_shut v slot)
          (closes_shut v slot c.requires.open (all slot c.loop-slot-test.true))
          (rw c.numbered-slot.ensures at (sym c.is_closed.ensures ∙ c.if-not-is_closed.true)),
    )

pub returns : goal.returns
returns c =
    let past = c.loop-slot-test.false in
    (λ t slot lt. c.loop-slot.invariant slot (omega arith), λ all. refl)

use Rattle.std.proofs.Common.{◌-◌, ◌^◌, ℕ, List, length, min, sum, ap, ◌∙◌, arith}
use Rattle.std.proofs.lemmas.List.{take_all}
use Rattle.ps_table.proofs.Facts.{knows}
use Rattle.ps_gc.proofs.Sides.{counted_only, counted_grants}
use Rattle.ps_gc.proofs.seats.MutatorSeatLoggedMemory.counts.Goals as goal

pub overflow_cast-result : goal.overflow_cast-result
overflow_cast-result g c =
    let k = (knows c.args.self.now.vm.seat.me.0.vm c.args.self.now.vm.sits.runs).cycles in
    let low = k.low in
    let small = k.small in
    let is = c.counts-flips.ensures.flips in
    omega arith

pub returns-clause-grants : goal.returns-clause-grants
returns-clause-grants g c =
    let m = c.args.self.now.vm.seat.me.0 in
    let n = c.counts-flips.new.self.seat.me.0 in
    counted_grants m.vm n.vm
    (counted_only m n c.counts-flips.result.0 c.counts-flips.result.1 c.counts-flips.ensures.did)

pub returns-clause-taken : goal.returns-clause-taken
returns-clause-taken g c =
    let n = c.counts-flips.new.self in
    let heads = c.counts-flips.result.1 in
    let wide = ap length c.counts-flips.ensures.taken
    ∙ (knows n.seat.me.0.vm n.sits.runs).logs.heads in
    let past = c.loop-slot-test.false in
    c.loop-slot.invariant
    ∙ (ap (λ (l : List ℕ). min (sum l) (2 ^ 64 - 1)) (take_all c.loop-slot.slot heads (omega arith))
    ∙ ap (λ (l : List ℕ). min (sum l) (2 ^ 64 - 1)) c.counts-flips.ensures.taken)

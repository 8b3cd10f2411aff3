use Rattle.std.proofs.Common.{arith, ◌-◌, ◌^◌, List, length, ap, ◌∙◌}
use Rattle.std.specs.Prelude.{min}
use Rattle.std.specs.List.{sum_by}
use Rattle.std.proofs.lemmas.List.{take_all}
use Rattle.ps_record.specs.declared.Record.{Record}
use Rattle.ps_core_machine.specs.declared.events.Gc.{Gc}
use Rattle.ps_gc.specs.Keeps.{taken_in_all}
use Rattle.ps_gc.proofs.Ending.{cycles_meet}
use Rattle.ps_gc.proofs.Spaces.{taken_wide}
use Rattle.ps_gc.proofs.space.CollectedSpaceLoggedMemory.counts.Goals as goal

pub returns-clause-flipped : goal.returns-clause-flipped
returns-clause-flipped g c =
    let m = c.args.self.now.collector.gc.seat.me.0 in
    c.flips.ensures ∙ (ap (λ (x : Gc). x.cycle) c.meet.ensures.parts.1
    ∙ cycles_meet m.vm m.gc c.meet.ensures.runs)

pub returns-clause-taken : goal.returns-clause-taken
returns-clause-taken g c =
    let gc = c.meet.new.self in
    let wide = taken_wide gc.seat.me.0.gc gc.runs in
    let past = c.loop-slot-test.false in
    c.loop-slot.invariant
    ∙ (ap (λ (logs : List (List Record)). min (sum_by length logs) (2 ^ 64 - 1))
    (take_all c.loop-slot.slot gc.seat.me.0.gc.taken (omega arith))
    ∙ ap (λ (x : Gc). min (taken_in_all x) (2 ^ 64 - 1)) c.meet.ensures.parts.1)

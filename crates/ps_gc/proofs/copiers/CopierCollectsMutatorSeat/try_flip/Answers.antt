-- Both seats joined, and apart again.
use Rattle.std.proofs.Common.{ap, ◌∙◌, subst}
use Rattle.std.specs.Prelude.{Result}
use Rattle.ps_core_machine.specs.Objects.{values_stand}
use Rattle.ps_core_laws.specs.declared.tries.Unready.{Unready}
use Rattle.ps_core_laws.specs.Stores.{numbers}
use Rattle.ps_table.specs.declared.mutator.VmSeat.{VmSeat}
use Rattle.ps_table.specs.Shown.{SeatState}
use Rattle.ps_gc.specs.Flipping.{Answers}
use Rattle.ps_gc.proofs.Spaces.{values_name}
use Rattle.ps_gc.proofs.copiers.CopierCollectsMutatorSeat.try_flip.Goals as goal

pub joined_try_flip-flip-requires-clause-stand : goal.joined_try_flip-flip-requires-clause-stand
joined_try_flip-flip-requires-clause-stand g c =
    ap (λ (m : SeatState). values_stand m.0.vm.objects (numbers c.args.roots.now))
    c.join.ensures.joined
    ∙ (ap (λ (vm : VmSeat). values_stand vm.seat.me.0.vm.objects (numbers c.args.roots.now))
    c.used-used.ensures.same
    ∙ values_name c.args.memory.now.vm.seat.me.0.vm c.args.roots.now c.requires.values)

pub returns-in-Err-clause-answer : goal.returns-in-Err-clause-answer
returns-in-Err-clause-answer g c =
    let roots = numbers c.args.roots.now in
    let gc = c.args.self.now.collector.gc.seat.me.0.gc in
    let flip = c.joined_try_flip-flip.result in
    subst (λ (came : Result Unit Unready). Answers c.args.memory.now.vm.seat.me.0.vm gc roots came)
    c.in-Err.is
    (subst (λ (vm : VmSeat). Answers vm.seat.me.0.vm gc roots flip) c.used-used.ensures.same
    (subst (λ (m : SeatState). Answers m.0.vm m.0.gc roots flip) c.join.ensures.joined
    c.joined_try_flip-flip.ensures.answer))

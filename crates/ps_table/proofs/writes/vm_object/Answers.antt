use Rattle.std.proofs.Common.{◌≡◌, ◌+◌, ◌∷◌, [], sym, ap, ◌∙◌, arith}
use Rattle.ps_core_machine.specs.declared.events.Event.TheVariants.{HeaderStore}
use Rattle.ps_core_machine.specs.declared.events.Vm.{Vm}
use Rattle.ps_table.specs.declared.plays.View.{View}
use Rattle.ps_table.specs.Events.{word_cleared, words_cleared}
use Rattle.ps_table.specs.Shown.{SeatState, vm_did}
use Rattle.ps_table.proofs.Made.{clears_one}
use Rattle.ps_table.proofs.Storing.{did_acts, did_more}
use Rattle.ps_table.proofs.writes.vm_object.Goals as goal

pub loop-making-preserved : goal.loop-making-preserved
loop-making-preserved g c =
    let i = c.loop-making.invariant in
    let le = c.loop-making-test.true in
    let z = c.vm_zero.ensures in
    let l = c.loop-making in (
      omega arith,
      (z.same.0, z.same.1 ∙ i.1.1),
      ap (λ (x : SeatState). x.0.acts_vm) z.did.1
          ∙ (did_acts l.seat.me.0 (word_cleared (c.args.end + 1 + l.making) z.did.0) ∙ i.2),
      z.runs,
      z.part ∙ ap (λ (v : Vm). record v { making = l.making + 1 }) i.4,
      clears_one c.args.seat.now.me l.seat.me c.vm_zero.new.seat.me c.args.end l.making z.did.0
          i.5 z.did.1,
    )

pub returns-clause-did : goal.returns-clause-did
returns-clause-did g c =
    let i = c.loop-making.invariant in
    let le = i.0 in
    let gt = c.loop-making-test.false in
    let all : c.loop-making.making ≡ c.args.fields + 1 = omega arith in
    let k = i.5 in
    let m = c.args.seat.now.me in
    let header = c.args.header in (
      k.found,
      k.count ∙ all,
      c.vm_make.ensures.does.did
          ∙ (ap (λ (x : SeatState). (vm_did x.0 (HeaderStore header), x.1)) k.did
          ∙ ap (λ (v : View). (v, m.1))
          (sym (did_more m.0 (words_cleared (c.args.end + 1) k.found) (HeaderStore header ∷ [])))),
    )

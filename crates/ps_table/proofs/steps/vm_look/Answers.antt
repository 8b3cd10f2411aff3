use Rattle.std.proofs.Common.{rules, arith, ◌≡◌, ◌+◌}
use Rattle.ps_core_machine.specs.Steps.{next_word}
use Rattle.ps_table.proofs.Allows.{vm_allows, vm_known}
use Rattle.ps_table.proofs.Facts.{clear_place, knows}
use Rattle.ps_table.proofs.Moves.{vm_look_step}
use Rattle.ps_table.proofs.steps.vm_look.Goals as goal

pub overflow_add-end : goal.overflow_add-end
overflow_add-end g c =
    let part = c.args.seat.now.me.0.vm in
    let inside = clear_place part c.requires.may in
    let size = (knows part c.requires.runs).size.1 in
    let is = c.requires.is.0 in
    omega arith

pub overflow_add-end-2 : goal.overflow_add-end-2
overflow_add-end-2 g c =
    let part = c.args.seat.now.me.0.vm in
    let inside = clear_place part c.requires.may in
    let size = (knows part c.requires.runs).size.1 in
    let is = c.requires.is.0 in
    let made = c.requires.is.1 in
    omega arith

pub load-requires : goal.load-requires
load-requires g c =
    let part = c.args.seat.now.me.0.vm in
    let inside = clear_place part c.requires.may in
    let at : c.args.end + 1 + c.args.making ≡ next_word part =
    (let e = c.requires.is.0 in let f = c.requires.is.1 in omega arith) in
    let wide = c.requires.same.1 in (
      search rules,
      omega arith,
      λ space slots id. vm_allows space slots id _ (c.args.end + 1 + c.args.making) (λ n. n) _
          c.requires.acts (vm_look_step _ _ c.requires.may at (omega arith)),
      λ n m t. vm_known _ c.args.seat.now.me _ t.did,
    )

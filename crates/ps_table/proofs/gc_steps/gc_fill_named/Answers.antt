use Rattle.std.proofs.Common.{rules, arith, ◌≡◌, ◌+◌, Bool, ℕ, sym, subst}
use Rattle.ps_core_machine.specs.declared.events.Event.TheVariants.{ReplicaFieldStore}
use Rattle.ps_core_machine.specs.Objects.{pair_of}
use Rattle.ps_core_machine.specs.Steps.{replica_of}
use Rattle.ps_table.proofs.Allows.{gc_store_allows, GcStep, gc_known}
use Rattle.ps_table.proofs.GcFacts.{gc_knows, copy_place}
use Rattle.ps_table.proofs.GcMoves.{gc_fill_step}
use Rattle.ps_table.proofs.gc_steps.gc_fill_named.Goals as goal

pub overflow_add-replica : goal.overflow_add-replica
overflow_add-replica g c =
    let part = c.args.seat.now.me.0.gc in
    let is = c.requires.is in
    let at = copy_place part is.0 c.requires.runs is.1 in
    let r = is.2 in let f = is.3 in
    let size = (gc_knows part c.requires.runs).size.1 in
    omega arith

pub overflow_add-replica-2 : goal.overflow_add-replica-2
overflow_add-replica-2 g c =
    let part = c.args.seat.now.me.0.gc in
    let is = c.requires.is in
    let at = copy_place part is.0 c.requires.runs is.1 in
    let r = is.2 in let f = is.3 in
    let size = (gc_knows part c.requires.runs).size.1 in
    omega arith

pub store-requires : goal.store-requires
store-requires g c =
    let part = c.args.seat.now.me.0.gc in
    let is = c.requires.is in
    let k = is.0 in
    let at = copy_place part k c.requires.runs is.1 in
    let r = is.2 in let f = is.3 in
    let wide = c.requires.same.1 in
    let place : ℕ = c.args.replica + 2 + c.args.field in
    let there : place ≡ replica_of (pair_of part.pairs k.address) + 2 + k.field = omega arith in
    let step : GcStep part place (λ _. c.args.word) (λ _. ReplicaFieldStore c.args.scans) =
    gc_fill_step part k c.args.scans place c.args.word is.1 c.requires.may there is.4 in (
      search rules,
      omega arith,
      λ space slots id. gc_store_allows space slots id _ place c.args.word _ c.requires.acts
          (subst (λ (b : Bool). GcStep part place (λ _. c.args.word) (λ _. ReplicaFieldStore b))
          (sym c.requires.named) step),
      λ m t. gc_known _ c.args.seat.now.me _ t.did,
    )

use Rattle.std.proofs.Common.{rules, arith, ◌+◌, ℕ, sym, subst}
use Rattle.ps_core_machine.specs.declared.events.Event.TheVariants.{CopyLoad}
use Rattle.ps_table.proofs.Allows.{gc_allows, GcStep, gc_known}
use Rattle.ps_table.proofs.GcFacts.{gc_knows, field_place}
use Rattle.ps_table.proofs.GcMoves.{gc_copy_step}
use Rattle.ps_table.proofs.gc_steps.gc_copy_named.Goals as goal

pub overflow_add-original : goal.overflow_add-original
overflow_add-original g c =
    let part = c.args.seat.now.me.0.gc in
    let at = field_place part c.args.original c.args.field c.requires.runs c.requires.may.1 in
    let size = (gc_knows part c.requires.runs).size.1 in
    omega arith

pub overflow_add-original-2 : goal.overflow_add-original-2
overflow_add-original-2 g c =
    let part = c.args.seat.now.me.0.gc in
    let at = field_place part c.args.original c.args.field c.requires.runs c.requires.may.1 in
    let size = (gc_knows part c.requires.runs).size.1 in
    omega arith

pub load-requires : goal.load-requires
load-requires g c =
    let part = c.args.seat.now.me.0.gc in
    let at = field_place part c.args.original c.args.field c.requires.runs c.requires.may.1 in
    let wide = c.requires.same.1 in
    let named = c.requires.named in
    let place : ℕ = c.args.original + 2 + c.args.field in (
      search rules,
      omega arith,
      λ space slots id. gc_allows space slots id _ place (λ n. n) _ c.requires.acts
          (subst (λ (x : ℕ × ℕ). GcStep part place (λ n. n) (λ n. CopyLoad x.0 x.1 n))
          (λ k. (sym named.0 k, sym named.1 k))
          (gc_copy_step part c.args.original c.args.field c.requires.may.0 c.requires.may.1)),
      λ n m t. gc_known _ c.args.seat.now.me _ t.did,
    )

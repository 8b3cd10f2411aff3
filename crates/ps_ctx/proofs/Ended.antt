-- A context whose run left no frame isn't ready.
use Rattle.std.proofs.Common.{◌≡◌, ℕ, Bool, true, false, Option, refl, ap, subst, ◌∙◌, List, []}
use Rattle.std.specs.Option.{option_map, option_map_or}
use Rattle.ps_language.specs.Locks.{is_ready_as, is_ready}
use Rattle.ps_language.specs.World.{Context, World}
use Rattle.ps_ops_control.specs.declared.frames.Frame.{Frame}
use Rattle.ps_ops_state.specs.Lent.{Lent}
use Rattle.ps_step_outcome.specs.declared.turned.Turned.TheVariants.{Goes}
use Rattle.ps_ctx_table.specs.declared.members.Course.TheVariants.{Finished}
use Rattle.ps_ctx_table.specs.declared.members.Member.{Member}
use Rattle.ps_ctx_table.specs.Worlds.{context_of}
use Rattle.ps_ctx_table.specs.Desks.{Desk, returned, desk_after, IsWorld, member_left, course_after}
use Rattle.ps_ctx_table.proofs.Places.{item_at-with_item}
use Rattle.ps_ctx_table.proofs.Holding.{contexts_in-found}
use Rattle.ps_ctx.specs.Finishes.{settled_desk}
use Rattle.ps_ctx.specs.Lending.{LendsDesk}
use Rattle.ps_ctx.proofs.Behind.{run_settled}

-- whether one is ready, of what may be there
abbrev ready_there : (identifier : ℕ) → World → Option Context → Bool
ready_there identifier w found =
    option_map_or (λ context. is_ready_as context.status identifier context w) found false

-- one that is finished is gone, or makes no step
finished_unready : (d : Desk) (identifier : ℕ) (w : World) (detached : Bool) (member : Member)
    → ready_there identifier w (option_map (context_of d.heap d.names)
    (member_left (record member { course = Finished; is_detached = detached }))) ≡ false
finished_unready d identifier w true member = refl
finished_unready d identifier w false member = refl

pub run_ended : (before after : Desk) (identifier : ℕ) (goes : (old new : Lent) → Type 0)
    (lends : LendsDesk identifier goes before after) → lends.after.frames ≡ []
    → (w : World) → IsWorld (settled_desk Goes identifier after) w → is_ready w identifier ≡ false
unfolding is_ready
run_ended before after identifier goes lends none w at =
    let left : Member = record lends.member
    { context = returned lends.after; course = Finished } in
    let final : Desk =
    desk_after before identifier lends.member lends.after Finished before.has_faulted in
    let there : IsWorld final w =
    subst (λ (d : Desk). IsWorld d w)
    (run_settled before after identifier goes lends
    ∙ ap (λ (frames : List Frame). desk_after before identifier lends.member lends.after
    (course_after Goes frames) before.has_faulted) none) at in
    ap (ready_there identifier w)
    (contexts_in-found final.heap final.names final.members w identifier there.contexts
    ∙ ap (option_map (context_of final.heap final.names))
    (item_at-with_item before.members identifier lends.member (member_left left) lends.found))
    ∙ finished_unready final identifier w left.is_detached left

use Rattle.std.proofs.Common.{ℕ, Option, sym, ap, ◌∙◌}
use Rattle.std.specs.Option.{option_map_or}
use Rattle.ps_language.specs.World.{Context, World}
use Rattle.ps_timelines.specs.declared.moments.State.{State}
use Rattle.ps_timelines.specs.declared.moments.State.TheVariants.{Away}
use Rattle.ps_ctx_table.specs.Desks.{Desk, IsGoodMember}
use Rattle.ps_ctx_table.specs.Worlds.{context_of}
use Rattle.ps_ctx_table.proofs.Turning.{member_at}
use Rattle.ps_ctx.specs.Calls.{over_of}
use Rattle.ps_ctx_readers.proofs.There.{of_there, of_none}
use Rattle.ps_states.specs.Statuses.{status_line}
use Rattle.ps_states.specs.Moments.{state_in, state_of}
use Rattle.ps_states.proofs.Members.{held_of}
use Rattle.ps_states.proofs.moments.state_at.Goals as goal

-- of one that may not be there
abbrev state_there : World → (identifier : ℕ) → Option Context → State
state_there w identifier there = option_map_or (state_in w identifier) there Away

pub returns-in_default-clause-state : goal.returns-in_default-clause-state
returns-in_default-clause-state g c = λ w is.
    of_none _ w is c.args.identifier (state_there w c.args.identifier) c.in_default.ensures.item

pub status_line-requires-clause-held : goal.status_line-requires-clause-held
status_line-requires-clause-held g c =
    let d : Desk = over_of g.M.Memory.heap g.M.Memory.grants c.args.runtime.now
    c.args.crowd.now.contexts.now in
    rw c.is_ready-is_ready.ensures.heap
    (held_of d c.in-Some.member.now (member_at (IsGoodMember d) d.members c.args.identifier
    c.in-Some.member.now c.requires.steady.members (sym c.in-Some.ensures.item)))

pub returns-clause-state : goal.returns-clause-state
returns-clause-state g c = λ w is.
    let d : Desk = over_of g.M.Memory.heap g.M.Memory.grants c.args.runtime.now
    c.args.crowd.now.contexts.now in
    let line = c.status_line.ensures.line in
    let told = rw c.is_ready-is_ready.ensures.heap at line in
    c.state_of.ensures
    ∙ ap state_of (told d.names w.store is.shows
    ∙ ap (λ ready. status_line w.store ready (context_of d.heap d.names c.in-Some.member.now))
    (c.is_ready-is_ready.ensures.ready w is))
    ∙ of_there _ w is c.args.identifier (state_there w c.args.identifier) c.in-Some.member.now
    c.in-Some.ensures.item

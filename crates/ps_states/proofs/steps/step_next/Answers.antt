use Rattle.std.proofs.Common.{ℕ, Option, sym, ap, ◌∙◌}
use Rattle.std.specs.Option.{option_map_or}
use Rattle.std.proofs.lemmas.Result.{IfOk-weaker}
use Rattle.ps_language.specs.Locks.{is_ready}
use Rattle.ps_language.specs.World.{Context, World}
use Rattle.ps_views.specs.declared.frames.Coming.TheVariants.{Nothing}
use Rattle.ps_ops_state.specs.Lent.{IsShown}
use Rattle.ps_ctx_table.specs.declared.members.Member.{Member}
use Rattle.ps_ctx_table.specs.Desks.{Desk, IsGoodMember, lent_to}
use Rattle.ps_ctx_table.specs.Worlds.{context_of}
use Rattle.ps_ctx_table.proofs.Turning.{member_at}
use Rattle.ps_ctx.specs.Calls.{over_of}
use Rattle.ps_ctx_readers.proofs.There.{of_there, of_none}
use Rattle.ps_states.specs.Charts.{Chart}
use Rattle.ps_states.specs.Chosen.{chart_of}
use Rattle.ps_states.specs.Next.{Next, bare}
use Rattle.ps_states.specs.Steps.{ready_next}
use Rattle.ps_states.proofs.Members.{held_of, shown_of}
use Rattle.ps_states.proofs.steps.step_next.Goals as goal

-- what one does that may not be there
abbrev next_in : Chart → World → (identifier : ℕ) → Option Context → Next
next_in chart w identifier there =
    option_map_or (ready_next chart w.store (is_ready w identifier)) there (bare Nothing)

pub returns-in_default-clause-next : goal.returns-in_default-clause-next
returns-in_default-clause-next g c = λ w is.
    c.bare.ensures
    ∙ of_none _ w is c.args.identifier (next_in (chart_of c.args.chart.now) w c.args.identifier)
    c.in_default.ensures.item

pub returns-then-not-is_ready-clause-next : goal.returns-then-not-is_ready-clause-next
returns-then-not-is_ready-clause-next g c = λ w is.
    let d : Desk = over_of g.M.Memory.heap g.M.Memory.grants c.args.runtime.now
    c.args.crowd.now.contexts.now in
    let chart = chart_of c.args.chart.now in
    let idle = sym c.if-not-is_ready.true ∙ c.is_ready-is_ready.ensures.ready w is in
    c.bare-then-not-is_ready.ensures
    ∙ ap (λ ready. ready_next chart w.store ready (context_of d.heap d.names c.in-Some.member.now))
    idle
    ∙ of_there _ w is c.args.identifier (next_in chart w c.args.identifier) c.in-Some.member.now
    c.in-Some.ensures.item

pub next_of-requires-clause-held : goal.next_of-requires-clause-held
next_of-requires-clause-held g c =
    let d : Desk = over_of g.M.Memory.heap g.M.Memory.grants c.args.runtime.now
    c.args.crowd.now.contexts.now in
    rw c.is_ready-is_ready.ensures.heap
    (held_of d c.in-Some.member.now (member_at (IsGoodMember d) d.members c.args.identifier
    c.in-Some.member.now c.requires.steady.members (sym c.in-Some.ensures.item)))

pub returns-clause-next : goal.returns-clause-next
returns-clause-next g c = λ w is.
    let d : Desk = over_of g.M.Memory.heap g.M.Memory.grants c.args.runtime.now
    c.args.crowd.now.contexts.now in
    let chart = chart_of c.args.chart.now in
    let told = c.next_of.ensures.next in
    let next = rw (c.is_ready-is_ready.ensures.heap, c.is_ready-is_ready.ensures.shared) at told in
    let shown = shown_of d w.store c.in-Some.member.now
    (member_at (λ (member : Member). IsShown (lent_to d member.context) w.store) d.members
    c.args.identifier c.in-Some.member.now is.members (sym c.in-Some.ensures.item)) in
    let ready = sym c.if-not-is_ready.false ∙ c.is_ready-is_ready.ensures.ready w is in
    IfOk-weaker c.next_of.result _ _
    (λ one shows. shows
    ∙ ap (λ r. ready_next chart w.store r (context_of d.heap d.names c.in-Some.member.now)) ready
    ∙ of_there _ w is c.args.identifier (next_in chart w c.args.identifier) c.in-Some.member.now
    c.in-Some.ensures.item)
    (next w.store shown)

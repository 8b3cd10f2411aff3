use Rattle.std.proofs.Common.{ℕ, List, [], Option, sym, ◌∙◌}
use Rattle.std.specs.Option.{option_map_or}
use Rattle.std.proofs.lemmas.Result.{IfOk-weaker}
use Rattle.ps_language.specs.World.{Context, World}
use Rattle.ps_ctx_table.specs.Desks.{Desk, IsGoodMember}
use Rattle.ps_ctx_table.proofs.Turning.{member_at}
use Rattle.ps_ctx.specs.Calls.{over_of}
use Rattle.ps_ctx_readers.proofs.There.{of_there, of_none}
use Rattle.ps_states.specs.States.{locks_of}
use Rattle.ps_states.proofs.Members.{held_of}
use Rattle.ps_states.proofs.steps.locks_at.Goals as goal

-- of one that may not be there
abbrev locks_in : World → (identifier : ℕ) → Option Context → List ℕ
locks_in w identifier there = option_map_or (locks_of w.store identifier) there []

pub returns-in_default-clause-locks : goal.returns-in_default-clause-locks
returns-in_default-clause-locks g c = λ w is.
    c.new.ensures.items
    ∙ of_none _ w is c.args.identifier (locks_in w c.args.identifier) c.in_default.ensures.item

pub locks_of-requires-clause-held : goal.locks_of-requires-clause-held
locks_of-requires-clause-held g c =
    let d : Desk = over_of g.M.Memory.heap g.M.Memory.grants c.args.runtime.now c.args.contexts.now in
    held_of d c.in-Some.member.now (member_at (IsGoodMember d) d.members c.args.identifier c.in-Some.member.now
    c.requires.steady.members (sym c.in-Some.ensures.item))

pub returns-clause-locks : goal.returns-clause-locks
returns-clause-locks g c = λ w is.
    IfOk-weaker c.locks_of.result _ _
    (λ locks are. are
    ∙ of_there _ w is c.args.identifier (locks_in w c.args.identifier) c.in-Some.member.now c.in-Some.ensures.item)
    (c.locks_of.ensures.locks c.args.runtime.now.shared.names w.store is.shows)

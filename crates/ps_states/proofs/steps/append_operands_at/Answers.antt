use Rattle.std.proofs.Common.{ℕ, List, [], ◌++◌, Option, sym, ap, ◌∙◌}
use Rattle.std.specs.Option.{option_map_or}
use Rattle.std.proofs.lemmas.List.{append-nil}
use Rattle.std.proofs.lemmas.Result.{on_ok_weaker}
use Rattle.ps_language.specs.World.{Context, World}
use Rattle.ps_ops_state.specs.Lent.{IsShown}
use Rattle.ps_ctx_table.specs.declared.members.Member.{Member}
use Rattle.ps_ctx_table.specs.Desks.{Desk, IsGoodMember, lent_to}
use Rattle.ps_ctx_table.proofs.Turning.{member_at}
use Rattle.ps_ctx.specs.Calls.{over_of}
use Rattle.ps_ctx_readers.proofs.There.{of_there, of_none}
use Rattle.ps_states.specs.Steps.{operands_text}
use Rattle.ps_states.proofs.Members.{held_of, shown_of}
use Rattle.ps_states.proofs.steps.append_operands_at.Goals as goal

-- of one that may not be there
abbrev texts_in : World → Option Context → List ℕ
texts_in w there = operands_text w.store (option_map_or (λ one. one.operands) there [])

pub returns-in_default-clause-operands : goal.returns-in_default-clause-operands
returns-in_default-clause-operands g c = λ w is.
    sym (append-nil c.args.to.now.items) ∙ ap (λ text. c.args.to.now.items ++ text)
    (of_none _ w is c.args.identifier (texts_in w) c.in_default.ensures.item)

pub append_topmost-requires-clause-held : goal.append_topmost-requires-clause-held
append_topmost-requires-clause-held g c =
    let d : Desk = over_of g.M.Memory.heap g.M.Memory.grants c.args.runtime.now c.args.contexts.now in
    (held_of d c.in-Some.member.now (member_at (IsGoodMember d) d.members c.args.identifier c.in-Some.member.now
    c.requires.steady.members (sym c.in-Some.ensures.item))).operands

pub returns-clause-operands : goal.returns-clause-operands
returns-clause-operands g c = λ w is.
    let d : Desk = over_of g.M.Memory.heap g.M.Memory.grants c.args.runtime.now c.args.contexts.now in
    let shown = shown_of d w.store c.in-Some.member.now
    (member_at (λ (member : Member). IsShown (lent_to d member.context) w.store) d.members c.args.identifier
    c.in-Some.member.now is.members (sym c.in-Some.ensures.item)) in
    on_ok_weaker c.append_topmost.result
    (λ so. so ∙ ap (λ text. c.args.to.now.items ++ text)
    (of_there _ w is c.args.identifier (texts_in w) c.in-Some.member.now c.in-Some.ensures.item))
    (c.append_topmost.ensures.texts w.store shown.shows shown.operands)

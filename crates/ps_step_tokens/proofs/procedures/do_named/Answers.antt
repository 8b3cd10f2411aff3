-- The names are formed, and taken back where what follows is not made.
use Rattle.std.proofs.Common.{◌≡◌, ℕ, List, ◌++◌, take, Err, ap, ◌∙◌}
use Rattle.std.specs.Prelude.{fold}
use Rattle.ps_language.specs.declared.errors.ErrorName.TheVariants.{LimitCheck}
use Rattle.ps_language.specs.Dictionaries.{meet}
use Rattle.ps_language.specs.StepTokens.{names_in}
use Rattle.ps_ops_operands.proofs.Ready.{plain_value, plain_within}
use Rattle.ps_ops_state.specs.Lent.{Lent, lent_of}
use Rattle.ps_ops_state.proofs.Forming.{formed_good, cut_names}
use Rattle.ps_step_tokens.specs.Made.{formed_asks, formed_turn, named_asks, named_turn}
use Rattle.ps_step_tokens.specs.Procedures.{tokens_in}
use Rattle.ps_step_tokens.proofs.Alike.{raised}
use Rattle.ps_step_tokens.proofs.Formed.{turns_formed, unmade_formed}
use Rattle.ps_step_tokens.proofs.ProcedureTurns.{all_formed, all_overflow, all_met, named_overflows, named_refused}
use Rattle.ps_step_tokens.proofs.ProcedureTurns.{formed_as, formed_asked}
use Rattle.ps_step_tokens.proofs.procedures.do_named.Goals as goal

pub do_formed-requires-clause-good : goal.do_formed-requires-clause-good
do_formed-requires-clause-good g c =
    let l : Lent = (lent_of g.M.Memory.heap g.M.Memory.grants c.args.context.now c.args.runtime.now) in
    let content = tokens_in c.args.text.now c.args.elements.now in
    let more = c.in-Ok.ensures.more in
    formed_good l more.0 c.meet_names.new.names more.1 c.requires.good
    c.in-Ok.ensures.are

pub do_formed-requires-clause-met : goal.do_formed-requires-clause-met
do_formed-requires-clause-met g c =
    let l : Lent = (lent_of g.M.Memory.heap g.M.Memory.grants c.args.context.now c.args.runtime.now) in
    let content = tokens_in c.args.text.now c.args.elements.now in
    rw c.in-Ok.ensures.formed (all_met l.names (names_in content))

pub raise-requires-clause-held : goal.raise-requires-clause-held
raise-requires-clause-held g c = plain_value _ _ c.null.ensures.plain

pub returns-in-Ok-do_formed : goal.returns-in-Ok-do_formed
returns-in-Ok-do_formed g c =
    let l : Lent = (lent_of g.M.Memory.heap g.M.Memory.grants c.args.context.now c.args.runtime.now) in
    let content = tokens_in c.args.text.now c.args.elements.now in
    let names = c.meet_names.new.names in
    let texts = names_in content in
    let is : names ≡ fold meet l.names texts = c.in-Ok.ensures.formed in
    let more = c.in-Ok.ensures.more in
    let formed = all_formed l.names texts names is c.in-Ok.ensures.are in
    turns_formed l more.0 names more.1 (named_asks content) (formed_asks content)
    (named_turn content) (formed_turn content) c.args.attempt
    (formed_as l content names formed more.0 more.1)
    (formed_asked l content names formed more.0 more.1) c.in-Ok-do_formed.turned _
    c.in-Ok-do_formed.ensures

pub returns-in-Err : goal.returns-in-Err
returns-in-Err g c =
    let l : Lent = (lent_of g.M.Memory.heap g.M.Memory.grants c.args.context.now c.args.runtime.now) in
    let content = tokens_in c.args.text.now c.args.elements.now in
    let names = c.meet_names.new.names in
    let texts = names_in content in
    let is : names ≡ fold meet l.names texts = c.in-Ok.ensures.formed in
    let more = c.in-Ok.ensures.more in
    let formed = all_formed l.names texts names is c.in-Ok.ensures.are in
    let turns = c.in-Err.ensures in
    let cut : c.truncate.new.self ≡ l.names = c.truncate.ensures
    ∙ (ap (λ (ns : List (List ℕ)). take c.len-count.result ns)
    (turns.stays.names ∙ ap (λ (ns : List (List ℕ)). ns ++ turns.stays.formed) more.1)
    ∙ cut_names l.names more.0 turns.stays.formed c.len-count.result c.len-count.ensures.count) in
    rw cut
    (unmade_formed l more.0 names more.1 (named_asks content) (formed_asks content)
    (named_turn content) (formed_turn content) c.args.attempt
    (formed_as l content names formed more.0 more.1)
    (formed_asked l content names formed more.0 more.1) c.requires.good c.in-Err.reason _ turns)

pub returns-in-Err-Full : goal.returns-in-Err-Full
returns-in-Err-Full g c =
    let l : Lent = (lent_of g.M.Memory.heap g.M.Memory.grants c.args.context.now c.args.runtime.now) in
    let content = tokens_in c.args.text.now c.args.elements.now in
    let past = c.meet_names.ensures.full (c.in-Err-Full.is ∙ ap Err c.in-Err-Full.field-0-is) in
    raised (named_asks content) (named_turn content) c.args.attempt _ l _ c.null.result
    (λ s shown. plain_within _ _ s _ c.null.ensures.plain) LimitCheck
    (λ s shown. named_overflows l content (all_overflow l.names (names_in content) past)
    c.null.result (c.null.ensures.value _ _) s) (rw c.in-Err-Full.ensures.fault at c.raise.ensures)

pub returns-in-Err-Memory : goal.returns-in-Err-Memory
returns-in-Err-Memory g c =
    let l : Lent = (lent_of g.M.Memory.heap g.M.Memory.grants c.args.context.now c.args.runtime.now) in
    let content = tokens_in c.args.text.now c.args.elements.now in
    let new = c.meet_names.ensures.memory
    (c.in-Err-Memory.is ∙ ap Err c.in-Err-Memory.field-0-is) in
    rw c.in-Err-Memory.ensures.fault
    (named_refused l content c.requires.good new.0 new.1 c.args.attempt)

-- The name is met, and taken back where what follows is not made.
use Rattle.std.proofs.Common.{◌≡◌, ℕ, List, ◌++◌, take, Err, refl, sym, ap, ◌∙◌, subst}
use Rattle.ps_language.specs.Dictionaries.{meet}
use Rattle.ps_language.specs.declared.errors.ErrorName.TheVariants.{LimitCheck}
use Rattle.ps_mem.specs.Heap.{birth_at}
use Rattle.ps_names.specs.Names.{AreNames}
use Rattle.ps_names.proofs.Places.{meet_new}
use Rattle.ps_ops_operands.proofs.Ready.{plain_value, plain_within}
use Rattle.ps_ops_state.specs.Lent.{Lent, lent_of}
use Rattle.ps_ops_state.proofs.Forming.{formed_good, cut_names}
use Rattle.ps_step_tokens.specs.Names.{name_token, met_turn, met_asks}
use Rattle.ps_step_tokens.specs.Tokens.{token_turn, token_asks}
use Rattle.ps_step_tokens.proofs.Alike.{raised}
use Rattle.ps_step_tokens.proofs.Doing.{name_overflows, met_as, met_asked, name_refused}
use Rattle.ps_step_tokens.proofs.Formed.{turns_formed, unmade_formed}
use Rattle.ps_step_tokens.proofs.Naming.{added, meet_is, met_names, met_formed, new_formed, none_formed, name_means}
use Rattle.ps_step_tokens.proofs.Naming.{name_lent}
use Rattle.ps_step_tokens.proofs.names.do_name.Goals as goal

pub do_met-requires-clause-good : goal.do_met-requires-clause-good
do_met-requires-clause-good g c =
    let l : Lent = (lent_of g.M.Memory.heap g.M.Memory.grants c.args.context.now c.args.runtime.now) in
    let text = c.args.text.now in
    let names = c.intern.new.self in
    let met = c.in-Ok.ensures.names in
    let news : AreNames names = subst AreNames (sym met)
    (met_names l.names text c.len-count.ensures.names c.requires.short c.in-Ok.id.0
    c.in-Ok.ensures.number c.in-Ok.ensures.below) in
    formed_good l (added l.names text) names (met ∙ meet_is l.names text) c.requires.good
    news

pub do_met-requires-clause-word : goal.do_met-requires-clause-word
do_met-requires-clause-word g c =
    name_lent c.args.kind c.name_word-word.result c.in-Ok.id.0
    (rw c.is_executed.ensures at c.name_word-word.ensures.value) c.intern.new.self c.args.text.now
    c.in-Ok.ensures.stands _ refl c.name_word-word.ensures.word

pub raise-requires : goal.raise-requires
raise-requires g c = record {
  good = rw c.in-Err-Full.ensures.fault c.requires.good;
  held = plain_value _ _ c.null.ensures.plain;
}

pub returns-in-Ok-do_met : goal.returns-in-Ok-do_met
returns-in-Ok-do_met g c =
    let l : Lent = (lent_of g.M.Memory.heap g.M.Memory.grants c.args.context.now c.args.runtime.now) in
    let text = c.args.text.now in
    let kind = c.args.kind in
    let names = c.intern.new.self in
    let word = c.name_word-word.result in
    let asks = g.O.Operate.asks in
    let met = c.in-Ok.ensures.names in
    let are = met ∙ meet_is l.names text in
    let news : AreNames names = subst AreNames (sym met)
    (met_names l.names text c.len-count.ensures.names c.requires.short c.in-Ok.id.0
    c.in-Ok.ensures.number c.in-Ok.ensures.below) in
    let means = name_means kind word c.in-Ok.id.0
    (rw c.is_executed.ensures at c.name_word-word.ensures.value) names text c.in-Ok.ensures.stands
    (birth_at l.heap) in
    let formed = met_formed l.names text c.len-count.ensures.names c.requires.short names met
    news in
    turns_formed l (added l.names text) names are (token_asks asks (name_token kind text))
    (met_asks asks kind word) (token_turn (name_token kind text)) (met_turn kind word) c.args.attempt
    (met_as l text names formed (added l.names text) are kind word means)
    (λ s shown. met_asked l text names formed (added l.names text) are kind word means asks met s
    shown)
    c.in-Ok-do_met.turned _ c.in-Ok-do_met.ensures

pub returns-in-Err : goal.returns-in-Err
returns-in-Err g c =
    let l : Lent = (lent_of g.M.Memory.heap g.M.Memory.grants c.args.context.now c.args.runtime.now) in
    let text = c.args.text.now in
    let kind = c.args.kind in
    let names = c.intern.new.self in
    let word = c.name_word-word.result in
    let asks = g.O.Operate.asks in
    let met = c.in-Ok.ensures.names in
    let are = met ∙ meet_is l.names text in
    let news : AreNames names = subst AreNames (sym met)
    (met_names l.names text c.len-count.ensures.names c.requires.short c.in-Ok.id.0
    c.in-Ok.ensures.number c.in-Ok.ensures.below) in
    let means = name_means kind word c.in-Ok.id.0
    (rw c.is_executed.ensures at c.name_word-word.ensures.value) names text c.in-Ok.ensures.stands
    (birth_at l.heap) in
    let formed = met_formed l.names text c.len-count.ensures.names c.requires.short names met
    news in
    let turns = c.in-Err.ensures in
    let cut : c.truncate.new.self ≡ l.names = c.truncate.ensures
    ∙ (ap (λ (ns : List (List ℕ)). take c.len-count.result ns)
    (turns.stays.names ∙ ap (λ (ns : List (List ℕ)). ns ++ turns.stays.formed) are)
    ∙ cut_names l.names (added l.names text) turns.stays.formed c.len-count.result
    c.len-count.ensures.count) in
    rw cut
    (unmade_formed l (added l.names text) names are (token_asks asks (name_token kind text))
    (met_asks asks kind word) (token_turn (name_token kind text)) (met_turn kind word) c.args.attempt
    (met_as l text names formed (added l.names text) are kind word means)
    (λ s shown. met_asked l text names formed (added l.names text) are kind word means asks met s
    shown)
    c.requires.good c.in-Err.reason _ turns)

pub returns-in-Err-Memory : goal.returns-in-Err-Memory
returns-in-Err-Memory g c =
    let l : Lent = (lent_of g.M.Memory.heap g.M.Memory.grants c.args.context.now c.args.runtime.now) in
    let text = c.args.text.now in
    let refused = c.intern.ensures.memory (c.in-Err-Memory.is ∙ ap Err c.in-Err-Memory.field-0-is) in
    let new = sym (meet_new text l.names refused.0) in
    rw c.in-Err-Memory.ensures.fault
    (name_refused l text (meet l.names text)
    (new_formed l.names text c.len-count.ensures.names c.requires.short refused.0 refused.2)
    c.requires.good refused.0 refl g.O.Operate.asks c.args.kind c.args.attempt)

pub returns-in-Err-Full : goal.returns-in-Err-Full
returns-in-Err-Full g c =
    let l : Lent = (lent_of g.M.Memory.heap g.M.Memory.grants c.args.context.now c.args.runtime.now) in
    let text = c.args.text.now in
    let full = c.intern.ensures.full.0 (c.in-Err-Full.is ∙ ap Err c.in-Err-Full.field-0-is) in
    raised (token_asks g.O.Operate.asks (name_token c.args.kind text))
    (token_turn (name_token c.args.kind text)) c.args.attempt _ l _ c.null.result
    (λ s shown. plain_within _ _ s _ c.null.ensures.plain) LimitCheck
    (λ s shown. name_overflows l text (none_formed l.names text c.len-count.ensures.names
    c.requires.short full.0 full.2) c.null.result (c.null.ensures.value _ _) c.args.kind s)
    (rw c.in-Err-Full.ensures.fault at c.raise.ensures)

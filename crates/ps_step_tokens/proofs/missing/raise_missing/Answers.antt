-- The name is met, and taken back where its error is not noted.
use Rattle.std.proofs.Common.{◌≡◌, ℕ, List, [], ◌∷◌, ◌++◌, take, Err, refl, sym, ap, ◌∙◌, subst, true}
use Rattle.ps_language.specs.declared.errors.ErrorName.TheVariants.{LimitCheck}
use Rattle.ps_language.specs.Dictionaries.{meet}
use Rattle.ps_mem.specs.Heap.{birth_at}
use Rattle.ps_names.specs.Names.{AreNames}
use Rattle.ps_ops_operands.proofs.Ready.{plain_value, plain_within}
use Rattle.ps_ops_types.proofs.First.{name_held}
use Rattle.ps_ops_state.specs.Lent.{Lent, lent_of}
use Rattle.ps_ops_state.proofs.Forming.{formed_good, cut_names}
use Rattle.ps_step_outcome.specs.Turns.{error_turn, nothing_more}
use Rattle.ps_step_outcome.proofs.Composing.{turns_shown}
use Rattle.ps_step_tokens.specs.declared.names.NameKind.TheVariants.{Executable}
use Rattle.ps_step_tokens.specs.Missing.{missing_turn}
use Rattle.ps_step_tokens.proofs.Alike.{raised}
use Rattle.ps_step_tokens.proofs.Formed.{turns_formed, unmade_formed}
use Rattle.ps_step_tokens.proofs.MissingTurns.{missing_overflows, missing_as, missing_refused}
use Rattle.ps_step_tokens.proofs.Naming.{added, meet_is, met_names, met_formed, new_formed, none_formed, name_means}
use Rattle.ps_step_tokens.proofs.Naming.{name_within}
use Rattle.ps_step_tokens.proofs.missing.raise_missing.Goals as goal

pub raise-requires-clause-good : goal.raise-requires-clause-good
raise-requires-clause-good g c =
    let l : Lent = (lent_of g.M.Memory.heap g.M.Memory.grants c.args.context.now c.args.runtime.now) in
    let text = c.args.text.now in
    let names = c.intern.new.self in
    let met = c.in-Ok.ensures.names in
    let are = met ∙ meet_is l.names text in
    let news : AreNames names = subst AreNames (sym met)
    (met_names l.names text c.len-count.ensures.names c.requires.short c.in-Ok.id.0
    c.in-Ok.ensures.number c.in-Ok.ensures.below) in
    formed_good l (added l.names text) names are c.requires.good news

pub raise-requires-clause-held : goal.raise-requires-clause-held
raise-requires-clause-held g c =
    name_held c.name_word.result c.in-Ok.id.0 true c.name_word.ensures.value _
    c.name_word.ensures.word

pub raise-requires-in-Err-Full-clause-held : goal.raise-requires-in-Err-Full-clause-held
raise-requires-in-Err-Full-clause-held g c = plain_value _ _ c.null.ensures.plain

pub returns-in-Ok-raise : goal.returns-in-Ok-raise
returns-in-Ok-raise g c =
    let l : Lent = (lent_of g.M.Memory.heap g.M.Memory.grants c.args.context.now c.args.runtime.now) in
    let text = c.args.text.now in
    let names = c.intern.new.self in
    let met = c.in-Ok.ensures.names in
    let are = met ∙ meet_is l.names text in
    let news : AreNames names = subst AreNames (sym met)
    (met_names l.names text c.len-count.ensures.names c.requires.short c.in-Ok.id.0
    c.in-Ok.ensures.number c.in-Ok.ensures.below) in
    let word = c.name_word.result in
    let means = name_means Executable word c.in-Ok.id.0 c.name_word.ensures.value names text
    c.in-Ok.ensures.stands (birth_at l.heap) in
    let formed = met_formed l.names text c.len-count.ensures.names c.requires.short names met
    news in
    turns_formed l (added l.names text) names are nothing_more nothing_more
    (missing_turn c.args.error text) (error_turn c.args.error word) c.args.attempt
    (missing_as l text c.args.error names formed (added l.names text) are word means)
    (λ s shown. refl) c.in-Ok-raise.turned _
    (turns_shown (word ∷ []) [] nothing_more (error_turn c.args.error word) c.args.attempt _ _ _
    (λ s shown. (
      name_within Executable word c.in-Ok.id.0 c.name_word.ensures.value names text
          c.in-Ok.ensures.stands _ s,
      tt,
    )) (λ s shown. tt) c.in-Ok-raise.ensures)

pub returns-in-Err : goal.returns-in-Err
returns-in-Err g c =
    let l : Lent = (lent_of g.M.Memory.heap g.M.Memory.grants c.args.context.now c.args.runtime.now) in
    let text = c.args.text.now in
    let names = c.intern.new.self in
    let met = c.in-Ok.ensures.names in
    let are = met ∙ meet_is l.names text in
    let news : AreNames names = subst AreNames (sym met)
    (met_names l.names text c.len-count.ensures.names c.requires.short c.in-Ok.id.0
    c.in-Ok.ensures.number c.in-Ok.ensures.below) in
    let word = c.name_word.result in
    let means = name_means Executable word c.in-Ok.id.0 c.name_word.ensures.value names text
    c.in-Ok.ensures.stands (birth_at l.heap) in
    let formed = met_formed l.names text c.len-count.ensures.names c.requires.short names met
    news in
    let turns = turns_shown (word ∷ []) [] nothing_more (error_turn c.args.error word) c.args.attempt
    _ _ _ (λ s shown. (
      name_within Executable word c.in-Ok.id.0 c.name_word.ensures.value names
          text c.in-Ok.ensures.stands _ s,
      tt,
    )) (λ s shown. tt) c.in-Err.ensures in
    let cut : c.truncate.new.self ≡ l.names = c.truncate.ensures
    ∙ (ap (λ (ns : List (List ℕ)). take c.len-count.result ns)
    (turns.stays.names ∙ ap (λ (ns : List (List ℕ)). ns ++ turns.stays.formed) are)
    ∙ cut_names l.names (added l.names text) turns.stays.formed c.len-count.result
    c.len-count.ensures.count) in
    rw cut
    (unmade_formed l (added l.names text) names are nothing_more nothing_more
    (missing_turn c.args.error text) (error_turn c.args.error word) c.args.attempt
    (missing_as l text c.args.error names formed (added l.names text) are word means)
    (λ s shown. refl) c.requires.good c.in-Err.reason _ turns)

pub returns-in-Err-Full : goal.returns-in-Err-Full
returns-in-Err-Full g c =
    let l : Lent = (lent_of g.M.Memory.heap g.M.Memory.grants c.args.context.now c.args.runtime.now) in
    let text = c.args.text.now in
    let full = c.intern.ensures.full.0 (c.in-Err-Full.is ∙ ap Err c.in-Err-Full.field-0-is) in
    raised nothing_more (missing_turn c.args.error text) c.args.attempt _ l _ c.null.result
    (λ s shown. plain_within _ _ s _ c.null.ensures.plain) LimitCheck
    (λ s shown. missing_overflows l text c.args.error (none_formed l.names text
    c.len-count.ensures.names c.requires.short full.0 full.2) c.null.result
    (c.null.ensures.value _ _) s)
    (rw c.in-Err-Full.ensures.fault at c.raise-in-Err-Full.ensures)

pub returns-in-Err-Memory : goal.returns-in-Err-Memory
returns-in-Err-Memory g c =
    let l : Lent = (lent_of g.M.Memory.heap g.M.Memory.grants c.args.context.now c.args.runtime.now) in
    let text = c.args.text.now in
    let refused = c.intern.ensures.memory (c.in-Err-Memory.is ∙ ap Err c.in-Err-Memory.field-0-is) in
    rw c.in-Err-Memory.ensures.fault
    (missing_refused l text c.args.error (meet l.names text)
    (new_formed l.names text c.len-count.ensures.names c.requires.short refused.0 refused.2)
    c.requires.good refused.0 refl c.args.attempt)

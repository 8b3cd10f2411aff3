-- The name is formed and the pair put; or the errors, or there is a lack, and no name is formed.
use Rattle.std.proofs.Common.{◌≢◌, arith, refl, sym, ◌∙◌}
use Rattle.std.proofs.lemmas.Result.{err_from_is_err_and}
use Rattle.ps_language.specs.declared.errors.ErrorName.TheVariants.{LimitCheck}
use Rattle.ps_dict.specs.declared.plans.PutPlan.TheVariants.{Full}
use Rattle.ps_ops_types.proofs.First.{name_held}
use Rattle.ps_ops_state.specs.Lent.{lent, lent_of}
use Rattle.ps_ops_state.proofs.Acting.{raised_acts}
use Rattle.ps_ops_dictionaries.proofs.Unmet.{unmet_full, unmet_fault, unmet_good, unmet_put, unmet_unmade}
use Rattle.ps_ops_dictionaries.proofs.Unmet.{unmet_refused, formed_as, plan_possible, inside_formed}
use Rattle.ps_ops_dictionaries.proofs.puts.put_unmet.Goals as goal

pub returns-then-length-ge-CAPACITY_LIMIT-clause-acts : goal.returns-then-length-ge-CAPACITY_LIMIT-clause-acts
returns-then-length-ge-CAPACITY_LIMIT-clause-acts g c =
    let many = c.if-length-ge-CAPACITY_LIMIT.true in
    let words = c.length.ensures.words in
    rw (c.length.ensures.heap, c.length.ensures.grants)
    (raised_acts _ _ _ _ c.requires.good LimitCheck λ store shown.
    unmet_full _ c.requires.good c.args.entry.address c.args.entry.key c.args.entry.value
    c.args.entry.operands c.requires.known _ c.requires.key c.requires.unmet
    (λ s there. c.requires.inside _ s there.operands) store shown (omega (arith, many, words)))

pub returns-in_err-form_key-clause-acts : goal.returns-in_err-form_key-clause-acts
returns-in_err-form_key-clause-acts g c =
    let few = c.if-length-ge-CAPACITY_LIMIT.false in
    let words = c.length.ensures.words in
    let p = err_from_is_err_and c.from_residual.result c.from_residual.ensures.1 in
    rw (p.1, p.2, c.length.ensures.heap, c.length.ensures.grants)
    (unmet_fault _ c.requires.good c.args.entry.address c.args.entry.key
    c.args.entry.value c.args.entry.operands c.requires.known _ c.requires.key
    c.requires.unmet (λ s there. c.requires.inside _ s there.operands) c.args.attempt
    (omega (arith, few, words)) _ c.in_err-form_key.ensures.did _
    (c.in_err-form_key.ensures.unmade _ refl))

pub plan_put-plan-requires-clause-held : goal.plan_put-plan-requires-clause-held
plan_put-plan-requires-clause-held g c =
    name_held _ _ _ c.name_word-key.ensures.value (g.M.Memory.heap c.length.new.memory)
    c.name_word-key.ensures.word

pub put_planned-requires-clause-key : goal.put_planned-requires-clause-key
put_planned-requires-clause-key g c =
    name_held _ _ _ c.name_word-key.ensures.value (g.M.Memory.heap c.plan_put-plan.new.memory)
    c.name_word-key.ensures.word

pub put_planned-requires-clause-good : goal.put_planned-requires-clause-good
put_planned-requires-clause-good g c =
    let old = c.args.runtime.now.shared.names in
    let made = c.in_ok-form_key.ensures.made refl in
    let named = formed_as (g.M.Memory.heap c.args.runtime.now.memory) old c.form_key.new.names
    c.args.read.now c.requires.key.held c.len-count.ensures.names c.requires.unmet
    c.in_ok-form_key.ensures.did made.0 c.name_word-key.result c.len-count.result
    c.len-count.ensures.count c.name_word-key.ensures.value c.name_word-key.ensures.word in
    rw (
      c.plan_put-plan.ensures.heap,
      c.plan_put-plan.ensures.grants,
      c.length.ensures.heap,
      c.length.ensures.grants,
    )
    (unmet_good (lent_of g.M.Memory.heap g.M.Memory.grants c.args.context.now c.args.runtime.now) c.requires.good c.args.entry.address c.args.entry.key
    c.args.entry.value c.args.entry.operands c.requires.known _ c.requires.key c.requires.unmet
    (λ s there. c.requires.inside _ s there.operands) c.name_word-key.result _ named
    (λ s there. (c.requires.inside _ s there.operands).1) made.1)

pub put_planned-requires-clause-possible : goal.put_planned-requires-clause-possible
put_planned-requires-clause-possible g c = λ full.
    let few = c.if-length-ge-CAPACITY_LIMIT.false in
    let words = c.length.ensures.words in
    let plan = rw c.length.ensures.heap at c.plan_put-plan.ensures.words in
    plan_possible (lent_of g.M.Memory.heap g.M.Memory.grants c.args.context.now c.args.runtime.now)
    c.args.entry.address c.name_word-key.result (omega (arith, few, words)) (sym plan ∙ full)

pub returns-then-is_refused-clause-acts : goal.returns-then-is_refused-clause-acts
returns-then-is_refused-clause-acts g c =
    let few = c.if-length-ge-CAPACITY_LIMIT.false in
    let words = c.length.ensures.words in
    let heap = g.M.Memory.heap c.args.runtime.now.memory in
    let made = c.in_ok-form_key.ensures.made refl in
    let l = lent heap (g.M.Memory.grants c.args.runtime.now.memory) c.args.context.now
    c.args.runtime.now.shared in
    let named = formed_as heap c.args.runtime.now.shared.names c.form_key.new.names
    c.args.read.now c.requires.key.held c.len-count.ensures.names c.requires.unmet
    c.in_ok-form_key.ensures.did made.0 c.name_word-key.result c.len-count.result
    c.len-count.ensures.count c.name_word-key.ensures.value c.name_word-key.ensures.word in
    let plan = rw c.length.ensures.heap at c.plan_put-plan.ensures.words in
    let possible : c.plan_put-plan.result ≢ Full = λ full.
    plan_possible l c.args.entry.address c.name_word-key.result (omega (arith, few, words))
    (sym plan ∙ full) in
    let yes = c.is_refused.ensures.yes c.if-is_refused.true in
    let refused = rw (
      c.plan_put-plan.ensures.heap,
      c.plan_put-plan.ensures.grants,
      c.length.ensures.heap,
      c.length.ensures.grants,
    ) at c.refuse.ensures.refused in
    let logs = rw (c.plan_put-plan.ensures.grants, c.length.ensures.grants) at c.refuse.ensures.logs in
    rw (c.refuse.ensures.heap, c.plan_put-plan.ensures.heap, c.length.ensures.heap)
    (unmet_refused l c.requires.good c.args.entry.address c.args.entry.key
    c.args.entry.value c.args.entry.operands c.requires.known _ c.requires.key
    c.requires.unmet (λ s there. c.requires.inside _ s there.operands)
    c.name_word-key.result _ named (λ s there. (c.requires.inside _ s there.operands).1)
    c.args.attempt made.1
    (name_held _ _ _ c.name_word-key.ensures.value heap c.name_word-key.ensures.word)
    c.plan_put-plan.result plan possible yes.0 yes.1 _ logs _ c.len-count.result
    c.len-count.ensures.count c.refuse.result refused)

pub returns-in-Ok-clause-acts : goal.returns-in-Ok-clause-acts
returns-in-Ok-clause-acts g c =
    let heap = g.M.Memory.heap c.args.runtime.now.memory in
    let made = c.in_ok-form_key.ensures.made refl in
    let l = lent heap (g.M.Memory.grants c.args.runtime.now.memory) c.args.context.now
    c.args.runtime.now.shared in
    let named = formed_as heap c.args.runtime.now.shared.names c.form_key.new.names
    c.args.read.now c.requires.key.held c.len-count.ensures.names c.requires.unmet
    c.in_ok-form_key.ensures.did made.0 c.name_word-key.result c.len-count.result
    c.len-count.ensures.count c.name_word-key.ensures.value c.name_word-key.ensures.word in
    let acts = rw (
      c.plan_put-plan.ensures.heap,
      c.plan_put-plan.ensures.grants,
      c.length.ensures.heap,
      c.length.ensures.grants,
    ) at c.in-Ok.ensures.acts in
    unmet_put l c.requires.good c.args.entry.address c.args.entry.key
    c.args.entry.value c.args.entry.operands c.requires.known _ c.requires.key
    c.requires.unmet (λ s there. c.requires.inside _ s there.operands)
    c.name_word-key.result _ named (λ s there. (c.requires.inside _ s there.operands).1)
    c.args.attempt _
    (acts c.args.attempt refl (c.is_refused.ensures.no c.if-is_refused.false)
    (inside_formed l c.requires.good c.args.entry.address c.args.entry.key
    c.args.entry.value c.args.entry.operands c.requires.known _ c.requires.key
    c.requires.unmet (λ s there. c.requires.inside _ s there.operands)
    c.name_word-key.result _ named (λ s there. (c.requires.inside _ s there.operands).1)))

pub returns-in-Err-clause-acts : goal.returns-in-Err-clause-acts
returns-in-Err-clause-acts g c =
    let heap = g.M.Memory.heap c.args.runtime.now.memory in
    let made = c.in_ok-form_key.ensures.made refl in
    let l = lent heap (g.M.Memory.grants c.args.runtime.now.memory) c.args.context.now
    c.args.runtime.now.shared in
    let named = formed_as heap c.args.runtime.now.shared.names c.form_key.new.names
    c.args.read.now c.requires.key.held c.len-count.ensures.names c.requires.unmet
    c.in_ok-form_key.ensures.did made.0 c.name_word-key.result c.len-count.result
    c.len-count.ensures.count c.name_word-key.ensures.value c.name_word-key.ensures.word in
    let acts = rw (
      c.plan_put-plan.ensures.heap,
      c.plan_put-plan.ensures.grants,
      c.length.ensures.heap,
      c.length.ensures.grants,
    ) at c.in-Err.ensures.acts in
    unmet_unmade l c.requires.good c.args.entry.address c.args.entry.key
    c.args.entry.value c.args.entry.operands c.requires.known _ c.requires.key
    c.requires.unmet (λ s there. c.requires.inside _ s there.operands)
    c.name_word-key.result _ named (λ s there. (c.requires.inside _ s there.operands).1)
    c.args.attempt _ c.in-Err.fault c.in-Err.ensures.unmade
    (acts c.args.attempt refl (c.is_refused.ensures.no c.if-is_refused.false)
    (inside_formed l c.requires.good c.args.entry.address c.args.entry.key
    c.args.entry.value c.args.entry.operands c.requires.known _ c.requires.key
    c.requires.unmet (λ s there. c.requires.inside _ s there.operands)
    c.name_word-key.result _ named (λ s there. (c.requires.inside _ s there.operands).1)))
    _ c.len-count.result c.len-count.ensures.count c.truncate.ensures

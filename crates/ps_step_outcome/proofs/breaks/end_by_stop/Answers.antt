-- The error is not new, it can't be told, or it is told.
use Rattle.std.proofs.Common.{◌≡◌, true, sym, ap, ◌∙◌, arith, Some, inl}
use Rattle.ps_language.specs.Access.{dictionary_at}
use Rattle.ps_language.specs.StepErrors.{newerror_key, has_new_error, told}
use Rattle.ps_language.specs.Value.{Store}
use Rattle.ps_mem.specs.Heap.{birth_at}
use Rattle.ps_mem.specs.Shows.{IsWithin}
use Rattle.ps_ops_operands.proofs.Ready.{plain_value, plain_within}
use Rattle.ps_dict.specs.Places.{count_at, capacity_at, first_place}
use Rattle.ps_dict.specs.Puts.{plan_at, plan_from}
use Rattle.ps_dict.proofs.Probing.{few-places}
use Rattle.ps_dict.proofs.Shapes.{count-fits, count-shown, capacity-shown}
use Rattle.ps_ops_state.specs.Lent.{IsShown, lent_of}
use Rattle.ps_step_outcome.proofs.Breaking.{stops_turns, told_turns, untold_reason, unlogged}
use Rattle.ps_step_outcome.proofs.Noting.{named_held, named_within, named_met, newerror_first, logs_asked, logs_changed}
use Rattle.ps_step_outcome.proofs.Told.{holds_told}
use Rattle.ps_step_outcome.proofs.Truths.{none_found}
use Rattle.ps_step_outcome.proofs.breaks.end_by_stop.Goals as goal

pub position-requires-clause-held : goal.position-requires-clause-held
position-requires-clause-held g c = named_held _ _ _ c.error_keys-keys.ensures.newerror

pub returns-in_default : goal.returns-in_default
returns-in_default g c =
    let names = c.args.runtime.now.shared.names in
    let births = birth_at (g.M.Memory.heap c.args.runtime.now.memory) in
    let met = c.requires.good.first in
    let key = c.error_keys-keys.ensures.newerror in
    rw (c.position.ensures.heap, c.position.ensures.grants)
    (stops_turns c.args.attempt _ c.requires.good c.requires.last
    (λ s shown. none_found _ (sym c.in_default.is
    ∙ (c.position.ensures.value names s shown.shows c.requires.good.names.different
    (named_within names met births _ _ _ key newerror_first s)
    ∙ ap (first_place (dictionary_at s (births c.args.context.now.error_dictionary)).pairs)
    (named_met names met births _ _ _ key newerror_first)))))

pub returns-then-not-has_new_error : goal.returns-then-not-has_new_error
returns-then-not-has_new_error g c =
    let new = rw c.position.ensures.heap at c.has_new_error.ensures.value in
    rw (
      c.has_new_error.ensures.heap ∙ c.position.ensures.heap,
      c.has_new_error.ensures.grants ∙ c.position.ensures.grants,
    )
    (stops_turns c.args.attempt _ c.requires.good c.requires.last
    (λ s shown. sym (new c.args.runtime.now.shared.names s c.requires.good.first c.requires.good.names.different
    shown.shows) ∙ c.if-not-has_new_error.true))

pub returns-in-Err : goal.returns-in-Err
returns-in-Err g c =
    let new = rw c.position.ensures.heap at c.has_new_error.ensures.value in
    let grants = c.has_new_error.ensures.grants ∙ c.position.ensures.grants in
    let permit = c.permit_records.ensures in
    let news : (s : Store) → IsShown (lent_of g.M.Memory.heap g.M.Memory.grants c.args.context.now c.args.runtime.now) s
    → has_new_error (dictionary_at s (birth_at (g.M.Memory.heap c.args.runtime.now.memory)
    c.args.context.now.error_dictionary)) ≡ true = λ s shown.
    sym (new c.args.runtime.now.shared.names s c.requires.good.first c.requires.good.names.different shown.shows)
    ∙ c.if-not-has_new_error.false in
    rw (permit.heap ∙ (c.has_new_error.ensures.heap ∙ c.position.ensures.heap))
    (untold_reason c.args.attempt _ c.requires.good c.requires.last news _ _ c.in-Err.reason
    (λ s shown. unlogged c.args.attempt _ c.requires.good c.requires.last news
    (g.M.Memory.grants c.permit_records.new.memory) s c.in-Err.reason
    (rw grants at c.in-Err.ensures.reason))
    (omega arith)
    (logs_asked c.args.attempt.slot _ _ (rw grants at permit.kept) (rw grants at permit.others)
    (rw grants at permit.more)))

pub returns-in-Err-print_line : goal.returns-in-Err-print_line
returns-in-Err-print_line g c =
    let new = rw c.position.ensures.heap at c.has_new_error.ensures.value in
    let grants = c.has_new_error.ensures.grants ∙ c.position.ensures.grants in
    let permit = c.permit_records.ensures in
    let there = permit.heap ∙ (c.has_new_error.ensures.heap ∙ c.position.ensures.heap) in
    let line = rw there at c.in-Err-print_line.ensures.prints in
    let more = rw c.in-Err-print_line.ensures.err
    at c.in-Err-print_line.ensures.bounded.capacity in
    rw (
      c.in-Err-print_line.ensures.heap ∙ there,
      c.in-Err-print_line.ensures.grants,
      c.in-Err-print_line.ensures.bounded.most,
      c.in-Err-print_line.ensures.err,
    )
    (untold_reason c.args.attempt _ c.requires.good c.requires.last
    (λ s shown. sym (new c.args.runtime.now.shared.names s c.requires.good.first c.requires.good.names.different
    shown.shows) ∙ c.if-not-has_new_error.false)
    _ _ _
    (λ s shown. inl ((line s c.requires.good.first c.requires.good.names.different shown.shows).full))
    (omega (arith, more))
    (logs_asked c.args.attempt.slot _ _ (rw grants at permit.kept) (rw grants at permit.others)
    (rw grants at permit.more)))

pub put-requires-clause-plan : goal.put-requires-clause-plan
unfolding plan_at
put-requires-clause-plan g c =
    let there =
    c.in-Ok-print_line.ensures.heap
    ∙ (c.permit_records.ensures.heap ∙ (c.has_new_error.ensures.heap ∙ c.position.ensures.heap)) in
    let h = g.M.Memory.heap c.args.runtime.now.memory in
    let address = c.args.context.now.error_dictionary in
    rw there (ap (λ place. plan_from place (count_at h address) (capacity_at h address))
    (sym c.in-Some.is ∙ c.position.ensures.words))

pub put-requires-clause-key : goal.put-requires-clause-key
put-requires-clause-key g c = named_held _ _ _ c.error_keys-keys.ensures.newerror

pub put-requires-clause-value : goal.put-requires-clause-value
put-requires-clause-value g c = plain_value _ _ c.boolean.ensures.plain

pub returns : goal.returns
returns g c =
    let h = g.M.Memory.heap c.args.runtime.now.memory in
    let names = c.args.runtime.now.shared.names in
    let births = birth_at h in
    let address = c.args.context.now.error_dictionary in
    let first = c.requires.good.first in
    let distinct = c.requires.good.names.different in
    let known = c.requires.good.error_stands.stands in
    let sound = c.requires.good.sound in
    let key = c.error_keys-keys.ensures.newerror in
    let new = rw c.position.ensures.heap at c.has_new_error.ensures.value in
    let grants = c.has_new_error.ensures.grants ∙ c.position.ensures.grants in
    let permit = c.permit_records.ensures in
    let before = permit.heap ∙ (c.has_new_error.ensures.heap ∙ c.position.ensures.heap) in
    let there = c.in-Ok-print_line.ensures.heap ∙ before in
    let line = rw before at c.in-Ok-print_line.ensures.prints in
    let key_within : (s : Store) → IsWithin births names s c.error_keys-keys.result.newerror = λ s.
    named_within names first births _ _ _ key newerror_first s in
    rw c.in-Ok-print_line.ensures.bounded.most
    (told_turns c.args.attempt _ c.requires.good c.requires.last
    (λ s shown. sym (new names s first distinct shown.shows) ∙ c.if-not-has_new_error.false)
    _ _ _ _ (rw there at c.put.ensures.keeps) c.put.ensures.sound
    c.in-Ok-print_line.ensures.bounded.capacity
    (logs_changed c.args.attempt.slot _ _ (rw grants at permit.kept) (rw grants at permit.others)
    (rw grants at permit.more) _ 1 (rw c.in-Ok-print_line.ensures.grants at c.put.ensures.grants))
    (λ s shown. (line s first distinct shown.shows).ok)
    (λ s shown.
    let d = dictionary_at s (births address) in
    let place : first_place d.pairs newerror_key ≡ Some c.in-Some.place =
    ap (first_place d.pairs) (sym (named_met names first births _ _ _ key newerror_first))
    ∙ (sym (c.position.ensures.value names s shown.shows distinct (key_within s))
    ∙ c.in-Some.is) in
    let count = count-shown h address known sound names s shown.shows in
    let capacity = capacity-shown h address known sound names s shown.shows in
    let fit = count-fits h address known sound in
    let few = few-places h address known sound in
    (rw there at c.put.ensures.shows) names s shown.shows distinct (key_within s)
    (plain_within _ _ s _ c.boolean.ensures.plain) (told d)
    (rw (
      named_met names first births _ _ _ key newerror_first,
      c.boolean.ensures.value births names,
    )
    (holds_told d c.in-Some.place place (omega (arith, count, capacity, fit))
    (omega (arith, capacity, few))))))

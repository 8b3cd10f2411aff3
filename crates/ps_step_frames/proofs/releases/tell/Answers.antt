-- It can't be logged, it can't be told, or it is told and the lock is freed.
use Rattle.std.proofs.Common.{◌≡◌, true, refl, sym, ap, subst, ◌∙◌, arith, Some, None}
use Rattle.ps_language.specs.Access.{dictionary_at, with_dictionary}
use Rattle.ps_language.specs.Owners.{with_owner}
use Rattle.ps_language.specs.StepErrors.{newerror_key, told}
use Rattle.ps_language.specs.Value.{Store}
use Rattle.ps_mem.specs.Heap.{birth_at}
use Rattle.ps_mem.specs.Keeps.{Keeps}
use Rattle.ps_mem.specs.Shows.{IsWithin, Shows}
use Rattle.ps_mem.proofs.KeepsLemmas.{Keeps-then, birth_at-kept, stands-kept}
use Rattle.ps_ops_operands.proofs.Ready.{plain_value, plain_within}
use Rattle.ps_dict.specs.Places.{count_at, capacity_at, first_place}
use Rattle.ps_dict.specs.Puts.{plan_at, plan_from}
use Rattle.ps_dict.proofs.Granted.{store-used, then-used}
use Rattle.ps_dict.proofs.Probing.{few-places}
use Rattle.ps_dict.proofs.Shapes.{count-fits, count-shown, capacity-shown}
use Rattle.ps_ops_control.specs.declared.frames.Cause.TheVariants.{Stop}
use Rattle.ps_ops_state.specs.Lent.{Lent, lent_of}
use Rattle.ps_step_outcome.proofs.Noting.{named_held, named_within, named_met, newerror_first, logs_asked, logs_changed}
use Rattle.ps_step_outcome.proofs.Told.{holds_told}
use Rattle.ps_step_frames.proofs.Releasing.{release_unmade}
use Rattle.ps_step_frames.proofs.Telling.{is_told_here, line_lacks, told_release}
use Rattle.ps_step_frames.proofs.releases.tell.Goals as goal

pub returns-in-Err : goal.returns-in-Err
returns-in-Err g c =
    let l : Lent = lent_of g.M.Memory.heap g.M.Memory.grants c.args.context.now c.args.runtime.now in
    let permit = c.permit_records.ensures in
    rw permit.heap
    (release_unmade l c.requires.good c.args.lock c.requires.known c.args.attempt Stop true
    (λ s shown. is_told_here l c.requires.good c.args.lock c.requires.known c.args.attempt
    c.requires.last (λ t held. c.requires.new l.names t c.requires.good.first
    c.requires.good.names.different held.shows) s shown)
    _ (logs_asked c.args.attempt.slot _ _ permit.kept permit.others permit.more)
    c.in-Err.reason 2 (omega arith) refl c.in-Err.ensures.reason)

pub returns-in-Err-print_line : goal.returns-in-Err-print_line
returns-in-Err-print_line g c =
    let l : Lent = lent_of g.M.Memory.heap g.M.Memory.grants c.args.context.now c.args.runtime.now in
    let permit = c.permit_records.ensures in
    let line = rw permit.heap at c.in-Err-print_line.ensures.prints in
    let more = rw c.in-Err-print_line.ensures.err
    at c.in-Err-print_line.ensures.bounded.capacity in
    rw (
      c.in-Err-print_line.ensures.heap ∙ permit.heap,
      c.in-Err-print_line.ensures.grants,
      c.in-Err-print_line.ensures.bounded.most,
      c.in-Err-print_line.ensures.err,
    )
    (line_lacks l c.requires.good c.args.lock c.requires.known c.args.attempt c.requires.last
    (λ t held. c.requires.new l.names t c.requires.good.first c.requires.good.names.different held.shows)
    _ _ (omega (arith, more))
    (logs_asked c.args.attempt.slot _ _ permit.kept permit.others permit.more)
    (λ s shown. (line s c.requires.good.first c.requires.good.names.different shown.shows).full))

pub put-requires-clause-plan : goal.put-requires-clause-plan
unfolding plan_at
put-requires-clause-plan g c =
    let there = c.in-Ok-print_line.ensures.heap ∙ c.permit_records.ensures.heap in
    let h = g.M.Memory.heap c.args.runtime.now.memory in
    let address = c.args.context.now.error_dictionary in
    rw there (ap (λ place. plan_from place (count_at h address) (capacity_at h address))
    c.requires.words)

pub put-requires-clause-key : goal.put-requires-clause-key
put-requires-clause-key g c = named_held _ _ _ c.requires.key

pub put-requires-clause-value : goal.put-requires-clause-value
put-requires-clause-value g c = plain_value _ _ c.boolean.ensures.plain

pub free_lock-requires-clause-known : goal.free_lock-requires-clause-known
free_lock-requires-clause-known g c =
    let there = c.in-Ok-print_line.ensures.heap ∙ c.permit_records.ensures.heap in
    stands-kept (g.M.Memory.heap c.args.runtime.now.memory) _ (rw there at c.put.ensures.keeps) _
    c.args.lock _ c.requires.known

pub returns : goal.returns
returns g c =
    let l : Lent = lent_of g.M.Memory.heap g.M.Memory.grants c.args.context.now c.args.runtime.now in
    let h = g.M.Memory.heap c.args.runtime.now.memory in
    let mid = g.M.Memory.heap c.put.new.memory in
    let last = g.M.Memory.heap c.free_lock.new.memory in
    let names = c.args.runtime.now.shared.names in
    let births = birth_at h in
    let address = c.args.context.now.error_dictionary in
    let first = c.requires.good.first in
    let distinct = c.requires.good.names.different in
    let known = c.requires.good.error_stands.stands in
    let sound = c.requires.good.sound in
    let key = c.requires.key in
    let permit = c.permit_records.ensures in
    let there = c.in-Ok-print_line.ensures.heap ∙ permit.heap in
    let line = rw permit.heap at c.in-Ok-print_line.ensures.prints in
    let keeps_put : Keeps h mid = rw there at c.put.ensures.keeps in
    let same_birth = birth_at-kept h mid keeps_put c.args.lock c.requires.known.object
    c.requires.known.at in
    let key_within : (s : Store) → IsWithin births names s c.args.newerror = λ s.
    named_within names first births _ _ _ key newerror_first s in
    rw c.in-Ok-print_line.ensures.bounded.most
    (told_release l c.requires.good c.args.lock c.requires.known c.args.attempt c.requires.last
    (λ t held. c.requires.new l.names t first distinct held.shows) _ _ _ _
    (Keeps-then h mid last keeps_put c.free_lock.ensures.keeps) c.free_lock.ensures.sound
    c.in-Ok-print_line.ensures.bounded.capacity
    (logs_changed c.args.attempt.slot _ _ permit.kept permit.others permit.more _ 2
    (then-used _ _ _ c.args.attempt.slot 1 1 0 0
    (rw c.in-Ok-print_line.ensures.grants at c.put.ensures.grants)
    (store-used _ _ _ c.free_lock.ensures.grants)))
    (λ s shown. (line s first distinct shown.shows).ok)
    (λ s shown.
    let d = dictionary_at s (births address) in
    let place : first_place d.pairs newerror_key ≡ Some c.args.place =
    sym (c.requires.place names s first distinct shown.shows) in
    let count = count-shown h address known sound names s shown.shows in
    let capacity = capacity-shown h address known sound names s shown.shows in
    let fit = count-fits h address known sound in
    let few = few-places h address known sound in
    let put_shown : Shows mid names (with_dictionary s (births address) (told d)) =
    (rw there at c.put.ensures.shows) names s shown.shows distinct (key_within s)
    (plain_within _ _ s _ c.boolean.ensures.plain) (told d)
    (rw (
      named_met names first births _ _ _ key newerror_first,
      c.boolean.ensures.value births names,
    )
    (holds_told d c.args.place place (omega (arith, count, capacity, fit))
    (omega (arith, capacity, few)))) in
    subst (λ b. Shows last names (with_owner (with_dictionary s (births address) (told d)) b None))
    same_birth (c.free_lock.ensures.shows names _ put_shown)))

-- Its records are not granted, its line has no room, or it has ended.
use Rattle.std.proofs.Common.{ℕ, ◌<◌, ◌++◌, arith, false, List, length, subst, ◌∙◌}
use Rattle.ps_language.specs.Access.{dictionary_at, with_dictionary}
use Rattle.ps_mem.specs.Heap.{birth_at}
use Rattle.ps_mem.specs.Shows.{Shows}
use Rattle.ps_dict.specs.Entries.{with_entries}
use Rattle.ps_step_outcome.specs.Ends.{planned_line}
use Rattle.ps_step_outcome.proofs.Noting.{logs_asked, logs_noted}
use Rattle.ps_step_outcome.proofs.Raising.{not_raised}
use Rattle.ps_step_outcome.proofs.Ended.{ended_on, not_ended}
use Rattle.ps_step_outcome.proofs.Valued.{name_valued, command_valued, plan_valued}
use Rattle.ps_step_outcome.proofs.ends.end_by_error.Goals as goal

pub returns-in-Err : goal.returns-in-Err
returns-in-Err g c =
    not_raised c.args.error c.args.command c.args.attempt _ c.requires.good _ _ _
    ((rw c.in-Err.is at c.permit_note.ensures.reason) c.args.error c.args.command _)

pub returns-in-Err-print_line : goal.returns-in-Err-print_line
returns-in-Err-print_line g c =
    let permit = c.permit_note.ensures in
    let entries = c.entries_of-entries.ensures in
    let names = c.args.runtime.now.shared.names in
    let births = birth_at (g.M.Memory.heap c.args.runtime.now.memory) in
    let planned = rw permit.heap at c.plan_error-plan.ensures.value in
    let heap = c.plan_error-plan.ensures.heap ∙ permit.heap in
    let line = rw heap at c.in-Err-print_line.ensures.prints in
    let first = c.requires.good.first in
    let valued = entries.values births names first in
    let more = rw c.in-Err-print_line.ensures.err
    at c.in-Err-print_line.ensures.bounded.capacity in
    rw (
      c.in-Err-print_line.ensures.heap ∙ heap,
      c.in-Err-print_line.ensures.grants
          ∙ c.plan_error-plan.ensures.grants,
      c.in-Err-print_line.ensures.bounded.most,
      c.in-Err-print_line.ensures.err,
    )
    (not_ended c.args.error c.args.command c.args.attempt _ c.requires.good c.requires.last
    c.plan_error-plan.result
    (λ s held. planned names s held.shown.shows c.requires.good.names.different
    (entries.within _ names s first held.words_within.0)
    ∙ plan_valued births names c.entries_of-entries.result false c.args.error _ valued _)
    _ _
    (λ s held. subst (λ (text : List ℕ). c.args.runtime.now.shared.printed.room < length text)
    (λ i. planned_line s c.plan_error-plan.result
    (name_valued births names c.entries_of-entries.result false c.args.error _ valued i)
    (command_valued births names c.entries_of-entries.result false c.args.error _ valued i))
    (line s held.shown.shows (entries.within _ names s first held.words_within.0)).full)
    (omega (arith, more))
    (logs_asked c.args.attempt.slot _ _ permit.kept permit.others permit.more))

pub returns : goal.returns
returns g c =
    let permit = c.permit_note.ensures in
    let entries = c.entries_of-entries.ensures in
    let names = c.args.runtime.now.shared.names in
    let h = g.M.Memory.heap c.args.runtime.now.memory in
    let births = birth_at h in
    let planned = rw permit.heap at c.plan_error-plan.ensures.value in
    let heap = c.plan_error-plan.ensures.heap ∙ permit.heap in
    let there = c.in-Ok-print_line.ensures.heap ∙ heap in
    let line = rw heap at c.in-Ok-print_line.ensures.prints in
    let grants = c.in-Ok-print_line.ensures.grants ∙ c.plan_error-plan.ensures.grants in
    let first = c.requires.good.first in
    let valued = entries.values births names first in
    rw c.in-Ok-print_line.ensures.bounded.most
    (ended_on c.args.error c.args.command c.args.attempt _ c.requires.good c.requires.last
    c.plan_error-plan.result
    (λ s held. planned names s held.shown.shows c.requires.good.names.different
    (entries.within _ names s first held.words_within.0)
    ∙ plan_valued births names c.entries_of-entries.result false c.args.error _ valued _)
    _ _ _ _ (rw there at c.put_error.ensures.keeps)
    (λ s held. (line s held.shown.shows (entries.within _ names s first held.words_within.0)).ok
    ∙ (λ i. c.args.runtime.now.shared.printed.bytes ++ planned_line s c.plan_error-plan.result
    (name_valued births names c.entries_of-entries.result false c.args.error _ valued i)
    (command_valued births names c.entries_of-entries.result false c.args.error _ valued i)))
    (λ s held. subst (λ pairs. Shows (g.M.Memory.heap c.put_error.new.memory) names
    (with_dictionary s (births c.args.context.now.error_dictionary) (with_entries pairs
    (dictionary_at s (births c.args.context.now.error_dictionary))))) valued
    ((rw there at c.put_error.ensures.shows) names s held.shown.shows c.requires.good.names.different
    (entries.within _ names s first held.words_within.0)))
    (logs_noted c.args.attempt.slot _ _ permit.kept permit.others permit.more _
    c.plan_error-plan.result (rw grants at c.put_error.ensures.grants))
    c.put_error.ensures.sound c.in-Ok-print_line.ensures.bounded.capacity c.stands.result c.stands.ensures)

use Rattle.std.proofs.Common.{◌≡◌, ◌+◌, ◌-◌, ◌∙◌, refl, sym, ap, arith, true≢false, false, List, [], ◌∷◌, ◌++◌}
use Rattle.ps_language.specs.declared.schedules.Entry.{Entry}
use Rattle.ps_language.specs.Schedules.{plain_move}
use Rattle.ps_run_schedules.specs.Keeping.{Kept}
use Rattle.ps_run_schedules.specs.Packing.{entries_in}
use Rattle.ps_run_schedules.specs.Turns.{joins_last}
use Rattle.ps_run_schedules.proofs.Appends.{none_yet}
use Rattle.ps_run_schedules.proofs.Turning.{times_none, turn_apart, turn_fits, joins_as, open_behind}
use Rattle.ps_run_schedules.proofs.Turning.{free_within, free_left}
use Rattle.ps_run_schedules.proofs.packed.Schedule.note_turn.Goals as goal

pub returns-then-steps-eq0-clause-added : goal.returns-then-steps-eq0-clause-added
returns-then-steps-eq0-clause-added c =
    times_none c.args.steps c.args.self.now.items (plain_move c.args.context) c.if-steps-eq0.true

pub returns-in_default-clause-added : goal.returns-in_default-clause-added
returns-in_default-clause-added c =
    let old = c.args.self.now.items in
    let empty : old ≡ [] = sym (rw c.in_default.is at (ap (λ (kept : Kept). kept.items) c.self.view_is))
    ∙ none_yet c.self.inside.count c.self.inside.bytes.items (rw c.in_default.is at c.self.invariant) in
    let test : joins_last old c.args.context ≡ false = rw empty refl in
    c.push.ensures.items
    ∙ (ap (λ (entry : Entry). old ++ entry ∷ []) c.plain_entry.ensures
    ∙ turn_apart old c.args.context c.args.steps test (omega (arith, c.if-steps-eq0.false))
    (omega (arith, c.ranges.steps.fits)))

pub returns-then-not-joins-clause-added : goal.returns-then-not-joins-clause-added
returns-then-not-joins-clause-added c =
    let old = c.args.self.now.items in
    let is = sym (rw c.in-Some.is at (ap (λ (kept : Kept). kept.items) c.self.view_is)) in
    let test = joins_as old _ c.in-Some.last c.args.context is
    ∙ (sym c.joins.ensures ∙ c.if-not-joins.true) in
    c.push-then-not-joins.ensures.items
    ∙ (ap (λ (entry : Entry). old ++ entry ∷ []) c.plain_entry-then-not-joins.ensures
    ∙ turn_apart old c.args.context c.args.steps test (omega (arith, c.if-steps-eq0.false))
    (omega (arith, c.ranges.steps.fits)))

pub returns-then-not-joins-clause-joined : goal.returns-then-not-joins-clause-joined
returns-then-not-joins-clause-joined c = λ joined.
    let is = sym (rw c.in-Some.is at (ap (λ (kept : Kept). kept.items) c.self.view_is)) in
    absurd (true≢false (sym joined
    ∙ (joins_as c.args.self.now.items _ c.in-Some.last c.args.context is
    ∙ (sym c.joins.ensures ∙ c.if-not-joins.true))))

pub returns-then-not-joins-clause-open : goal.returns-then-not-joins-clause-open
returns-then-not-joins-clause-open c = λ some few.
    let old = c.args.self.now.items in
    let most = free_within old c.args.context in
    open_behind c.push-then-not-joins.new.self.items old c.args.context c.args.steps
    (c.push-then-not-joins.ensures.items
    ∙ ap (λ (entry : Entry). old ++ entry ∷ []) c.plain_entry-then-not-joins.ensures)
    (omega (arith, few, most))

pub returns-clause-added : goal.returns-clause-added
returns-clause-added c =
    let is = sym (rw c.in-Some.is at (ap (λ (kept : Kept). kept.items) c.self.view_is)) in
    let test = joins_as c.args.self.now.items _ c.in-Some.last c.args.context is
    ∙ (sym c.joins.ensures ∙ c.if-not-joins.false) in
    let left = free_left c.args.self.now.items _ c.in-Some.last c.args.context is
    (sym c.joins.ensures ∙ c.if-not-joins.false) in
    let before : List Entry = (entries_in (c.self.inside.count - 1) c.self.inside.bytes.items).0 in
    ap (λ (entry : Entry). before ++ entry ∷ []) c.plain_entry-2.ensures
    ∙ turn_fits c.args.self.now.items _ c.in-Some.last c.args.context c.args.steps is test
    (omega (arith, left, c.requires.fits))

pub returns-clause-open : goal.returns-clause-open
returns-clause-open c = λ some few.
    let is = sym (rw c.in-Some.is at (ap (λ (kept : Kept). kept.items) c.self.view_is)) in
    let left = free_left c.args.self.now.items _ c.in-Some.last c.args.context is
    (sym c.joins.ensures ∙ c.if-not-joins.false) in
    let before : List Entry = (entries_in (c.self.inside.count - 1) c.self.inside.bytes.items).0 in
    open_behind (before ++ c.plain_entry-2.result ∷ []) before c.args.context
    (c.in-Some.last.steps + c.args.steps)
    (ap (λ (entry : Entry). before ++ entry ∷ []) c.plain_entry-2.ensures)
    (omega (arith, left, few))

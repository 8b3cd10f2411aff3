use Rattle.std.proofs.Common.{◌∙◌, sym, ap, true≢false, List, [], ◌∷◌, ◌++◌}
use Rattle.ps_language.specs.declared.schedules.Entry.{Entry}
use Rattle.ps_language.specs.Schedules.{single}
use Rattle.ps_run_schedules.specs.Keeping.{Kept}
use Rattle.ps_run_schedules.specs.Turns.{move_of}
use Rattle.ps_run_schedules.proofs.Notes.{note_joined, note_apart}
use Rattle.ps_run_schedules.proofs.Turning.{joins_as}
use Rattle.ps_run_schedules.proofs.packed.Schedule.note.Goals as goal

pub returns-then-not-joins-clause-added : goal.returns-then-not-joins-clause-added
returns-then-not-joins-clause-added c =
    let move = move_of c.args.context c.args.refused c.args.shown in
    let old = c.args.self.now.items in
    let is = sym (rw c.in-Some.is at (ap (λ (kept : Kept). kept.items) c.self.view_is)) in
    c.push-then-not-joins.ensures.items
    ∙ (ap (λ (entries : List Entry). entries ++ single move ∷ []) is
    ∙ note_apart old _ c.in-Some.last move is (sym c.joins.ensures ∙ c.if-not-joins.true))

pub returns-then-not-joins-clause-joined : goal.returns-then-not-joins-clause-joined
returns-then-not-joins-clause-joined c = λ joined.
    let is = sym (rw c.in-Some.is at (ap (λ (kept : Kept). kept.items) c.self.view_is)) in
    absurd (true≢false (sym joined
    ∙ (joins_as c.args.self.now.items _ c.in-Some.last c.args.context is
    ∙ (sym c.joins.ensures ∙ c.if-not-joins.true))))

pub returns-clause-added : goal.returns-clause-added
returns-clause-added c =
    let is = sym (rw c.in-Some.is at (ap (λ (kept : Kept). kept.items) c.self.view_is)) in
    note_joined c.args.self.now.items _ c.in-Some.last
    (move_of c.args.context c.args.refused c.args.shown) is
    (sym c.joins.ensures ∙ c.if-not-joins.false)

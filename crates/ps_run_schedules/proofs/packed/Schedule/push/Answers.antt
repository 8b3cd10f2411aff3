use Rattle.std.proofs.Common.{ℕ, ◌∙◌, ap, arith, List, [], ◌∷◌, ◌++◌, length, length-append}
use Rattle.ps_language.specs.declared.schedules.Entry.{Entry}
use Rattle.ps_run_schedules.specs.Keeping.{Kept}
use Rattle.ps_run_schedules.proofs.Appends.{count_is, packed_more, items_more}
use Rattle.ps_run_schedules.proofs.packed.Schedule.push.Goals as goal

pub push_entry-requires : goal.push_entry-requires
push_entry-requires c =
    let inside = c.self.inside in
    let size = count_is inside.count inside.bytes.items inside.last c.self.invariant in
    let same = ap {B = ℕ} (λ (kept : Kept). length kept.items) c.self.view_is in
    let room = ap {B = ℕ} (λ (kept : Kept). kept.capacity) c.self.view_is in
    omega (arith, size, same, room, c.requires.room)

pub invariant_of-self-2 : goal.invariant_of-self-2
invariant_of-self-2 c =
    packed_more c.self.inside.count c.self.inside.bytes.items c.push_entry.new.bytes.items
    c.in-Some.last c.args.entry (rw c.in-Some.is at c.self.invariant) c.push_entry.ensures.written

pub returns-clause-items : goal.returns-clause-items
returns-clause-items c =
    items_more c.self.inside.count c.self.inside.bytes.items c.push_entry.new.bytes.items
    c.in-Some.last c.args.entry (rw c.in-Some.is at c.self.invariant) c.push_entry.ensures.written
    ∙ ap (λ (entries : List Entry). entries ++ c.args.entry ∷ [])
    (rw c.in-Some.is at (ap (λ (kept : Kept). kept.items) c.self.view_is))

pub returns-clause-most : goal.returns-clause-most
returns-clause-most c =
    let inside = c.self.inside in
    let size = count_is inside.count inside.bytes.items inside.last c.self.invariant in
    let same = ap {B = ℕ} (λ (kept : Kept). length kept.items) c.self.view_is in
    let left = ap {B = ℕ} (λ (kept : Kept). kept.left) c.self.view_is in
    let more = ap {B = ℕ} (λ (entries : List Entry). length entries) (returns-clause-items c) in
    let sum = length-append c.args.self.now.items (c.args.entry ∷ []) in
    omega (arith, size, same, left, more, sum, c.requires.few)

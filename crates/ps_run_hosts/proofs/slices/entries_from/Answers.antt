-- The next is passed over, or none is left.
use Rattle.std.proofs.Common.{◌≡◌, ℕ, ◌≤◌, ◌∙◌, false, None, [], ap, sym, arith, length, drop}
use Rattle.std.proofs.lemmas.List.{drop_all, length-drop}
use Rattle.ps_language.specs.declared.schedules.Entry.{Entry}
use Rattle.ps_run_hosts.proofs.Rooms.{next_of}
use Rattle.ps_run_hosts.proofs.slices.entries_from.Goals as goal

-- what is past the end
abbrev none : Entry
none = record { context = 0; steps = 0; refused = false; shown = None }

pub loop-place-preserved : goal.loop-place-preserved
loop-place-preserved c =
    let at = c.loop-place.invariant in
    let next = next_of c.args.entries c.next.new.self c.loop-place.place c.in-Some._passed none
    (sym at.left ∙ c.in-Some.ensures) in
    record { left = sym next.behind; within = omega (arith, next.less) }

pub returns-in_default : goal.returns-in_default
returns-in_default c =
    let at = c.loop-place.invariant in
    let none_left : drop c.loop-place.place c.args.entries ≡ [] = sym at.left ∙ c.in_default.ensures.0 in
    let few : length c.args.entries ≤ c.args.from =
    let size = ap length none_left in let left = length-drop c.loop-place.place c.args.entries in
    let before = c.loop-place-test.true in omega (arith, size, left, before) in
    c.in_default.ensures.1 ∙ sym (drop_all c.args.from c.args.entries few)

pub returns : goal.returns
returns c =
    let at = c.loop-place.invariant in
    let over : c.loop-place.place ≡ c.args.from =
    omega (arith, c.loop-place-test.false, c.loop-place.auto.place-end) in
    at.left ∙ ap (λ (n : ℕ). drop n c.args.entries) over

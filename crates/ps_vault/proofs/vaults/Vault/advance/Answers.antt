-- So many steps more of the schedule, and the one behind them.
use Rattle.std.proofs.Common.{◌≡◌, ◌≤◌, ◌<◌, ℕ, ℤ, Bool, false, true, List, Option, Some, None, Ok, Err, refl, sym, ap, subst, ◌∙◌, ◌+◌, length, arith}
use Rattle.std.specs.List.{list_all}
use Rattle.ps_language.specs.declared.schedules.Entry.{Entry}
use Rattle.ps_language.specs.Effect as effect
use Rattle.ps_language.specs.Effect.{turn_ends}
use Rattle.ps_language.specs.Locks.{is_ready}
use Rattle.ps_language.specs.Schedules.{Move, plain_move, count_of, moves}
use Rattle.ps_language.specs.Worlds.{starting_world, world}
use Rattle.ps_language.proofs.ScheduleLaws.{count_of-added}
use Rattle.ps_ctx.specs.declared.notes.Note.{Note}
use Rattle.ps_ctx.specs.Steps.{shown_words}
use Rattle.ps_run_schedules.specs.Keeping.{Kept, MayAdd}
use Rattle.ps_run_schedules.specs.Turns.{added_times, free_steps, move_of}
use Rattle.ps_vault.specs.Holds.{wish_in}
use Rattle.ps_vault.specs.Order.{IsOnlyLeft, AddsSteps, NoneEnds, AllOfOne, OnlyLastMayEnd, IsNoEnd, IsNoWish, AllTell, WishesLast, WishesAs}
use Rattle.ps_vault.specs.Reports.{are_words, fits, is_ordinary}
use Rattle.ps_vault.specs.Warrants.{AddsShown, AllWarranted}
use Rattle.ps_vault.specs.Stories.{AreWarranted, Story, kept_of, world_at}
use Rattle.ps_vault.proofs.Following.{times_noted}
use Rattle.ps_mem.specs.Heap.{Space}
use Rattle.ps_vault.proofs.Keeping.{caller_there, kept_same, may_step}
use Rattle.ps_vault.proofs.Reasons.{for_room}
use Rattle.ps_vault.proofs.Noting.{HasNoted, may_note, longer_noted}
use Rattle.ps_vault.proofs.Advancing.{keeps_made, count_times, move_fits, all_added, all_times, some_made, tell_made, nothing_ends, nothing_wishes, ends_noted, ends_told, wish_noted, no_wish_noted, last_made, alone_made, same_space, warranted_made}
use Rattle.ps_vault.proofs.Behind.{tell_mid, tell_behind, others_behind, keeps_behind, ends_behind, keeps_held, held_behind, last_mid, shown_behind, alone_mid, alone_behind, left_held, same_space_behind, warranted_held, warranted_behind, words_behind}
use Rattle.ps_vault.proofs.Showing.{kept_none}
use Rattle.ps_vault.proofs.Ordering.{adds_times, adds_one, adds_more}
use Rattle.ps_vault.proofs.vaults.Vault.advance.Given as givens
use Rattle.ps_vault.proofs.vaults.Vault.advance.Goals as goal
use Rattle.ps_vault.proofs.vaults.Vault.advance.Goals.{After-go_on-made, After-note_turn, After-note}

-- ---- the steps that were made

pub go_on-made-requires-clause-there : goal.go_on-made-requires-clause-there
go_on-made-requires-clause-there g c =
    caller_there _ c.self.inside.schedule.items c.args.context c.self.invariant
    (ap (λ (s : Story). is_ready (world_at s) c.args.context) c.self.view_is ∙ c.requires.ready)
    (may_step _ _ c.args.context (ap (λ (s : Story). s.caller) c.self.view_is) c.requires.calling)

-- the context was ready before them
ready_before : (g : givens.Over) (c : After-go_on-made g)
    → is_ready (world c.self.inside.runtime.shared.program.now
    c.self.inside.schedule.items) c.args.context ≡ true
ready_before g c =
    ap (λ (s : Story). is_ready (world_at s) c.args.context) c.self.view_is ∙ c.requires.ready

noted : (g : givens.Over) (c : After-note_turn g)
    → c.note_turn.new.self.items
    ≡ added_times c.go_on-made.result.made c.args.self.now.schedule (plain_move c.args.context)
noted g c = c.note_turn.ensures.added
    ∙ ap (λ (s : Story). added_times c.go_on-made.result.made s.schedule
    (plain_move c.args.context)) c.self.view_is

counted : (g : givens.Over) (c : After-note_turn g)
    → count_of c.note_turn.new.self.items
    ≡ count_of c.args.self.now.schedule + c.go_on-made.result.made
counted g c = ap count_of (noted g c)
    ∙ count_times c.go_on-made.result.made c.args.self.now.schedule (plain_move c.args.context)

-- what holds of an ordinary step goes on to hold of all
each : (g : givens.Over) (c : After-note_turn g) (test : Move → Bool)
    → test (plain_move c.args.context) ≡ true
    → list_all test (moves c.args.self.now.schedule) ≡ true
    → list_all test (moves c.note_turn.new.self.items) ≡ true
each g c test one before =
    ap (λ (entries : List Entry). list_all test (moves entries)) (noted g c)
    ∙ all_times test c.go_on-made.result.made c.args.self.now.schedule
    (plain_move c.args.context) one before

plain_fits : (g : givens.Over) (c : After-note_turn g) → fits (plain_move c.args.context) ≡ true
plain_fits g c =
    move_fits c.args.context false None (let few = c.ranges.context.fits in omega (arith, few)) refl

takes : (g : givens.Over) (c : After-note_turn g)
    → AddsSteps c.args.context c.go_on-made.result.made (moves c.args.self.now.schedule)
    (moves c.note_turn.new.self.items)
takes g c =
    adds_times c.args.context c.go_on-made.result.made c.args.self.now.schedule
    c.note_turn.new.self.items (noted g c)

-- what holds of the program and the schedule inside
of_story : (g : givens.Over) (c : After-note_turn g)
    → (holds : List ℕ → List Entry → Type 0)
    → holds c.self.inside.runtime.shared.program.now c.self.inside.schedule.items
    → holds c.args.self.now.program c.args.self.now.schedule
of_story g c holds inside =
    subst (λ (s : Story). holds s.program s.schedule) c.self.view_is inside

-- who alone is left was so inside
only_inside : (g : givens.Over) (c : After-note_turn g)
    → IsOnlyLeft (world_at c.args.self.now) c.args.context
    → IsOnlyLeft (world c.self.inside.runtime.shared.program.now
    c.self.inside.schedule.items) c.args.context
only_inside g c left =
    subst (λ (s : Story). IsOnlyLeft (world_at s) c.args.context) (sym c.self.view_is) left

-- what was shown before is of the space inside
warranted_inside : (g : givens.Over) (c : After-note_turn g) → AreWarranted c.args.self.now
    → AllWarranted (g.M.Memory.heap c.self.inside.runtime.memory).space.size
    c.self.inside.runtime.shared.program.now c.self.inside.schedule.items
warranted_inside g c all = subst AreWarranted (sym c.self.view_is) all

-- ---- nothing is told

pub invariant_of-self : goal.invariant_of-self
invariant_of-self g c =
    rw c.note_turn.ensures.added
    (keeps_made c.args.context c.go_on-made.result.made _ _ c.self.inside.schedule.items
    c.self.invariant (ready_before g (goal.at.invariant_of-self g c).After-go_on-made)
    (rw c.in_default.is at c.go_on-made.ensures.makes))

pub returns-in_default-clause-some : goal.returns-in_default-clause-some
returns-in_default-clause-some g c = λ _.
    let some : 1 ≤ c.min-most.result =
    omega (arith, c.min-most.ensures, c.requires.some, c.free_steps.ensures.some) in
    some_made c.args.context c.go_on-made.result.made c.min-most.result _ _
    c.self.inside.schedule.items c.self.invariant
    (ready_before g (goal.at.returns-in_default-clause-some g c).After-go_on-made)
    (rw c.in_default.is at c.go_on-made.ensures.makes) some
    (c.go_on-made.ensures.ended (rw c.in_default.is refl))

pub returns-in_default-clause-counted : goal.returns-in_default-clause-counted
returns-in_default-clause-counted g c =
    counted g (goal.at.returns-in_default-clause-counted g c).After-note_turn

pub returns-in_default-clause-ordinary : goal.returns-in_default-clause-ordinary
returns-in_default-clause-ordinary g c =
    let at = (goal.at.returns-in_default-clause-ordinary g c).After-note_turn in
    each g at is_ordinary (plain_fits g at)

pub returns-in_default-clause-fits : goal.returns-in_default-clause-fits
returns-in_default-clause-fits g c =
    let at = (goal.at.returns-in_default-clause-fits g c).After-note_turn in
    each g at fits (plain_fits g at)

pub returns-in_default-clause-takes : goal.returns-in_default-clause-takes
returns-in_default-clause-takes g c =
    takes g (goal.at.returns-in_default-clause-takes g c).After-note_turn

pub returns-in_default-clause-keeps : goal.returns-in_default-clause-keeps
returns-in_default-clause-keeps g c = λ _.
    of_story g (goal.at.returns-in_default-clause-keeps g c).After-note_turn
    (λ p entries. NoneEnds (starting_world p) (moves entries)
    (moves c.note_turn.new.self.items))
    (rw c.note_turn.ensures.added
    (tell_made c.args.context c.go_on-made.result.made _ _ c.self.inside.schedule.items
    c.self.invariant (ready_before g (goal.at.returns-in_default-clause-keeps g c).After-go_on-made)
    (rw c.in_default.is at c.go_on-made.ensures.makes) IsNoEnd nothing_ends))

pub returns-in_default-clause-wish : goal.returns-in_default-clause-wish
returns-in_default-clause-wish g c =
    of_story g (goal.at.returns-in_default-clause-wish g c).After-note_turn
    (λ p entries. AllTell IsNoWish (starting_world p) (moves entries)
    (moves c.note_turn.new.self.items))
    (rw c.note_turn.ensures.added
    (tell_made c.args.context c.go_on-made.result.made _ _ c.self.inside.schedule.items
    c.self.invariant (ready_before g (goal.at.returns-in_default-clause-wish g c).After-go_on-made)
    (rw c.in_default.is at c.go_on-made.ensures.makes) IsNoWish nothing_wishes))

pub returns-in_default-clause-alone : goal.returns-in_default-clause-alone
returns-in_default-clause-alone g c = λ left.
    let at = (goal.at.returns-in_default-clause-alone g c).After-note_turn in
    of_story g at (λ p entries. AllOfOne c.args.context (starting_world p) (moves entries)
    (moves c.note_turn.new.self.items))
    (rw c.note_turn.ensures.added
    (alone_made c.args.context c.go_on-made.result.made _ _ c.self.inside.schedule.items
    c.self.invariant (ready_before g (goal.at.returns-in_default-clause-alone g c).After-go_on-made)
    (rw c.in_default.is at c.go_on-made.ensures.makes) (only_inside g at left)))

pub returns-in_default-clause-warranted : goal.returns-in_default-clause-warranted
returns-in_default-clause-warranted g c = λ _ all.
    rw c.note_turn.ensures.added
    (warranted_made c.args.context c.go_on-made.result.made _ _ c.self.inside.schedule.items
    c.self.invariant (ready_before g (goal.at.returns-in_default-clause-warranted g c).After-go_on-made)
    (rw c.in_default.is at c.go_on-made.ensures.makes)
    (warranted_inside g (goal.at.returns-in_default-clause-warranted g c).After-note_turn all))

pub returns-in_default-clause-shown : goal.returns-in_default-clause-shown
returns-in_default-clause-shown g c = λ some.
    of_story g (goal.at.returns-in_default-clause-shown g c).After-note_turn
    (λ p entries. AddsShown c.args.context c.go_on-made.result.made
    (shown_words (g.M.Memory.heap c.go_on-made.new.runtime.memory)) (moves entries)
    (moves c.note_turn.new.self.items))
    (rw c.note_turn.ensures.added
    (last_made c.args.context c.go_on-made.result.made _ _ c.self.inside.schedule.items
    c.self.invariant (ready_before g (goal.at.returns-in_default-clause-shown g c).After-go_on-made)
    (rw c.in_default.is at c.go_on-made.ensures.makes) _ some))

pub returns-in_default-clause-space : goal.returns-in_default-clause-space
returns-in_default-clause-space g c =
    ap (λ (s : Space). s.size) (same_space c.args.context c.go_on-made.result.made _ _ c.self.inside.schedule.items
    c.self.invariant (ready_before g (goal.at.returns-in_default-clause-space g c).After-go_on-made)
    (rw c.in_default.is at c.go_on-made.ensures.makes))
    ∙ ap (λ (s : Story). s.space) c.self.view_is

pub returns-in_default-clause-flips : goal.returns-in_default-clause-flips
returns-in_default-clause-flips g c =
    ap (λ (s : Space). s.flips) (same_space c.args.context c.go_on-made.result.made _ _ c.self.inside.schedule.items
    c.self.invariant (ready_before g (goal.at.returns-in_default-clause-flips g c).After-go_on-made)
    (rw c.in_default.is at c.go_on-made.ensures.makes))
    ∙ ap (λ (s : Story). s.flips) c.self.view_is

-- ---- the next step was held up

pub invariant_of-self-in-Err : goal.invariant_of-self-in-Err
invariant_of-self-in-Err g c =
    rw c.note_turn.ensures.added
    (keeps_held g.S.Interpret.asks c.args.context c.slot_of.result c.go_on-made.result.made c.in-Some.shown
    _ _ c.self.inside.schedule.items c.self.invariant
    (ready_before g (goal.at.invariant_of-self-in-Err g c).After-go_on-made)
    c.in-Err.reason (rw (c.in-Some.is, c.in-Err.is) at c.go_on-made.ensures.makes))

pub returns-in-Err-clause-counted : goal.returns-in-Err-clause-counted
returns-in-Err-clause-counted g c =
    counted g (goal.at.returns-in-Err-clause-counted g c).After-note_turn

pub returns-in-Err-clause-ordinary : goal.returns-in-Err-clause-ordinary
returns-in-Err-clause-ordinary g c =
    let at = (goal.at.returns-in-Err-clause-ordinary g c).After-note_turn in
    each g at is_ordinary (plain_fits g at)

pub returns-in-Err-clause-fits : goal.returns-in-Err-clause-fits
returns-in-Err-clause-fits g c =
    let at = (goal.at.returns-in-Err-clause-fits g c).After-note_turn in
    each g at fits (plain_fits g at)

pub returns-in-Err-clause-takes : goal.returns-in-Err-clause-takes
returns-in-Err-clause-takes g c =
    takes g (goal.at.returns-in-Err-clause-takes g c).After-note_turn

pub returns-in-Err-clause-held_up : goal.returns-in-Err-clause-held_up
returns-in-Err-clause-held_up g c =
    rw c.note_turn.ensures.added
    (held_behind g.S.Interpret.asks c.args.context c.slot_of.result c.go_on-made.result.made
    c.in-Some.shown _ _ c.self.inside.schedule.items c.self.invariant
    (ready_before g (goal.at.returns-in-Err-clause-held_up g c).After-go_on-made)
    c.in-Err.reason (rw (c.in-Some.is, c.in-Err.is) at c.go_on-made.ensures.makes)
    g.M.Memory.heap g.M.Memory.grants _ _ refl refl
    (record { space = refl; used = refl; flips = refl; cycle_open = refl; closed = refl })
    refl refl c.slot_of.ensures)

pub returns-in-Err-clause-room : goal.returns-in-Err-clause-room
returns-in-Err-clause-room g c =
    for_room g.M.Memory.heap g.M.Memory.grants g.S.Interpret.asks c.args.context false _
    c.in-Err.reason (returns-in-Err-clause-held_up g c)

pub returns-in-Err-clause-keeps : goal.returns-in-Err-clause-keeps
returns-in-Err-clause-keeps g c = λ _.
    of_story g (goal.at.returns-in-Err-clause-keeps g c).After-note_turn
    (λ p entries. NoneEnds (starting_world p) (moves entries)
    (moves c.note_turn.new.self.items))
    (rw c.note_turn.ensures.added
    (tell_mid g.S.Interpret.asks c.args.context c.slot_of.result c.go_on-made.result.made
    c.in-Some.shown _ _ c.self.inside.schedule.items c.self.invariant
    (ready_before g (goal.at.returns-in-Err-clause-keeps g c).After-go_on-made) (Err c.in-Err.reason)
    (rw (c.in-Some.is, c.in-Err.is) at c.go_on-made.ensures.makes) IsNoEnd nothing_ends))

pub returns-in-Err-clause-wish : goal.returns-in-Err-clause-wish
returns-in-Err-clause-wish g c =
    of_story g (goal.at.returns-in-Err-clause-wish g c).After-note_turn
    (λ p entries. AllTell IsNoWish (starting_world p) (moves entries)
    (moves c.note_turn.new.self.items))
    (rw c.note_turn.ensures.added
    (tell_mid g.S.Interpret.asks c.args.context c.slot_of.result c.go_on-made.result.made
    c.in-Some.shown _ _ c.self.inside.schedule.items c.self.invariant
    (ready_before g (goal.at.returns-in-Err-clause-wish g c).After-go_on-made) (Err c.in-Err.reason)
    (rw (c.in-Some.is, c.in-Err.is) at c.go_on-made.ensures.makes) IsNoWish nothing_wishes))

pub returns-in-Err-clause-alone : goal.returns-in-Err-clause-alone
returns-in-Err-clause-alone g c = λ left.
    let at = (goal.at.returns-in-Err-clause-alone g c).After-note_turn in
    of_story g at (λ p entries. AllOfOne c.args.context (starting_world p) (moves entries)
    (moves c.note_turn.new.self.items))
    (rw c.note_turn.ensures.added
    (alone_mid g.S.Interpret.asks c.args.context c.slot_of.result c.go_on-made.result.made c.in-Some.shown
    _ _ c.self.inside.schedule.items c.self.invariant
    (ready_before g (goal.at.returns-in-Err-clause-alone g c).After-go_on-made)
    (Err c.in-Err.reason)
    (rw (c.in-Some.is, c.in-Err.is) at c.go_on-made.ensures.makes) (only_inside g at left)))

pub returns-in-Err-clause-left : goal.returns-in-Err-clause-left
returns-in-Err-clause-left g c = λ held left.
    let at = (goal.at.returns-in-Err-clause-left g c).After-note_turn in
    rw c.note_turn.ensures.added
    (left_held g.S.Interpret.asks c.args.context c.slot_of.result c.go_on-made.result.made c.in-Some.shown
    _ _ c.self.inside.schedule.items c.self.invariant
    (ready_before g (goal.at.returns-in-Err-clause-left g c).After-go_on-made) c.in-Err.reason
    (rw (c.in-Some.is, c.in-Err.is) at c.go_on-made.ensures.makes) (only_inside g at left))

pub returns-in-Err-clause-warranted : goal.returns-in-Err-clause-warranted
returns-in-Err-clause-warranted g c = λ _ all.
    rw c.note_turn.ensures.added
    (warranted_held g.S.Interpret.asks c.args.context c.slot_of.result c.go_on-made.result.made
    c.in-Some.shown _ _ c.self.inside.schedule.items c.self.invariant
    (ready_before g (goal.at.returns-in-Err-clause-warranted g c).After-go_on-made) c.in-Err.reason
    (rw (c.in-Some.is, c.in-Err.is) at c.go_on-made.ensures.makes)
    (warranted_inside g (goal.at.returns-in-Err-clause-warranted g c).After-note_turn all))

pub returns-in-Err-clause-shown : goal.returns-in-Err-clause-shown
returns-in-Err-clause-shown g c = λ some.
    of_story g (goal.at.returns-in-Err-clause-shown g c).After-note_turn
    (λ p entries. AddsShown c.args.context c.go_on-made.result.made
    (shown_words (g.M.Memory.heap c.go_on-made.new.runtime.memory)) (moves entries)
    (moves c.note_turn.new.self.items))
    (rw c.note_turn.ensures.added
    (last_mid g.S.Interpret.asks c.args.context c.slot_of.result c.go_on-made.result.made
    c.in-Some.shown _ _ c.self.inside.schedule.items c.self.invariant
    (ready_before g (goal.at.returns-in-Err-clause-shown g c).After-go_on-made) (Err c.in-Err.reason)
    (rw (c.in-Some.is, c.in-Err.is) at c.go_on-made.ensures.makes) _ some))

pub returns-in-Err-clause-space : goal.returns-in-Err-clause-space
returns-in-Err-clause-space g c =
    ap (λ (s : Space). s.size)
    (same_space_behind g.S.Interpret.asks c.args.context c.slot_of.result c.go_on-made.result.made
    c.in-Some.shown _ _ c.self.inside.schedule.items c.self.invariant
    (ready_before g (goal.at.returns-in-Err-clause-space g c).After-go_on-made) (Err c.in-Err.reason)
    (rw (c.in-Some.is, c.in-Err.is) at c.go_on-made.ensures.makes))
    ∙ ap (λ (s : Story). s.space) c.self.view_is

pub returns-in-Err-clause-flips : goal.returns-in-Err-clause-flips
returns-in-Err-clause-flips g c =
    ap (λ (s : Space). s.flips)
    (same_space_behind g.S.Interpret.asks c.args.context c.slot_of.result c.go_on-made.result.made
    c.in-Some.shown _ _ c.self.inside.schedule.items c.self.invariant
    (ready_before g (goal.at.returns-in-Err-clause-flips g c).After-go_on-made) (Err c.in-Err.reason)
    (rw (c.in-Some.is, c.in-Err.is) at c.go_on-made.ensures.makes))
    ∙ ap (λ (s : Story). s.flips) c.self.view_is

-- ---- the next step was made

pub invariant_of-self-2 : goal.invariant_of-self-2
invariant_of-self-2 g c =
    rw (c.note.ensures.added, c.note_turn.ensures.added)
    (keeps_behind g.S.Interpret.asks c.args.context c.slot_of.result c.go_on-made.result.made
    c.in-Some.shown _ _ c.self.inside.schedule.items c.self.invariant
    (ready_before g (goal.at.invariant_of-self-2 g c).After-go_on-made)
    c.in-Ok.note (rw (c.in-Some.is, c.in-Ok.is) at c.go_on-made.ensures.makes)
    c.kept-kept.result c.kept-kept.ensures)

pub returns-clause-counted : goal.returns-clause-counted
returns-clause-counted g c =
    let before = counted g (goal.at.returns-clause-counted g c).After-note_turn in
    let one = ap count_of c.note.ensures.added
    ∙ count_of-added c.note_turn.new.self.items
    (move_of c.args.context false c.kept-kept.result) in
    omega (arith, before, one)

-- the step behind them too
each_behind : (g : givens.Over) (c : After-note g) (test : Move → Bool)
    → test (plain_move c.args.context) ≡ true
    → test (move_of c.args.context false c.kept-kept.result) ≡ true
    → list_all test (moves c.args.self.now.schedule) ≡ true
    → list_all test (moves c.note.new.self.items) ≡ true
each_behind g c test one behind before =
    ap (λ (entries : List Entry). list_all test (moves entries)) c.note.ensures.added
    ∙ all_added test c.note_turn.new.self.items
    (move_of c.args.context false c.kept-kept.result) behind
    (each g (goal.at.After-note g c).After-note_turn test one before)

behind_fits : (g : givens.Over) (c : After-note g)
    → fits (move_of c.args.context false c.kept-kept.result) ≡ true
behind_fits g c =
    move_fits c.args.context false c.kept-kept.result
    (let few = c.ranges.context.fits in omega (arith, few))
    (subst (λ (shown : Option (ℤ × ℤ)). are_words shown ≡ true) (sym c.kept-kept.ensures)
    (words_behind g.S.Interpret.asks c.args.context c.slot_of.result c.go_on-made.result.made
    c.in-Some.shown _ _ c.self.inside.schedule.items c.self.invariant
    (ready_before g (goal.at.After-note g c).After-go_on-made)
    c.in-Ok.note (rw (c.in-Some.is, c.in-Ok.is) at c.go_on-made.ensures.makes)))

pub returns-clause-ordinary : goal.returns-clause-ordinary
returns-clause-ordinary g c =
    let at = (goal.at.returns-clause-ordinary g c).After-note in
    each_behind g at is_ordinary
    (plain_fits g (goal.at.After-note g at).After-note_turn) (behind_fits g at)

pub returns-clause-fits : goal.returns-clause-fits
returns-clause-fits g c =
    let at = (goal.at.returns-clause-fits g c).After-note in
    each_behind g at fits
    (plain_fits g (goal.at.After-note g at).After-note_turn) (behind_fits g at)

pub returns-clause-warranted : goal.returns-clause-warranted
returns-clause-warranted g c = λ shows all.
    rw (c.note.ensures.added, c.note_turn.ensures.added)
    (warranted_behind g.S.Interpret.asks c.args.context c.slot_of.result c.go_on-made.result.made
    c.in-Some.shown _ _ c.self.inside.schedule.items c.self.invariant
    (ready_before g (goal.at.returns-clause-warranted g c).After-go_on-made)
    c.in-Ok.note (rw (c.in-Some.is, c.in-Ok.is) at c.go_on-made.ensures.makes)
    c.kept-kept.result c.kept-kept.ensures
    ((rw (c.in-Some.is, c.in-Ok.is) at c.go_on-made.ensures.shown) ∙ shows)
    (warranted_inside g (goal.at.returns-clause-warranted g c).After-note_turn all))

pub returns-clause-shown : goal.returns-clause-shown
returns-clause-shown g c = λ some.
    of_story g (goal.at.returns-clause-shown g c).After-note_turn
    (λ p entries. AddsShown c.args.context (c.go_on-made.result.made + 1)
    (shown_words (g.M.Memory.heap c.go_on-made.new.runtime.memory)) (moves entries)
    (moves c.note.new.self.items))
    (rw (c.note.ensures.added, c.note_turn.ensures.added)
    (shown_behind g.S.Interpret.asks c.args.context c.slot_of.result c.go_on-made.result.made
    c.in-Some.shown _ _ c.self.inside.schedule.items c.self.invariant
    (ready_before g (goal.at.returns-clause-shown g c).After-go_on-made)
    c.in-Ok.note (rw (c.in-Some.is, c.in-Ok.is) at c.go_on-made.ensures.makes)
    c.kept-kept.result c.kept-kept.ensures))

pub returns-clause-space : goal.returns-clause-space
returns-clause-space g c =
    ap (λ (s : Space). s.size)
    (same_space_behind g.S.Interpret.asks c.args.context c.slot_of.result c.go_on-made.result.made
    c.in-Some.shown _ _ c.self.inside.schedule.items c.self.invariant
    (ready_before g (goal.at.returns-clause-space g c).After-go_on-made) (Ok c.in-Ok.note)
    (rw (c.in-Some.is, c.in-Ok.is) at c.go_on-made.ensures.makes))
    ∙ ap (λ (s : Story). s.space) c.self.view_is

pub returns-clause-flips : goal.returns-clause-flips
returns-clause-flips g c =
    ap (λ (s : Space). s.flips)
    (same_space_behind g.S.Interpret.asks c.args.context c.slot_of.result c.go_on-made.result.made
    c.in-Some.shown _ _ c.self.inside.schedule.items c.self.invariant
    (ready_before g (goal.at.returns-clause-flips g c).After-go_on-made) (Ok c.in-Ok.note)
    (rw (c.in-Some.is, c.in-Ok.is) at c.go_on-made.ensures.makes))
    ∙ ap (λ (s : Story). s.flips) c.self.view_is

pub returns-clause-takes : goal.returns-clause-takes
returns-clause-takes g c =
    adds_more c.args.context c.go_on-made.result.made 1 (moves c.args.self.now.schedule)
    (moves c.note_turn.new.self.items) (moves c.note.new.self.items)
    (takes g (goal.at.returns-clause-takes g c).After-note_turn)
    (adds_one (move_of c.args.context false c.kept-kept.result) c.note_turn.new.self.items
    c.note.new.self.items c.note.ensures.added)

pub returns-clause-ends : goal.returns-clause-ends
returns-clause-ends g c = λ ends.
    let program : c.self.inside.runtime.shared.program.now ≡ c.args.self.now.program =
    ap (λ (s : Story). s.program) c.self.view_is in
    rw (c.note.ensures.added, c.note_turn.ensures.added, ← program)
    (ends_behind g.S.Interpret.asks c.args.context c.slot_of.result c.go_on-made.result.made
    c.in-Some.shown _ _ c.self.inside.schedule.items c.self.invariant
    (ready_before g (goal.at.returns-clause-ends g c).After-go_on-made)
    c.in-Ok.note (rw (c.in-Some.is, c.in-Ok.is) at c.go_on-made.ensures.makes)
    c.kept-kept.result turn_ends (ends_told c.in-Ok.note _ refl ends))

pub returns-clause-keeps : goal.returns-clause-keeps
returns-clause-keeps g c = λ goes.
    of_story g (goal.at.returns-clause-keeps g c).After-note_turn
    (λ p entries. NoneEnds (starting_world p) (moves entries) (moves c.note.new.self.items))
    (rw (c.note.ensures.added, c.note_turn.ensures.added)
    (tell_behind g.S.Interpret.asks c.args.context c.slot_of.result c.go_on-made.result.made
    c.in-Some.shown _ _ c.self.inside.schedule.items c.self.invariant
    (ready_before g (goal.at.returns-clause-keeps g c).After-go_on-made)
    c.in-Ok.note (rw (c.in-Some.is, c.in-Ok.is) at c.go_on-made.ensures.makes)
    IsNoEnd nothing_ends c.kept-kept.result
    (λ is. goes (ap (λ (n : Note). Ok n) (ends_noted c.in-Ok.note is)))))

pub returns-clause-only_last : goal.returns-clause-only_last
returns-clause-only_last g c = λ _.
    of_story g (goal.at.returns-clause-only_last g c).After-note_turn
    (λ p entries. OnlyLastMayEnd (starting_world p) (moves entries)
    (moves c.note.new.self.items))
    (rw (c.note.ensures.added, c.note_turn.ensures.added)
    (others_behind g.S.Interpret.asks c.args.context c.slot_of.result c.go_on-made.result.made
    c.in-Some.shown _ _ c.self.inside.schedule.items c.self.invariant
    (ready_before g (goal.at.returns-clause-only_last g c).After-go_on-made)
    c.in-Ok.note (rw (c.in-Some.is, c.in-Ok.is) at c.go_on-made.ensures.makes)
    IsNoEnd nothing_ends c.kept-kept.result))

-- ---- what the step behind wishes

module _ (g : givens.Over) (c : After-note g) where
  abbrev entries_behind : List Entry
  entries_behind = c.note.new.self.items

  -- it is no vmreclaim
  wishes_none : wish_in c.in-Ok.note ≡ None
      → WishesAs None (starting_world c.args.self.now.program) c.args.context
      (moves c.args.self.now.schedule) (moves entries_behind)
  wishes_none is =
      of_story g (goal.at.After-note g c).After-note_turn
      (λ p entries. AllTell IsNoWish (starting_world p) (moves entries) (moves entries_behind))
      (rw (c.note.ensures.added, c.note_turn.ensures.added)
      (tell_behind g.S.Interpret.asks c.args.context c.slot_of.result c.go_on-made.result.made
      c.in-Some.shown _ _ c.self.inside.schedule.items c.self.invariant
      (ready_before g (goal.at.After-note g c).After-go_on-made)
      c.in-Ok.note (rw (c.in-Some.is, c.in-Ok.is) at c.go_on-made.ensures.makes)
      IsNoWish nothing_wishes c.kept-kept.result
      (no_wish_noted c.in-Ok.note is)))

  -- it is one
  wishes_last : (number : ℤ) → wish_in c.in-Ok.note ≡ Some number
      → WishesLast number (starting_world c.args.self.now.program) c.args.context
      (moves c.args.self.now.schedule) (moves entries_behind)
  wishes_last number is =
      of_story g (goal.at.After-note g c).After-note_turn
      (λ p entries. WishesLast number (starting_world p) c.args.context (moves entries)
      (moves entries_behind))
      (rw (c.note.ensures.added, c.note_turn.ensures.added)
      (record {
        others = others_behind g.S.Interpret.asks c.args.context c.slot_of.result c.go_on-made.result.made
            c.in-Some.shown _ _ c.self.inside.schedule.items c.self.invariant
            (ready_before g (goal.at.After-note g c).After-go_on-made)
            c.in-Ok.note (rw (c.in-Some.is, c.in-Ok.is) at c.go_on-made.ensures.makes)
            IsNoWish nothing_wishes c.kept-kept.result;
        last = ends_behind g.S.Interpret.asks c.args.context c.slot_of.result c.go_on-made.result.made
            c.in-Some.shown _ _ c.self.inside.schedule.items c.self.invariant
            (ready_before g (goal.at.After-note g c).After-go_on-made)
            c.in-Ok.note (rw (c.in-Some.is, c.in-Ok.is) at c.go_on-made.ensures.makes)
            c.kept-kept.result (effect.wishes number)
            (wish_noted c.in-Ok.note number is);
      }))

  wishes_as : (wish : Option ℤ) → wish_in c.in-Ok.note ≡ wish
      → WishesAs wish (starting_world c.args.self.now.program) c.args.context
      (moves c.args.self.now.schedule) (moves entries_behind)
  wishes_as None is = wishes_none is
  wishes_as (Some number) is = wishes_last number is

pub returns-clause-wish : goal.returns-clause-wish
returns-clause-wish g c =
    wishes_as g (goal.at.returns-clause-wish g c).After-note (wish_in c.in-Ok.note) refl

pub returns-clause-alone : goal.returns-clause-alone
returns-clause-alone g c = λ left.
    let at = (goal.at.returns-clause-alone g c).After-note_turn in
    of_story g at (λ p entries. AllOfOne c.args.context (starting_world p) (moves entries)
    (moves c.note.new.self.items))
    (rw (c.note.ensures.added, c.note_turn.ensures.added)
    (alone_behind g.S.Interpret.asks c.args.context c.slot_of.result c.go_on-made.result.made
    c.in-Some.shown _ _ c.self.inside.schedule.items c.self.invariant
    (ready_before g (goal.at.returns-clause-alone g c).After-go_on-made)
    c.in-Ok.note (rw (c.in-Some.is, c.in-Ok.is) at c.go_on-made.ensures.makes)
    c.kept-kept.result (only_inside g at left)))

pub returns-clause-plain : goal.returns-clause-plain
returns-clause-plain g c = λ hides.
    let none : c.kept-kept.result ≡ None = c.kept-kept.ensures
    ∙ kept_none c.in-Ok.note c.in-Some.shown
    ((rw (c.in-Some.is, c.in-Ok.is) at c.go_on-made.ensures.shown) ∙ hides) in
    times_noted c.go_on-made.result.made c.args.self.now.schedule c.note_turn.new.self.items
    c.note.new.self.items c.args.context c.kept-kept.result
    (noted g (goal.at.returns-clause-plain g c).After-note_turn) none c.note.ensures.added

-- ---- what is noted

-- the steps that were noted before the one behind them
noted_so : (g : givens.Over) (c : After-note_turn g)
    → c.go_on-made.result.made < c.min-most.result
    → HasNoted c.args.context c.go_on-made.result.made
    (free_steps c.self.inside.schedule.items c.args.context) c.self.inside.schedule
    c.note_turn.new.self
noted_so g c fewer = record {
  added = c.note_turn.ensures.added;
  longer = c.note_turn.ensures.longer;
  most = c.note_turn.ensures.most;
  few = let free = c.free_steps.ensures.is in let least = c.min-most.ensures in
      omega (arith, fewer, free, least);
  joins = λ some few. c.note_turn.ensures.open some few;
}

-- the schedule inside is the one that the story tells
kept_inside : (g : givens.Over) (c : After-note_turn g)
    → c.self.inside.schedule ≡ kept_of c.args.self.now
kept_inside g c = sym (kept_same c.self.inside.schedule) ∙ ap kept_of c.self.view_is

pub note-requires-clause-may : goal.note-requires-clause-may
note-requires-clause-may g c =
    let at = (goal.at.note-requires-clause-may g c).After-note_turn in
    may_note c.args.context c.go_on-made.result.made
    (free_steps c.self.inside.schedule.items c.args.context) c.self.inside.schedule
    c.note_turn.new.self (noted_so g at (c.go_on-made.ensures.fewer (rw c.in-Some.is refl)))
    (subst (λ (kept : Kept). MayAdd kept c.args.context) (sym (kept_inside g at))
    c.requires.room.entry)

pub returns-clause-longer : goal.returns-clause-longer
returns-clause-longer g c =
    let at = (goal.at.returns-clause-longer g c).After-note_turn in
    let longer = longer_noted c.args.context c.go_on-made.result.made
    (free_steps c.self.inside.schedule.items c.args.context) c.self.inside.schedule
    c.note_turn.new.self c.note.new.self.items
    (noted_so g at (c.go_on-made.ensures.fewer (rw c.in-Some.is refl))) c.note.ensures.longer
    c.note.ensures.joined in
    let same = ap {B = ℕ} (λ (s : Story). length s.schedule) c.self.view_is in
    omega (arith, longer, same)

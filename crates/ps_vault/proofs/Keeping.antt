-- What a vault keeps, over its steps.
use Rattle.std.proofs.Common.{◌≡◌, ◌≢◌, ℕ, ℤ, zero, suc, ◌-◌, ◌<◌, ◌≤◌, Bool, true, false, ◌&&◌, Option, Some, None, Ok, Err, List, [], ◌∷◌, refl, sym, ◌∙◌, ap, subst, arith}
use Rattle.std.specs.Prelude.{Result, slice_get, IsSome, IfSome, IfNone, ◌==◌, length}
use Rattle.std.specs.Option.{option_map, option_map_or}
use Rattle.std.proofs.lemmas.Bool.{true≢false}
use Rattle.ps_language.specs.declared.schedules.Entry.{Entry}
use Rattle.ps_language.specs.Contexts.{context_in, context_at, count_not_ended}
use Rattle.ps_language.specs.Effect.{Around, Scene}
use Rattle.ps_language.specs.Locks.{is_ready_as, is_ready}
use Rattle.ps_language.specs.Machines.{around_of, scene_of, turn_as, own_step}
use Rattle.ps_language.specs.Schedules.{Move, added, moves, count_of}
use Rattle.ps_language.specs.Step.{machine_of, step}
use Rattle.ps_language.specs.World.{Status, Context, Machine, World}
use Rattle.ps_language.specs.Effect as effect
use Rattle.ps_language.specs.Worlds.{after_move, after_moves, starting_world, world, printed, all_ready, kept_pair, IsProper}
use Rattle.ps_language.proofs.Recorded.{recorded-same}
use Rattle.ps_language.proofs.ScheduleLaws.{moves-added, longest-added}
use Rattle.ps_language.proofs.WorldLaws.{after_moves-append, all_ready-append}
use Rattle.ps_ops_operands.specs.declared.failure.NotMade.{NotMade as Reason}
use Rattle.ps_ops_state.specs.declared.lent.Attempt.{Attempt}
use Rattle.ps_ops_state.specs.Acts.{Asked}
use Rattle.ps_mem.specs.Heap.{Heap, Space}
use Rattle.ps_ctx_table.specs.declared.members.Member.{Member}
use Rattle.ps_ctx_table.specs.Seats.{item_at, IsNextLeft}
use Rattle.ps_ctx_table.specs.Worlds.{context_of, contexts_in}
use Rattle.ps_ctx_table.specs.Desks.{Desk, IsWorld}
use Rattle.ps_ctx_table.proofs.Holding.{contexts_in-found, contexts_in-length}
use Rattle.ps_ctx_table.proofs.Places.{identifier_within}
use Rattle.ps_step_outcome.specs.Turns.{calling_of}
use Rattle.ps_language.proofs.LeftTurns.{left_by}
use Rattle.ps_ctx.specs.declared.notes.Note.{Note}
use Rattle.ps_ctx.specs.declared.notes.Note.TheVariants.{Nothing, TurnEnds, ShowsMemory, Wishes}
use Rattle.ps_ctx.specs.declared.worlds.Calling.{Calling}
use Rattle.ps_ctx.specs.Held.{Held, held, IsAt, IsAtBy, AreFramedBy, IsSteadyHeld, MayStep}
use Rattle.ps_ctx.specs.Notes.{note_of, HasNoStatus}
use Rattle.ps_ctx.specs.Steps.{Steps}
use Rattle.ps_run_schedules.specs.Keeping.{Kept, most_of}
use Rattle.ps_run_schedules.specs.Turns.{move_of}
use Rattle.ps_vault.specs.declared.reports.Outcome.{Outcome}
use Rattle.ps_vault.specs.declared.reports.Report.{Report}
use Rattle.ps_vault.specs.Order.{IsOnlyLeft}
use Rattle.ps_vault.specs.declared.reports.TheConstants.{FIRST_ENTRIES}
use Rattle.ps_vault.specs.Reports.{all_fit, EndsAs, IsOneStarved, IsRunIn}
use Rattle.ps_vault.specs.Warrants.{AllWarranted, IsStatus}
use Rattle.ps_vault.specs.Stories.{Story, Keeps, AreWarranted, kept_of, logs_closed, world_at}

-- ---- one more move

pub world_added : (program : List ℕ) (schedule : List Entry) (move : Move)
    → world program (added schedule move) ≡ after_move (world program schedule) move
unfolding world after_moves
world_added program schedule move =
    ap (after_moves (starting_world program)) (moves-added schedule move)
    ∙ after_moves-append (starting_world program) (moves schedule) (move ∷ [])

pub and_both : (a b : Bool) → a ≡ true → b ≡ true → a && b ≡ true
and_both true b h k = k
and_both false b h k = absurd (true≢false (sym h))

pub proper_added : (program : List ℕ) (schedule : List Entry) (move : Move)
    → IsProper program schedule → is_ready (world program schedule) move.context ≡ true
    → IsProper program (added schedule move)
unfolding IsProper world
proper_added program schedule move proper ready =
    ap (all_ready (starting_world program)) (moves-added schedule move)
    ∙ (all_ready-append (starting_world program) (moves schedule) (move ∷ [])
    ∙ and_both _ _ proper (and_both _ true ready refl))

-- ---- what it is at

-- whose call waits
abbrev pub caller_of : Option Calling → Option ℕ
caller_of calling = option_map (λ (one : Calling). one.caller) calling

pub no_call : (calling : Option Calling) → caller_of calling ≡ None → calling ≡ None
no_call None h = refl
no_call (Some calling) h = absurd (cc)

-- the world of its story
pub at_story : (h : Held) (schedule : List Entry) (story : Story) → Keeps h schedule
    → h.desk.program ≡ story.program → schedule ≡ story.schedule
    → caller_of h.calling ≡ story.caller → story.caller ≡ None
    → IsWorld h.desk (world_at story)
at_story h schedule story keeps same made is none =
    subst (λ (p : List ℕ). IsWorld h.desk (world p story.schedule)) same
    (subst (λ (s : List Entry). IsWorld h.desk (world h.desk.program s)) made
    (subst (λ (calling : Option Calling). IsAtBy calling h.desk (world h.desk.program schedule))
    (no_call h.calling (is ∙ none)) keeps.at))

-- before the first step
pub keeps_start : (d : Desk) (calling : Option Calling) (program : List ℕ)
    → d.program ≡ program → IsSteadyHeld (held d None) → calling ≡ None
    → IsWorld d (starting_world program) → Keeps (held d calling) []
unfolding world moves after_moves IsProper
keeps_start d calling program same steady none at = record {
  steady = subst (λ (c : Option Calling). IsSteadyHeld (held d c)) (sym none) steady;
  at = subst (λ (c : Option Calling). IsAtBy c d (world d.program []))
      (sym none) (subst (λ (p : List ℕ). IsWorld d (starting_world p)) (sym same) at);
  proper = refl;
  longest = refl;
  no_status = subst (λ (c : Option Calling). IfSome c
      (λ one. HasNoStatus (world d.program []) one.caller)) (sym none) tt;
}

-- ---- a step

shows_noted : (note : Note) → note_of note ≡ effect.shows_memory → note ≡ ShowsMemory
shows_noted Nothing is = absurd (cc)
shows_noted TurnEnds is = absurd (cc)
shows_noted ShowsMemory is = refl
shows_noted (Wishes number) is = absurd (cc)

module _ (asks : Status → Around → Scene → Asked) (context : ℕ) (attempt : Attempt)
    (shown : Option (ℤ × ℤ)) (old new : Held) (schedule : List Entry) (keeps : Keeps old schedule)
    (ready : is_ready (world old.desk.program schedule) context ≡ true) where
  abbrev here : World
  here = world old.desk.program schedule

  abbrev move : Move
  move = move_of context attempt.refused shown

  -- it is made, and noted with a pair under which it comes to the same world
  keeps_as : (note : Note) (kept : Option (ℤ × ℤ))
      → Steps asks context attempt shown (Ok note) old new
      → after_move here move ≡ after_move here (move_of context attempt.refused kept)
      → Keeps new (added schedule (move_of context attempt.refused kept))
  unfolding step
  keeps_as note kept steps same =
      let to = steps.meets here keeps.at ready in
      let after : List Entry = added schedule (move_of context attempt.refused kept) in
      record {
        steady = steps.steady;
        at = subst (λ (p : List ℕ). IsAt new (world p after)) (sym steps.program)
            (subst (λ (calling : Option Calling). IsAtBy calling new.desk
            (world old.desk.program after)) (sym to.1)
            (subst (IsWorld new.desk) (same ∙ sym (world_added old.desk.program schedule
            (move_of context attempt.refused kept))) to.0));
        proper = subst (λ (p : List ℕ). IsProper p after) (sym steps.program)
            (proper_added old.desk.program schedule (move_of context attempt.refused kept)
            keeps.proper ready);
        longest = longest-added schedule (move_of context attempt.refused kept) keeps.longest;
        no_status = subst (λ (c : Option Calling). IfSome c
            (λ one. HasNoStatus (world new.desk.program after) one.caller)) (sym to.1) tt;
      }

  -- a vmstatus that acts leaves the memory as it was
  pub status_leaves : (note : Note) → Steps asks context attempt shown (Ok note) old new
      → IsStatus here move → new.desk.heap ≡ old.desk.heap
  status_leaves note steps status =
      steps.leaves here keeps.at (ap (λ (n : Note). Ok n)
      (shows_noted note ((steps.meets here keeps.at ready).2 ∙ status)))

  -- no cycle was opened or ended, and no log closed
  pub same_cycle : (result : Result Note Reason) → Steps asks context attempt shown result old new
      → new.desk.grants.cycle_open ≡ old.desk.grants.cycle_open
  same_cycle result steps = (steps.logs here keeps.at ready).cycle_open

  pub same_closed : (result : Result Note Reason) → Steps asks context attempt shown result old new
      → logs_closed new.desk.grants.closed ≡ logs_closed old.desk.grants.closed
  same_closed result steps = ap logs_closed (steps.logs here keeps.at ready).closed

  -- with what was shown
  pub keeps_step : (note : Note) → Steps asks context attempt shown (Ok note) old new
      → Keeps new (added schedule move)
  keeps_step note steps = keeps_as note shown steps refl

  -- with what was shown where a vmstatus acted
  pub keeps_noted : (note : Note) (kept : Option (ℤ × ℤ))
      → Steps asks context attempt shown (Ok note) old new → kept ≡ kept_pair (note_of note) shown
      → Keeps new (added schedule (move_of context attempt.refused kept))
  keeps_noted note kept steps is =
      let to = steps.meets here keeps.at ready in
      keeps_as note kept steps (sym (recorded-same here move)
      ∙ ap (λ (pair : Option (ℤ × ℤ)). after_move here (move_of context attempt.refused pair))
      (sym (is ∙ ap (λ (n : effect.Note). kept_pair n shown) to.2)))

  -- it is not
  module _ (reason : Reason) (steps : Steps asks context attempt shown (Err reason) old new) where
    pub keeps_unmade : Keeps new schedule
    keeps_unmade = record {
      steady = steps.steady;
      at = subst (λ (p : List ℕ). IsAt new (world p schedule)) (sym steps.program)
          (steps.meets here keeps.at ready);
      proper = subst (λ (p : List ℕ). IsProper p schedule) (sym steps.program) keeps.proper;
      longest = keeps.longest;
      no_status = subst (λ (p : List ℕ). IfSome new.calling
          (λ one. HasNoStatus (world p schedule) one.caller)) (sym steps.program)
          (steps.no_status here keeps.at);
    }

-- ---- what is told of its world

-- one that is ready is there
pub ready_there : (h : Heap) (names : List (List ℕ)) (members : List (Option Member)) (w : World)
    (identifier : ℕ) → w.contexts ≡ contexts_in h names members → is_ready w identifier ≡ true
    → IsSome (item_at members identifier)
unfolding is_ready
ready_there h names members w identifier same ready =
    by_item (item_at members identifier) (sym (ap (λ (found : Option Context).
    option_map_or (λ context. is_ready_as context.status identifier context w) found false)
    (contexts_in-found h names members w identifier same)) ∙ ready)
  where
    by_item : (item : Option Member)
        → option_map_or (λ context. is_ready_as context.status identifier context w)
        (option_map (context_of h names) item) false ≡ true → IsSome item
    by_item None bad = absurd (true≢false (sym bad))
    by_item (Some member) good = refl

-- where its call waits it is there
pub caller_there : (h : Held) (schedule : List Entry) (identifier : ℕ) → Keeps h schedule
    → is_ready (world h.desk.program schedule) identifier ≡ true → MayStep h.calling identifier
    → IsSome (item_at h.desk.members identifier)
caller_there h schedule identifier keeps ready may = by h.calling refl
  where
    by : (calling : Option Calling) → h.calling ≡ calling
        → IsSome (item_at h.desk.members identifier)
    by None is =
        ready_there _ _ _ (world h.desk.program schedule) identifier
        (subst (λ (c : Option Calling). IsAtBy c h.desk (world h.desk.program schedule)) is
        keeps.at).contexts ready
    by (Some calling) is =
        let same : calling.caller ≡ identifier =
        subst (λ (c : Option Calling). MayStep c identifier) is may in
        let runs =
        (subst (λ (c : Option Calling). AreFramedBy c h.desk) is keeps.steady.framed).1 in
        subst (λ (n : ℕ). IsSome (item_at h.desk.members n)) same
        (subst IsSome (sym runs.found) refl)

-- no other's call waits
pub may_step : (calling : Option Calling) (caller : Option ℕ) (context : ℕ)
    → caller_of calling ≡ caller → IfSome caller (λ one. one ≡ context) → MayStep calling context
may_step calling caller context is may =
    by calling (subst (λ (c : Option ℕ). IfSome c (λ one. one ≡ context)) (sym is) may)
  where
    by : (calling : Option Calling) → IfSome (caller_of calling) (λ one. one ≡ context)
        → MayStep calling context
    by None may = tt
    by (Some calling) may = may

pub may_go : (calling : Option Calling) (context : ℕ) → MayStep calling context
    → IfSome (caller_of calling) (λ one. one ≡ context)
may_go None context may = tt
may_go (Some calling) context may = may

-- one that is gone isn't ready
pub gone_unready : (h : Heap) (names : List (List ℕ)) (members : List (Option Member)) (w : World)
    (identifier : ℕ) → w.contexts ≡ contexts_in h names members
    → item_at members identifier ≡ None → is_ready w identifier ≡ false
unfolding is_ready
gone_unready h names members w identifier same gone =
    ap (λ (found : Option Context).
    option_map_or (λ context. is_ready_as context.status identifier context w) found false)
    (contexts_in-found h names members w identifier same
    ∙ ap (option_map (context_of h names)) gone)

-- ---- what it printed

-- a call whose element is taken printed nothing
pub printed_by : (calling : Option Calling) (d : Desk) (w : World) → IsAtBy calling d w
    → w.printed ≡ d.printed
unfolding own_step
printed_by None d w at = at.printed
printed_by (Some calling) d w at =
    ap (λ (m : Machine). m.printed)
    (left_by false (machine_of w at.context)
    (turn_as (around_of w.program (machine_of w at.context)) at.context.status at.context.frames
    (scene_of (machine_of w at.context))) (calling_of calling.operator) at.left
    (at.leaves false)).is ∙ at.world.printed

-- as many more as there may be in all, less those that there are
pub kept_same : (kept : Kept)
    → record kept { left = most_of kept - length kept.items } ≡ kept
kept_same kept =
    let left : most_of kept - length kept.items ≡ kept.left = omega arith in
    ap (λ n. record kept { left = n }) left

-- a vault at its end is a run
pub run_at_end : (asks : Status → Around → Scene → Asked) (space : Space) (h : Held)
    (report : Report) (steps : ℕ) (caller : Option ℕ) (story : Story)
    → report.printed.items ≡ h.desk.printed
    → Keeps h report.schedule.items
    → record {
      program = h.desk.program;
      most = record { output = h.desk.most; entries = most_of report.schedule };
      schedule = report.schedule.items;
      capacity = report.schedule.capacity;
      caller = caller;
      space = h.desk.heap.space.size;
      used = h.desk.heap.used;
      flips = h.desk.heap.space.flips;
      cycle_open = h.desk.grants.cycle_open;
      closed = logs_closed h.desk.grants.closed;
    } ≡ story
    → space.size ≡ story.space
    → count_of story.schedule ≤ steps
    → all_fit (moves story.schedule) ≡ true → AreWarranted story → FIRST_ENTRIES ≤ story.capacity
    → EndsAs (world_at story) (count_of story.schedule == steps)
    (IsOneStarved asks space.grows (world_at story) (kept_of story)) report.outcome
    → IsRunIn asks space story.program steps report
unfolding printed
run_at_end asks space h report steps caller story prints keeps view size few fit shows room ends =
    let schedule : List Entry = report.schedule.items in
    let outcome : Outcome = report.outcome in
    let kept : kept_of story ≡ report.schedule = sym (ap kept_of view)
    ∙ kept_same report.schedule in
    let same : h.desk.program ≡ story.program = ap (λ (s : Story). s.program) view in
    let made : story.schedule ≡ schedule = sym (ap (λ (s : Story). s.schedule) view) in
    let here : World = world h.desk.program schedule in
    record {
      prints = prints ∙ sym (printed_by h.calling h.desk here keeps.at)
          ∙ ap (λ (p : List ℕ). (world p schedule).printed) same;
      proper = subst (λ (p : List ℕ). IsProper p schedule) same keeps.proper;
      longest = keeps.longest;
      within = subst (λ (s : List Entry). count_of s ≤ steps) made few;
      fits = subst (λ (s : List Entry). all_fit (moves s) ≡ true) made fit;
      warranted = subst (λ (n : ℕ). AllWarranted n story.program schedule) (sym size)
          (subst (λ (s : List Entry). AllWarranted story.space story.program s) made shows);
      room = subst (λ (n : ℕ). FIRST_ENTRIES ≤ n) (sym (ap (λ (s : Story). s.capacity) view)) room;
      ends = subst (λ (s : List Entry). EndsAs (world story.program s) (count_of s == steps)
          (IsOneStarved asks space.grows (world story.program s) report.schedule) outcome) made
          (subst (λ (k : Kept). EndsAs (world_at story) (count_of story.schedule == steps)
          (IsOneStarved asks space.grows (world_at story) k) outcome) kept ends);
    }

-- ---- the next one that is left

pub next_found : (h : Heap) (names : List (List ℕ)) (members : List (Option Member)) (w : World)
    (after : ℕ) (found : Option ℕ) → w.contexts ≡ contexts_in h names members
    → IsNextLeft members after found
    → IfSome found (λ next. (after < next) × (next ≤ length w.contexts)
    × ((k : ℕ) → after < k → k < next → is_ready w k ≡ false))
next_found h names members w after None same found = tt
next_found h names members w after (Some next) same found = (
  found.0,
  subst (λ n. next ≤ n)
      (sym (ap length same ∙ contexts_in-length h names members))
      (place_of (item_at members next) refl found.1),
  λ k above below. gone_unready h names members w k same (found.2 k above below),
)
  where
    place_of : (item : Option Member) → item_at members next ≡ item → IsSome item
        → next ≤ length members
    place_of None is some = absurd (true≢false (sym some))
    place_of (Some member) is some = identifier_within members next member is

pub next_none : (h : Heap) (names : List (List ℕ)) (members : List (Option Member)) (w : World)
    (after : ℕ) (found : Option ℕ) → w.contexts ≡ contexts_in h names members
    → IsNextLeft members after found
    → IfNone found ((k : ℕ) → after < k → is_ready w k ≡ false)
next_none h names members w after None same found = λ k above.
    gone_unready h names members w k same (found k above)
next_none h names members w after (Some next) same found = tt

-- ---- one that alone is left

none_at : (contexts : List (Option Context)) (place : ℕ) → count_not_ended contexts ≡ 0
    → context_in (slice_get contexts place) ≡ None
unfolding count_not_ended
none_at [] place none = refl
none_at (None ∷ contexts) zero none = refl
none_at (None ∷ contexts) (suc place) none = none_at contexts place none
none_at (Some context ∷ contexts) place none = absurd (omega (arith, none))

one_at : (contexts : List (Option Context)) (place other : ℕ) (context : Context)
    → count_not_ended contexts ≡ 1 → context_in (slice_get contexts place) ≡ Some context
    → other ≢ place → context_in (slice_get contexts other) ≡ None
unfolding count_not_ended
one_at [] place other context one found apart = refl
one_at (None ∷ contexts) zero other context one found apart = cc
one_at (None ∷ contexts) (suc place) zero context one found apart = refl
one_at (None ∷ contexts) (suc place) (suc other) context one found apart =
    one_at contexts place other context one found (λ e. apart (ap (λ n. suc n) e))
one_at (Some here ∷ contexts) zero zero context one found apart = absurd (apart refl)
one_at (Some here ∷ contexts) zero (suc other) context one found apart =
    none_at contexts other (omega (arith, one))
one_at (Some here ∷ contexts) (suc place) other context one found apart =
    let none : None ≡ Some context =
    sym (none_at contexts place (omega (arith, one))) ∙ found in cc

pub only_left : (w : World) (identifier : ℕ) → count_not_ended w.contexts ≡ 1
    → is_ready w identifier ≡ true → IsOnlyLeft w identifier
unfolding is_ready context_at
only_left w zero one ready = absurd (true≢false (sym ready))
only_left w (suc place) one ready =
    by (context_in (slice_get w.contexts place)) refl ready
  where
    by : (found : Option Context) → context_in (slice_get w.contexts place) ≡ found
        → option_map_or (λ context. is_ready_as context.status (suc place) context w) found false
        ≡ true → IsOnlyLeft w (suc place)
    by None is ready other apart = absurd (true≢false (sym ready))
    by (Some context) is ready zero apart = refl
    by (Some context) is ready (suc other) apart =
        one_at w.contexts place other context one is (λ e. apart (ap (λ n. suc n) e))

-- What a vault keeps over steps of one context.
use Rattle.std.proofs.Common.{◌≡◌, ℕ, ℤ, zero, suc, ◌+◌, ◌^◌, ◌<◌, ◌≤◌, Bool, true, false, ◌&&◌, Option, Some, None, Result, Ok, List, [], ◌∷◌, ◌++◌, refl, sym, ◌∙◌, ap, subst, arith}
use Rattle.std.specs.Prelude.{IsTrue, IsSome, IfSome, not, replicate}
use Rattle.std.specs.List.{list_all}
use Rattle.std.specs.Option.{option_map_or}
use Rattle.std.proofs.lemmas.Bool.{lt-ltb, true≢false}
use Rattle.ps_language.specs.declared.schedules.Entry.{Entry}
use Rattle.ps_language.specs.Effect as effect
use Rattle.ps_language.specs.Effect.{turn_ends, Around, Scene}
use Rattle.ps_language.specs.Locks.{is_ready_as, is_ready}
use Rattle.ps_language.specs.Schedules.{Move, plain_move, added, moves, count_of, is_longest}
use Rattle.ps_language.specs.World.{Context, World}
use Rattle.ps_language.specs.Worlds.{after_move, after_moves, starting_world, world, all_ready, IsProper}
use Rattle.ps_language.proofs.ScheduleLaws.{moves-added, count_of-added, longest-added}
use Rattle.ps_language.proofs.WorldLaws.{after_moves-append, all_ready-append}
use Rattle.ps_mem.specs.Heap.{Space}
use Rattle.ps_ops_operands.specs.declared.failure.NotMade.{NotMade}
use Rattle.ps_ctx.specs.declared.notes.Note.{Note}
use Rattle.ps_ctx.specs.declared.notes.Note.TheVariants.{Nothing, TurnEnds, ShowsMemory, Wishes}
use Rattle.ps_ctx.specs.declared.worlds.Calling.{Calling}
use Rattle.ps_ctx.specs.Held.{Held, IsAt}
use Rattle.ps_ctx.specs.Notes.{note_of, HasNoStatus}
use Rattle.ps_ctx.specs.Steps.{AllFrom, HasMade, IsQuiet, IsUnready, KeepsOthers}
use Rattle.ps_run_schedules.specs.Turns.{added_times, move_of}
use Rattle.ps_vault.specs.Holds.{wish_in}
use Rattle.ps_vault.specs.Order.{IsOnlyLeft, IsAlone, Tells, IsNoEnd, IsNoWish, AllTell, IsOfOne, AllOfOne}
use Rattle.ps_vault.specs.Reports.{are_words, fits, is_ordinary}
use Rattle.ps_vault.specs.Warrants.{AddsShown, AllWarranted}
use Rattle.ps_vault.specs.Stories.{Keeps}
use Rattle.ps_vault.proofs.Following.{times_moves}
use Rattle.ps_vault.proofs.Keeping.{and_both}
use Rattle.ps_vault.proofs.Showing.{shown_last}
use Rattle.ps_vault.proofs.Warrants.{warranted_times}

-- the world after so many more
pub world_times : (program : List ℕ) (schedule : List Entry) (n : ℕ) (move : Move)
    → world program (added_times n schedule move)
    ≡ after_moves (world program schedule) (replicate n move)
unfolding world
world_times program schedule n move =
    ap (after_moves (starting_world program)) (times_moves n schedule move)
    ∙ after_moves-append (starting_world program) (moves schedule) (replicate n move)

pub proper_times : (program : List ℕ) (schedule : List Entry) (n : ℕ) (move : Move)
    → IsProper program schedule
    → IsTrue (all_ready (world program schedule) (replicate n move))
    → IsProper program (added_times n schedule move)
unfolding IsProper world
proper_times program schedule n move proper ready =
    ap (all_ready (starting_world program)) (times_moves n schedule move)
    ∙ (all_ready-append (starting_world program) (moves schedule) (replicate n move)
    ∙ and_both _ _ proper ready)

pub longest_times : (n : ℕ) (schedule : List Entry) (move : Move) → is_longest schedule ≡ true
    → is_longest (added_times n schedule move) ≡ true
unfolding added_times
longest_times zero schedule move h = h
longest_times (suc n) schedule move h =
    longest-added (added_times n schedule move) move (longest_times n schedule move h)

pub count_times : (n : ℕ) (schedule : List Entry) (move : Move)
    → count_of (added_times n schedule move) ≡ count_of schedule + n
unfolding added_times
count_times zero schedule move = omega arith
count_times (suc n) schedule move =
    let before = count_times n schedule move in
    let one = count_of-added (added_times n schedule move) move in
    omega (arith, before, one)

-- ---- ordinary steps

pub move_fits : (context : ℕ) (refused : Bool) (shown : Option (ℤ × ℤ)) → context < 2 ^ 32
    → are_words shown ≡ true → fits (move_of context refused shown) ≡ true
move_fits context refused shown few words = and_both _ _ (lt-ltb context (2 ^ 32) few) words

both : (a b : Bool) → (a && b) ≡ true → (a ≡ true) × (b ≡ true)
both true b h = (refl, h)
both false b h = absurd (true≢false (sym h))

-- what holds of each step, and of one more
module _ (test : Move → Bool) where
  all_more : (steps : List Move) (move : Move) → test move ≡ true
      → list_all test steps ≡ true → list_all test (steps ++ move ∷ []) ≡ true
  all_more [] move one h = and_both _ true one refl
  all_more (first ∷ steps) move one h =
      let p = both (test first) (list_all test steps) h in
      and_both _ _ p.0 (all_more steps move one p.1)

  pub all_added : (schedule : List Entry) (move : Move) → test move ≡ true
      → list_all test (moves schedule) ≡ true → list_all test (moves (added schedule move)) ≡ true
  all_added schedule move one h =
      ap (list_all test) (moves-added schedule move) ∙ all_more (moves schedule) move one h

  pub all_times : (n : ℕ) (schedule : List Entry) (move : Move) → test move ≡ true
      → list_all test (moves schedule) ≡ true
      → list_all test (moves (added_times n schedule move)) ≡ true
  unfolding added_times
  all_times zero schedule move one h = h
  all_times (suc n) schedule move one h =
      all_added (added_times n schedule move) move one (all_times n schedule move one h)

-- a schedule can have the numbers of ordinary steps
pub ordinary_fit : (steps : List Move) → list_all is_ordinary steps ≡ true
    → list_all fits steps ≡ true
ordinary_fit [] h = refl
ordinary_fit (first ∷ steps) h =
    let p = both (is_ordinary first) (list_all is_ordinary steps) h in
    and_both _ _ (both (not first.refused) (fits first) p.0).1 (ordinary_fit steps p.1)

-- ---- what is told of steps

-- of quiet ones nothing is
quiet_tell : (IsSo : effect.Note → Type 0) → IsSo effect.nothing → (now : World)
    → (steps : List Move) → AllFrom IsQuiet now steps → AllFrom (Tells IsSo) now steps
quiet_tell IsSo none now [] quiet = tt
quiet_tell IsSo none now (step ∷ steps) quiet = (
  record { shown = step.shown; told = subst IsSo (sym quiet.0) none },
  quiet_tell IsSo none (after_move now step) steps quiet.1,
)

pub nothing_ends : IsNoEnd effect.nothing
nothing_ends = λ is. absurd (cc)

pub nothing_wishes : IsNoWish effect.nothing
nothing_wishes = λ number is. absurd (cc)

-- ---- a context that alone is left

-- where it is ready it is so alone
pub only_left_ready : (w : World) (context : ℕ) → IsOnlyLeft w context
    → is_ready w context ≡ true → IsAlone context w
unfolding is_ready
only_left_ready w context left ready = record {
  ready = ready;
  others = λ other apart. ap (λ (found : Option Context).
      option_map_or (λ one. is_ready_as one.status other one w) found false) (left other apart);
}

-- it goes on being so over steps that leave the others as they are
alone_times : (context made : ℕ) (now : World) → IsOnlyLeft now context
    → AllFrom (KeepsOthers context) now (replicate made (plain_move context))
    → IsTrue (all_ready now (replicate made (plain_move context)))
    → AllFrom (IsOfOne context) now (replicate made (plain_move context))
    × IsOnlyLeft (after_moves now (replicate made (plain_move context))) context
unfolding after_moves
alone_times context zero now left keep ready = (tt, left)
alone_times context (suc made) now left keep ready =
    let p = both (is_ready now context)
    (all_ready (after_move now (plain_move context)) (replicate made (plain_move context))) ready in
    let rest = alone_times context made (after_move now (plain_move context))
    (λ other apart. keep.0 other apart ∙ left other apart) keep.1 p.1 in
    (((refl, only_left_ready now context left p.0), rest.0), rest.1)

-- ---- many steps

pub ends_noted : (note : Note) → note_of note ≡ turn_ends → note ≡ TurnEnds
ends_noted Nothing is = absurd (cc)
ends_noted TurnEnds is = refl
ends_noted ShowsMemory is = absurd (cc)
ends_noted (Wishes number) is = absurd (cc)

pub ends_told : (note : Note) (told : Result Note NotMade) → told ≡ Ok note → told ≡ Ok TurnEnds
    → note_of note ≡ turn_ends
ends_told Nothing told is ends = absurd (cc)
ends_told TurnEnds told is ends = refl
ends_told ShowsMemory told is ends = absurd (cc)
ends_told (Wishes number) told is ends = absurd (cc)

pub wish_noted : (note : Note) (number : ℤ) → wish_in note ≡ Some number
    → note_of note ≡ effect.wishes number
wish_noted Nothing number is = absurd (cc)
wish_noted TurnEnds number is = absurd (cc)
wish_noted ShowsMemory number is = absurd (cc)
wish_noted (Wishes one) number is = cc

pub no_wish_noted : (note : Note) → wish_in note ≡ None → IsNoWish (note_of note)
no_wish_noted Nothing none = λ number is. absurd (cc)
no_wish_noted TurnEnds none = λ number is. absurd (cc)
no_wish_noted ShowsMemory none = λ number is. absurd (cc)
no_wish_noted (Wishes one) none = absurd (cc)

-- so many were made
module _ (context made : ℕ) (old new : Held) (schedule : List Entry) (keeps : Keeps old schedule)
    (ready : is_ready (world old.desk.program schedule) context ≡ true)
    (has : HasMade context made old new) where
  abbrev later : List Entry
  later = added_times made schedule (plain_move context)

  pub keeps_made : Keeps new later
  unfolding added_times
  keeps_made = record {
    steady = has.steady;
    at = subst (λ (p : List ℕ). IsAt new (world p later)) (sym has.program)
        (subst (IsAt new) (sym (world_times old.desk.program schedule made (plain_move context)))
        (has.at (world old.desk.program schedule) keeps.at ready));
    proper = subst (λ (p : List ℕ). IsProper p later) (sym has.program)
        (proper_times old.desk.program schedule made (plain_move context) keeps.proper
        (has.ready (world old.desk.program schedule) keeps.at ready));
    longest = longest_times made schedule (plain_move context) keeps.longest;
    no_status = calls_none new.calling refl;
  }
    where
      none_at : (calling : Calling) → old.calling ≡ Some calling → HasNoStatus
          (world old.desk.program (added_times 0 schedule (plain_move context))) calling.caller
      none_at calling waited =
          subst (λ (c : Option Calling). IfSome c
          (λ one. HasNoStatus (world old.desk.program schedule) one.caller)) waited keeps.no_status

      -- a call that waits is the one that waited, and no step was made
      calls_none : (calling : Option Calling) → new.calling ≡ calling → IfSome calling
          (λ one. HasNoStatus (world new.desk.program later) one.caller)
      calls_none None is = tt
      calls_none (Some calling) is =
          let same = has.first (subst IsSome (sym is) refl) in
          let waited : old.calling ≡ Some calling =
          ap (λ (h : Held). h.calling) (sym same.1) ∙ is in
          subst (λ (p : List ℕ). HasNoStatus (world p later) calling.caller) (sym has.program)
          (subst (λ (n : ℕ). HasNoStatus (world old.desk.program
          (added_times n schedule (plain_move context))) calling.caller) (sym same.0)
          (none_at calling waited))

  -- the last of them is shown nothing
  pub last_made : (pair : ℤ × ℤ) → 1 ≤ made
      → AddsShown context made pair (moves schedule) (moves later)
  unfolding added_times
  last_made pair some = by made some
    where
      by : (n : ℕ) → 1 ≤ n → AddsShown context n pair (moves schedule)
          (moves (added_times n schedule (plain_move context)))
      by zero some = absurd (omega (arith, some))
      by (suc n) some =
          shown_last context (suc n) n schedule (plain_move context) pair (omega arith) tt

  -- they show nothing, and the space stays
  pub same_space : new.desk.heap.space ≡ old.desk.heap.space
  same_space = has.keeps.space

  space_made : new.desk.heap.space.size ≡ old.desk.heap.space.size
  space_made = ap (λ (s : Space). s.size) same_space

  pub warranted_made : AllWarranted old.desk.heap.space.size old.desk.program schedule
      → AllWarranted new.desk.heap.space.size new.desk.program later
  warranted_made all =
      subst (λ (n : ℕ). AllWarranted n new.desk.program later) (sym space_made)
      (subst (λ (p : List ℕ). AllWarranted old.desk.heap.space.size p later) (sym has.program)
      (warranted_times old.desk.heap.space.size old.desk.program schedule all context made
      (has.quiet (world old.desk.program schedule) keeps.at ready)))

  pub tell_made : (IsSo : effect.Note → Type 0) → IsSo effect.nothing
      → AllTell IsSo (starting_world old.desk.program) (moves schedule) (moves later)
  unfolding world
  tell_made IsSo none = record {
    steps = replicate made (plain_move context);
    is = times_moves made schedule (plain_move context);
    all = quiet_tell IsSo none (world old.desk.program schedule)
        (replicate made (plain_move context))
        (has.quiet (world old.desk.program schedule) keeps.at ready);
  }

  module _ (left : IsOnlyLeft (world old.desk.program schedule) context) where
    alone : AllFrom (IsOfOne context) (world old.desk.program schedule)
        (replicate made (plain_move context))
        × IsOnlyLeft (after_moves (world old.desk.program schedule)
        (replicate made (plain_move context))) context
    alone =
        alone_times context made (world old.desk.program schedule) left
        (has.others (world old.desk.program schedule) keeps.at ready)
        (has.ready (world old.desk.program schedule) keeps.at ready)

    pub alone_made : AllOfOne context (starting_world old.desk.program) (moves schedule)
        (moves later)
    unfolding world
    alone_made = record {
      steps = replicate made (plain_move context);
      is = times_moves made schedule (plain_move context);
      all = alone.0;
    }

    pub left_made : IsOnlyLeft (world old.desk.program later) context
    left_made =
        subst (λ (w : World). IsOnlyLeft w context)
        (sym (world_times old.desk.program schedule made (plain_move context))) alone.1

-- one is made at least, where fewer than were asked for end with the context not ready
pub some_made : (context made most : ℕ) (old new : Held) (schedule : List Entry)
    → Keeps old schedule → is_ready (world old.desk.program schedule) context ≡ true
    → HasMade context made old new → 1 ≤ most → (made < most → IsUnready context new) → 1 ≤ made
unfolding after_moves
some_made context zero most old new schedule keeps ready has some unready =
    let here : World = world old.desk.program schedule in
    absurd (true≢false (sym ready ∙ unready (omega arith) here (has.at here keeps.at ready)))
some_made context (suc made) most old new schedule keeps ready has some unready = omega arith

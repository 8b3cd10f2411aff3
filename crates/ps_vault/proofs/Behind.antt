-- What a vault keeps over steps of one context and the step behind them.
use Rattle.std.proofs.Common.{◌≡◌, ℕ, ℤ, ◌≤◌, true, false, Option, Some, None, Result, Ok, Err, List, [], ◌∷◌, refl, sym, ◌∙◌, ap, subst, ◌+◌}
use Rattle.std.specs.Prelude.{IfSome, is_some}
use Rattle.ps_language.specs.declared.schedules.Entry.{Entry}
use Rattle.ps_language.specs.Effect as effect
use Rattle.ps_language.specs.Effect.{Around, Scene}
use Rattle.ps_language.specs.Live.{Live}
use Rattle.ps_language.specs.Locks.{is_ready}
use Rattle.ps_language.specs.Schedules.{plain_move, added, moves, count_of}
use Rattle.ps_language.specs.World.{Status, World}
use Rattle.ps_language.specs.Worlds.{starting_world, world}
use Rattle.ps_language.proofs.ScheduleLaws.{moves-added}
use Rattle.ps_ops_state.specs.Acts.{Asked}
use Rattle.ps_ops_state.specs.Attempts.{ordinary}
use Rattle.ps_language.specs.Worlds.{kept_pair}
use Rattle.ps_mem.specs.Heap.{Heap, Grants, Space, standing_words}
use Rattle.ps_mem.specs.Stands.{IsAddressed}
use Rattle.ps_ops_operands.specs.declared.failure.NotMade.{NotMade as Reason}
use Rattle.ps_ctx.specs.declared.notes.Note.{Note}
use Rattle.ps_ctx.specs.declared.notes.Note.TheVariants.{ShowsMemory}
use Rattle.ps_ctx.specs.declared.worlds.Calling.{Calling}
use Rattle.ps_ctx.specs.Held.{Held, IsAtBy, MayStep}
use Rattle.ps_ctx.specs.Notes.{note_of, HasNoStatus}
use Rattle.ps_ctx.specs.Steps.{AreShown, StepsBehind, shown_words}
use Rattle.ps_language.specs.Step.{stepped}
use Rattle.ps_run_schedules.specs.Turns.{added_times, move_of}
use Rattle.ps_vault.specs.Holds as holds
use Rattle.ps_vault.specs.Holds.{IsHeldUp}
use Rattle.ps_vault.specs.Order.{IsOnlyLeft, Tells, AllTell, IsOfOne, AllOfOne, AllTellButLast, EndsWith}
use Rattle.ps_vault.specs.Reports.{are_words}
use Rattle.ps_vault.specs.Warrants.{AddsShown, AllWarranted, IsPairOf, IsWarranted}
use Rattle.ps_vault.specs.Stories.{Story, Keeps}
use Rattle.ps_vault.proofs.Advancing.{keeps_made, warranted_made, last_made, tell_made, alone_made, left_made, only_left_ready, world_times}
use Rattle.ps_vault.proofs.Keeping.{keeps_noted, keeps_unmade}
use Rattle.ps_vault.proofs.Reasons.{held_step, HasNumbersOf}
use Rattle.ps_vault.proofs.Ordering.{adds_all_more}
use Rattle.ps_vault.proofs.Showing.{kept_so, noted_warranted, shown_last, words_kept}
use Rattle.ps_vault.proofs.Warrants.{lives_in, pair_of_space, warranted_added}

-- so many were made, and the step behind them came to this
module _ (asks : Status → Around → Scene → Asked) (context slot made : ℕ)
    (shown : Option (ℤ × ℤ)) (old new : Held) (schedule : List Entry) (keeps : Keeps old schedule)
    (ready : is_ready (world old.desk.program schedule) context ≡ true) where
  abbrev so_far : List Entry
  so_far = added_times made schedule (plain_move context)

  module _ (result : Result Note Reason)
      (behind : StepsBehind asks context slot made shown result old new) where
    keeps_mid : Keeps behind.mid so_far
    keeps_mid = keeps_made context made old behind.mid schedule keeps ready behind.makes

    ready_here : is_ready (world old.desk.program so_far) context ≡ true
    ready_here = ap (λ (w : World). is_ready w context)
        (world_times old.desk.program schedule made (plain_move context))
        ∙ behind.ready (world old.desk.program schedule) keeps.at ready

    ready_mid : is_ready (world behind.mid.desk.program so_far) context ≡ true
    ready_mid = ap (λ (p : List ℕ). is_ready (world p so_far) context) behind.makes.program
        ∙ ready_here

    -- the space is that of before, and what was shown before the step is of it
    space_behind : new.desk.heap.space.size ≡ behind.mid.desk.heap.space.size
    space_behind = ap (λ (s : Space). s.size) behind.steps.keeps.space

    pub same_space_behind : new.desk.heap.space ≡ old.desk.heap.space
    same_space_behind = behind.steps.keeps.space ∙ behind.makes.keeps.space

    warranted_mid : AllWarranted old.desk.heap.space.size old.desk.program schedule
        → AllWarranted behind.mid.desk.heap.space.size behind.mid.desk.program so_far
    warranted_mid = warranted_made context made old behind.mid schedule keeps ready behind.makes

    -- what lives in the world before the step needs no more than stands there
    lives_mid : behind.mid.calling ≡ None → IsAddressed behind.mid.desk.heap → (words : ℕ)
        → Live (world behind.mid.desk.program so_far) words
        → words ≤ standing_words behind.mid.desk.heap
    lives_mid none =
        lives_in behind.mid.desk behind.mid.desk.program so_far context
        (subst (λ (c : Option Calling). IsAtBy c behind.mid.desk
        (world behind.mid.desk.program so_far)) none keeps_mid.at)
        behind.makes.steady.steady ready_mid

    of_new : (after : List Entry)
        → AllWarranted behind.mid.desk.heap.space.size behind.mid.desk.program after
        → AllWarranted new.desk.heap.space.size new.desk.program after
    of_new after all =
        subst (λ (n : ℕ). AllWarranted n new.desk.program after) (sym space_behind)
        (subst (λ (p : List ℕ). AllWarranted behind.mid.desk.heap.space.size p after)
        (sym behind.steps.program) all)

    pub last_mid : (pair : ℤ × ℤ) → 1 ≤ made
        → AddsShown context made pair (moves schedule) (moves so_far)
    last_mid = last_made context made old behind.mid schedule keeps ready behind.makes

    pub tell_mid : (IsSo : effect.Note → Type 0) → IsSo effect.nothing
        → AllTell IsSo (starting_world old.desk.program) (moves schedule) (moves so_far)
    tell_mid = tell_made context made old behind.mid schedule keeps ready behind.makes

    module _ (left : IsOnlyLeft (world old.desk.program schedule) context) where
      pub alone_mid : AllOfOne context (starting_world old.desk.program) (moves schedule)
          (moves so_far)
      alone_mid = alone_made context made old behind.mid schedule keeps ready behind.makes left

      left_mid : IsOnlyLeft (world old.desk.program so_far) context
      left_mid = left_made context made old behind.mid schedule keeps ready behind.makes left

  -- it was made
  module _ (note : Note) (behind : StepsBehind asks context slot made shown (Ok note) old new)
    where
      pub keeps_behind : (kept : Option (ℤ × ℤ)) → kept ≡ kept_pair (note_of note) shown
          → Keeps new (added so_far (move_of context false kept))
      keeps_behind kept is =
          keeps_noted asks context (ordinary slot) shown behind.mid new so_far
          (keeps_mid (Ok note) behind) (ready_mid (Ok note) behind) note kept behind.steps is

      abbrev here : World
      here = world behind.mid.desk.program so_far

      -- it was made as the definitions make it
      told_here : (stepped here context false shown).note ≡ note_of note
      told_here =
          sym (behind.steps.meets here (keeps_mid (Ok note) behind).at (ready_mid (Ok note) behind)).2

      -- a vmstatus that acts was shown the memory before it
      shows_here : note ≡ ShowsMemory → IfSome shown (AreShown behind.mid.desk.heap)
      shows_here is =
          behind.shows (world old.desk.program schedule) keeps.at ready
          (ap (λ (n : Note). Ok n) is)

      -- they are numbers of words
      pub words_behind : are_words (kept_pair (note_of note) shown) ≡ true
      words_behind = words_kept behind.mid.desk.heap note shown shows_here

      -- no call waited
      none_waits : note ≡ ShowsMemory → behind.mid.calling ≡ None
      none_waits shows = by behind.mid.calling refl
        where
          by : (calling : Option Calling) → behind.mid.calling ≡ calling → behind.mid.calling ≡ None
          by None is = is
          by (Some calling) is =
              let own : calling.caller ≡ context =
              subst (λ (c : Option Calling). MayStep c context) is behind.makes.caller in
              let other : HasNoStatus here calling.caller =
              subst (λ (c : Option Calling). IfSome c (λ one. HasNoStatus here one.caller)) is
              (keeps_mid (Ok note) behind).no_status in
              absurd (other false shown
              (ap (λ (n : ℕ). (stepped here n false shown).note) own
              ∙ (told_here ∙ ap note_of shows)))

      -- what it was shown is of the space, and at least what lives in the world before it
      shown_pair : note ≡ ShowsMemory
          → IfSome shown (IsPairOf behind.mid.desk.heap.space.size here)
      shown_pair shows = by shown (shows_here shows)
        where
          by : (shown : Option (ℤ × ℤ)) → IfSome shown (AreShown behind.mid.desk.heap)
              → IfSome shown (IsPairOf behind.mid.desk.heap.space.size here)
          by None are = tt
          by (Some pair) are =
              pair_of_space behind.mid.desk.heap pair here
              (lives_mid (Ok note) behind (none_waits shows)) are

      -- the memory behind it is the same
      pub shown_behind : (kept : Option (ℤ × ℤ)) → kept ≡ kept_pair (note_of note) shown
          → AddsShown context (made + 1) (shown_words new.desk.heap) (moves schedule)
          (moves (added so_far (move_of context false kept)))
      shown_behind kept is =
          shown_last context (made + 1) made schedule (move_of context false kept)
          (shown_words new.desk.heap) refl
          (subst (λ (one : Option (ℤ × ℤ)). IfSome one (λ pair. pair ≡ shown_words new.desk.heap))
          (sym is) (kept_so _ note shown λ shows. by shows shown (shows_here shows)))
        where
          by : note ≡ ShowsMemory → (shown : Option (ℤ × ℤ))
              → IfSome shown (AreShown behind.mid.desk.heap)
              → IfSome shown (λ pair. pair ≡ shown_words new.desk.heap)
          by shows None are = tt
          by shows (Some pair) are =
              are.is ∙ ap shown_words (sym (behind.steps.leaves here
              (keeps_mid (Ok note) behind).at (ap (λ (n : Note). Ok n) shows)))

      pub warranted_behind : (kept : Option (ℤ × ℤ)) → kept ≡ kept_pair (note_of note) shown
          → is_some shown ≡ true
          → AllWarranted old.desk.heap.space.size old.desk.program schedule
          → AllWarranted new.desk.heap.space.size new.desk.program
          (added so_far (move_of context false kept))
      warranted_behind kept is some all =
          of_new (Ok note) behind (added so_far (move_of context false kept))
          (warranted_added behind.mid.desk.heap.space.size behind.mid.desk.program so_far
          (warranted_mid (Ok note) behind all) (move_of context false kept)
          (subst (λ (one : Option (ℤ × ℤ)). IsWarranted behind.mid.desk.heap.space.size here
          (count_of so_far) (move_of context false one)) (sym is)
          (noted_warranted behind.mid.desk.heap.space.size here (count_of so_far) context shown note
          told_here some shown_pair)))

      told : (stepped (world old.desk.program so_far) context false shown).note ≡ note_of note
      told =
          ap (λ (p : List ℕ). (stepped (world p so_far) context false shown).note)
          (sym behind.makes.program) ∙ told_here

      -- such a note is told of it too
      pub tell_behind : (IsSo : effect.Note → Type 0) → IsSo effect.nothing
          → (kept : Option (ℤ × ℤ)) → IsSo (note_of note)
          → AllTell IsSo (starting_world old.desk.program) (moves schedule)
          (moves (added so_far (move_of context false kept)))
      unfolding world
      tell_behind IsSo none kept so =
          adds_all_more (Tells IsSo) (starting_world old.desk.program) (moves schedule)
          (moves so_far) (moves (added so_far (move_of context false kept)))
          (tell_mid (Ok note) behind IsSo none)
          (record {
            steps = move_of context false kept ∷ [];
            is = moves-added so_far (move_of context false kept);
            all = (record { shown = shown; told = subst IsSo (sym told) so }, tt);
          })

      -- it and those before it were made by a context that alone was ready
      pub alone_behind : (kept : Option (ℤ × ℤ))
          → IsOnlyLeft (world old.desk.program schedule) context
          → AllOfOne context (starting_world old.desk.program) (moves schedule)
          (moves (added so_far (move_of context false kept)))
      unfolding world
      alone_behind kept left =
          adds_all_more (IsOfOne context) (starting_world old.desk.program) (moves schedule)
          (moves so_far) (moves (added so_far (move_of context false kept)))
          (alone_mid (Ok note) behind left)
          (record {
            steps = move_of context false kept ∷ [];
            is = moves-added so_far (move_of context false kept);
            all = (
              (
                refl,
                only_left_ready (world old.desk.program so_far) context
                    (left_mid (Ok note) behind left) (ready_here (Ok note) behind),
              ),
              tt,
            );
          })

      -- of all but it such a note is told
      pub others_behind : (IsSo : effect.Note → Type 0) → IsSo effect.nothing
          → (kept : Option (ℤ × ℤ))
          → AllTellButLast IsSo (starting_world old.desk.program) (moves schedule)
          (moves (added so_far (move_of context false kept)))
      others_behind IsSo none kept = record {
        before = moves so_far;
        last = move_of context false kept;
        is = moves-added so_far (move_of context false kept);
        others = tell_mid (Ok note) behind IsSo none;
      }

      -- and of it this
      pub ends_behind : (kept : Option (ℤ × ℤ)) (what : effect.Note) → note_of note ≡ what
          → EndsWith what (starting_world old.desk.program) context
          (moves (added so_far (move_of context false kept)))
      unfolding world
      ends_behind kept what is =
          record {
            before = moves so_far;
            last = move_of context false kept;
            is = moves-added so_far (move_of context false kept);
            shown = shown;
            told = told ∙ is;
          }

  -- it was not
  module _ (reason : Reason)
      (behind : StepsBehind asks context slot made shown (Err reason) old new) where
    pub keeps_held : Keeps new so_far
    keeps_held =
        keeps_unmade asks context (ordinary slot) shown behind.mid new so_far
        (keeps_mid (Err reason) behind) (ready_mid (Err reason) behind) reason behind.steps

    pub held_behind : {M : Type 0} (heap : M → Heap) (grants : M → Grants) (memory : M)
        (story : Story) → story.program ≡ new.desk.program → story.schedule ≡ so_far
        → HasNumbersOf story new.desk
        → new.desk.heap ≡ heap memory → new.desk.grants ≡ grants memory
        → slot ≡ holds.slot_of context → IsHeldUp heap grants asks context false story reason
    held_behind =
        held_step asks context (ordinary slot) shown behind.mid new so_far
        (keeps_mid (Err reason) behind) (ready_mid (Err reason) behind) reason behind.steps

    -- what was shown is of the space
    pub warranted_held : AllWarranted old.desk.heap.space.size old.desk.program schedule
        → AllWarranted new.desk.heap.space.size new.desk.program so_far
    warranted_held all = of_new (Err reason) behind so_far (warranted_mid (Err reason) behind all)

    -- who alone was left still is
    pub left_held : IsOnlyLeft (world old.desk.program schedule) context
        → IsOnlyLeft (world new.desk.program so_far) context
    left_held left =
        subst (λ (p : List ℕ). IsOnlyLeft (world p so_far) context)
        (sym (behind.steps.program ∙ behind.makes.program)) (left_mid (Err reason) behind left)

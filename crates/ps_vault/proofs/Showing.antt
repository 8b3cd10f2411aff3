-- What a step is shown, and what a schedule keeps of it.
use Rattle.std.proofs.Common.{◌≡◌, ◌≢◌, ℕ, ℤ, ◌^◌, true, false, Option, Some, None, List, [], ◌∷◌, ◌++◌, refl, sym, ◌∙◌, ap, subst, arith, ◌+◌, ◌-◌}
use Rattle.std.specs.Prelude.{IfSome, is_some, min, max, replicate}
use Rattle.std.proofs.lemmas.Bool.{lt-ltb, true≢false}
use Rattle.ps_language.specs.declared.schedules.Entry.{Entry}
use Rattle.ps_language.specs.Effect as effect
use Rattle.ps_language.specs.Schedules.{Move, added, moves, plain_move}
use Rattle.ps_language.specs.Step.{Stepped, stepped}
use Rattle.ps_language.specs.World.{World}
use Rattle.ps_language.specs.Worlds.{kept_pair}
use Rattle.ps_language.proofs.Recorded.{AreAlike, one, showed, stepped-alike}
use Rattle.ps_language.proofs.ScheduleLaws.{moves-added}
use Rattle.ps_mem.specs.Heap.{Heap}
use Rattle.ps_ctx.specs.declared.notes.Note.{Note}
use Rattle.ps_ctx.specs.declared.notes.Note.TheVariants.{Nothing, TurnEnds, ShowsMemory, Wishes}
use Rattle.ps_ctx.specs.Notes.{note_of}
use Rattle.ps_ctx.specs.Steps.{AreShown, words_shown}
use Rattle.ps_run_schedules.specs.Turns.{added_times, move_of}
use Rattle.ps_vault.specs.Reports.{are_words, is_number_of_words}
use Rattle.ps_vault.specs.Warrants.{AddsShown, IsPairOf, IsWarranted}
use Rattle.ps_vault.proofs.Following.{times_moves}
use Rattle.ps_vault.proofs.Keeping.{and_both}
use Rattle.ps_vault.proofs.Warrants.{ordinary_warranted}

-- ---- what is kept

-- of a pair that isn't there none
pub kept_none : (note : Note) (shown : Option (ℤ × ℤ)) → is_some shown ≡ false
    → kept_pair (note_of note) shown ≡ None
kept_none Nothing shown none = refl
kept_none TurnEnds shown none = refl
kept_none ShowsMemory None none = refl
kept_none ShowsMemory (Some pair) none = absurd (true≢false none)
kept_none (Wishes number) shown none = refl

-- what is kept was shown to a vmstatus that acts
pub kept_so : (P : ℤ × ℤ → Type 0) (note : Note) (shown : Option (ℤ × ℤ))
    → (note ≡ ShowsMemory → IfSome shown P) → IfSome (kept_pair (note_of note) shown) P
kept_so P Nothing shown so = tt
kept_so P TurnEnds shown so = tt
kept_so P ShowsMemory shown so = so refl
kept_so P (Wishes number) shown so = tt

number_shown : (words : ℕ) → is_number_of_words (words_shown words) ≡ true
number_shown words =
    and_both _ _ (lt-ltb 0 (min (max 1 words) 2147483647) (omega arith))
    (lt-ltb (min (max 1 words) 2147483647) (2 ^ 31) (omega arith))

words_of : (heap : Heap) (shown : Option (ℤ × ℤ)) → IfSome shown (AreShown heap)
    → are_words shown ≡ true
words_of heap None are = refl
words_of heap (Some pair) are =
    subst (λ (pair : ℤ × ℤ). are_words (Some pair) ≡ true) (sym are.is)
    (and_both _ _ (number_shown heap.used) (number_shown heap.space.size))

-- what a memory shows are numbers of words
pub words_kept : (heap : Heap) (note : Note) (shown : Option (ℤ × ℤ))
    → (note ≡ ShowsMemory → IfSome shown (AreShown heap))
    → are_words (kept_pair (note_of note) shown) ≡ true
words_kept heap Nothing shown are = refl
words_kept heap TurnEnds shown are = refl
words_kept heap ShowsMemory shown are = words_of heap shown (are refl)
words_kept heap (Wishes number) shown are = refl

-- ---- the last step

-- behind so many plain ones
pub shown_last : (context made n : ℕ) (schedule : List Entry) (last : Move) (pair : ℤ × ℤ)
    → made ≡ n + 1 → IfSome last.shown (λ one. one ≡ pair)
    → AddsShown context made pair (moves schedule)
    (moves (added (added_times n schedule (plain_move context)) last))
shown_last context made n schedule last pair same so =
    let count : n ≡ made - 1 = omega (arith, same) in
    record {
      last = last;
      is = moves-added (added_times n schedule (plain_move context)) last
          ∙ (ap (λ (steps : List Move). steps ++ last ∷ [])
          (times_moves n schedule (plain_move context))
          ∙ ap (λ (m : ℕ). moves schedule ++ replicate m (plain_move context) ++ last ∷ []) count);
      shown = so;
    }

-- ---- it is warranted

-- a step that is shown something else, and is no vmstatus that acts, is none where it is shown
-- nothing
other_unshown : (now : World) (context : ℕ) (shown : Option (ℤ × ℤ)) (note : effect.Note)
    → note ≢ effect.shows_memory → (stepped now context false shown).note ≡ note
    → (stepped now context false None).note ≢ effect.shows_memory
other_unshown now context shown note other told =
    by _ _ (stepped-alike now context false shown) told
  where
    by : (a b : Stepped) → AreAlike a b → b.note ≡ note → a.note ≢ effect.shows_memory
    by a b one is = λ shows. other (sym is ∙ shows)
    by a b (showed bad) is = λ shows. other (sym is ∙ bad)

module _ (space : ℕ) (now : World) (before context : ℕ) (shown : Option (ℤ × ℤ)) where
  -- no vmstatus acts, and no pair is kept
  unshown : (note : effect.Note) → note ≢ effect.shows_memory
      → (stepped now context false shown).note ≡ note
      → IsWarranted space now before (move_of context false None)
  unshown note other told =
      ordinary_warranted space now before context None tt (λ some. absurd (cc))
      (λ is. absurd (other_unshown now context shown note other told is))

  pub noted_warranted : (note : Note) → (stepped now context false shown).note ≡ note_of note
      → is_some shown ≡ true → (note ≡ ShowsMemory → IfSome shown (IsPairOf space now))
      → IsWarranted space now before (move_of context false (kept_pair (note_of note) shown))
  noted_warranted Nothing told some pair = unshown effect.nothing (λ is. cc) told
  noted_warranted TurnEnds told some pair = unshown effect.turn_ends (λ is. cc) told
  noted_warranted ShowsMemory told some pair =
      ordinary_warranted space now before context shown (pair refl) (λ _. told) (λ is. some)
  noted_warranted (Wishes number) told some pair =
      unshown (effect.wishes number) (λ is. cc) told

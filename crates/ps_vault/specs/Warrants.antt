-- What the steps of a run may be shown, and when they may be refused (PLRM2, 3.7, 8 'vmstatus',
-- 'VMerror').
use Rattle.std.specs.Prelude.{◌≡◌, ℕ, ℤ, ◌+◌, ◌<◌, ◌≤◌, true, false, IfSome, IsSome, List, [], ◌∷◌, ◌++◌, ◌-◌, length, replicate}
use Rattle.ps_language.specs.declared.schedules.Entry.{Entry}
use Rattle.ps_language.specs.Effect.{shows_memory}
use Rattle.ps_language.specs.Live.{Live, asked_births, asked_words}
use Rattle.ps_language.specs.Schedules.{Move, moves, plain_move}
use Rattle.ps_language.specs.Step.{stepped}
use Rattle.ps_language.specs.World.{World}
use Rattle.ps_language.specs.Worlds.{after_move, starting_world}
use Rattle.ps_word.specs.Headers.{birth_limit}
use Rattle.ps_ctx.specs.Steps.{words_shown}

-- the pair of a step in the world before it: how many words are used of a space of so many, as many
-- at least as what lives there needs
pub record IsPairOf (space : ℕ) (now : World) (pair : ℤ × ℤ) : Type 0 where
  pub used : ℕ
  pub is : pair ≡ (words_shown used, words_shown space)
  pub within : used ≤ space
  pub lives : (words : ℕ) → Live now words → words ≤ used

-- behind so many steps the numbers of the collector's cycles may have run out
abbrev pub many_steps : ℕ
many_steps = 1000000000

-- why the step of a context is refused in the world before it, behind so many others: what lives
-- and what it asks for need more words than there are, or birth numbers have run out, or cycles may
-- have
pub data IsRefusal (space : ℕ) (now : World) (context before : ℕ) : Type 0 where
  no_room : ((words : ℕ) → Live now words → space < words + asked_words now context)
      → IsRefusal space now context before
  no_births : birth_limit < length now.store + asked_births now context
      → IsRefusal space now context before
  no_cycles : many_steps ≤ before → IsRefusal space now context before

-- a vmstatus acts in the step
abbrev pub IsStatus : World → Move → Type 0
IsStatus now step = (stepped now step.context step.refused step.shown).note ≡ shows_memory

-- A step behind so many others is shown such a pair only where a vmstatus acts in it, and each that
-- isn't refused is shown one there. It is refused only for such a reason
pub record IsWarranted (space : ℕ) (now : World) (before : ℕ) (step : Move) : Type 0 where
  pub only : IsSome step.shown → IsStatus now step
  pub each : step.refused ≡ false → IsStatus now step → IsSome step.shown
  pub shown : IfSome step.shown (IsPairOf space now)
  pub refused : step.refused ≡ true → IsRefusal space now step.context before

-- so is each of these steps, in the world before it
abbrev pub AllWarrantedFrom : (space : ℕ) → World → (before : ℕ) → List Move → Type 0
AllWarrantedFrom space now before [] = Unit {0}
AllWarrantedFrom space now before (step ∷ rest) =
    IsWarranted space now before step
    × AllWarrantedFrom space (after_move now step) (before + 1) rest

-- so is each step of a schedule
abbrev pub AllWarranted : (space : ℕ) → (program : List ℕ) → (schedule : List Entry) → Type 0
AllWarranted space program schedule =
    AllWarrantedFrom space (starting_world program) 0 (moves schedule)

-- behind the old steps, so many of a context: all but the last are plain, and that is shown this
-- pair or none
pub record AddsShown (context made : ℕ) (pair : ℤ × ℤ) (old new : List Move) : Type 0 where
  pub last : Move
  pub is : new ≡ old ++ replicate (made - 1) (plain_move context) ++ last ∷ []
  pub shown : IfSome last.shown (λ one. one ≡ pair)

-- What whoever makes a step is told (PLRM2, 7.1, 8 'vmstatus').
use Rattle.std.specs.Prelude.{◌≢◌, ℕ, ℤ, Bool, Option}
use Rattle.ps_language.specs.Effect as effect
use Rattle.ps_language.specs.Step.{stepped}
use Rattle.ps_language.specs.World.{World}
use Rattle.ps_ctx.specs.declared.notes.Note.{Note}
use Rattle.ps_ctx.specs.declared.notes.Note.TheVariants.{Nothing, TurnEnds, ShowsMemory, Wishes}

-- in the definitions
abbrev pub note_of : Note → effect.Note
note_of Nothing = effect.nothing
note_of TurnEnds = effect.turn_ends
note_of ShowsMemory = effect.shows_memory
note_of (Wishes number) = effect.wishes number

-- it is no vmstatus that acts
abbrev pub IsNoStatus : effect.Note → Type 0
IsNoStatus note = note ≢ effect.shows_memory

-- whether or not it is refused, and whatever it is shown, no vmstatus acts in the step of a context
abbrev pub HasNoStatus : World → (context : ℕ) → Type 0
HasNoStatus now context = (refused : Bool) (shown : Option (ℤ × ℤ))
    → IsNoStatus (stepped now context refused shown).note

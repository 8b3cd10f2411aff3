-- Steps of a run that are sought: what a step of a context does, where that stands, or that it
-- raises an error, by the words of its line.
use Rattle.std.specs.Prelude.{◌≡◌, ⊤, ℕ, ◌&&◌, ◌||◌, Bool, true, false, Option, Some, List}
use Rattle.ps_language.specs.World.{World}
use Rattle.ps_ctx_readers.specs.Errors.{has_new_error_at}
use Rattle.ps_places.specs.declared.positions.Position.{Position}
use Rattle.ps_views.specs.Frames.{coming_text}
use Rattle.ps_states.specs.declared.sought.Sought.{Sought as SoughtOf}
use Rattle.ps_states.specs.declared.sought.Sought.TheVariants.{Doing, Place, Error}
use Rattle.ps_states.specs.Charts.{Chart}
use Rattle.ps_states.specs.Next.{Next}
use Rattle.ps_states.specs.Steps.{step_next, stops_at, tells_error}

-- a step that does this, by the words of its line; that takes what stands at a place; or that
-- raises an error
pub data Sought : Type 0 where
  does : (words : List ℕ) → Sought
  takes : (position : Position) → Sought
  raises : Sought

abbrev pub sought_of : SoughtOf → Sought
sought_of (Doing words) = does words.now
sought_of (Place position) = takes position
sought_of Error = raises

-- the words of its line for what it does
abbrev pub words_of : Next → List ℕ
words_of next = coming_text 30 next.coming next.value

abbrev pub words_at : Chart → World → (identifier : ℕ) → List ℕ
words_at chart now identifier = words_of (step_next chart now identifier)

-- where that stands
abbrev pub place_at : Chart → World → (identifier : ℕ) → Option Position
place_at chart now identifier = (step_next chart now identifier).position

-- an error is told of it: the line of one is printed, or it is a new one in $error, for which the
-- context unwinds
abbrev pub raises_at : World → (identifier : ℕ) → Bool
raises_at after identifier = tells_error after
    || (stops_at after identifier && has_new_error_at after identifier)

-- what is known of the step before it is made; who unwinds for stop raises no error
abbrev pub FitsBefore : Sought → Chart → World → (identifier : ℕ) → Type 0
FitsBefore (does words) chart now identifier = words_at chart now identifier ≡ words
FitsBefore (takes position) chart now identifier = place_at chart now identifier ≡ Some position
FitsBefore raises chart now identifier = stops_at now identifier ≡ false

-- and behind it
abbrev pub FitsBehind : Sought → World → (identifier : ℕ) → Type 0
FitsBehind (does words) after identifier = ⊤
FitsBehind (takes position) after identifier = ⊤
FitsBehind raises after identifier = raises_at after identifier ≡ true

-- the step of a context is such a one: now before it, after behind it
abbrev pub Fits : Sought → Chart → (now after : World) → (identifier : ℕ) → Type 0
Fits sought chart now after identifier =
    FitsBefore sought chart now identifier × FitsBehind sought after identifier

-- What a host is told of the place of an error.
use Rattle.std.specs.Prelude.{◌≡◌, ◌⊎◌, ℕ, List, Option, Some, None, Result, Ok, Err}
use Rattle.ps_places.specs.Positions.{position_in}
use Rattle.ps_walks.specs.declared.raised.RaisedAt.{RaisedAt}
use Rattle.ps_run_hosts.specs.declared.places.HostPlace.{HostPlace}
use Rattle.ps_run_hosts.specs.declared.places.Unplaced.{Unplaced}
use Rattle.ps_run_hosts.specs.declared.places.Unplaced.TheVariants.{Refused, NoError, TooLarge}
use Rattle.ps_run_hosts.specs.declared.hosting.Refusal.TheVariants.{OutOfRange}
use Rattle.ps_run_hosts.specs.Hosts.{AreSettings, code_of_refusal}

abbrev pub code_of_unplaced : Unplaced → ℕ
code_of_unplaced (Refused refusal) = code_of_refusal refusal
code_of_unplaced NoError = 23
code_of_unplaced TooLarge = 27

-- line and column of a byte of the program; zeros where there is none
abbrev pub handed_at : (program : List ℕ) → (step : ℕ) → (begin : Option ℕ) → HostPlace
handed_at program step None = record { step = step; line = 0; column = 0; offset = 0 }
handed_at program step (Some begin) = record {
  step = step;
  line = (position_in program begin).line;
  column = (position_in program begin).column;
  offset = begin;
}

abbrev pub handed_place : (program : List ℕ) → RaisedAt → HostPlace
handed_place program at = handed_at program at.step at.begin

-- a place was told, and 0; or nothing was, and why not
abbrev pub IsPlaceOf : (program : List ℕ) → Result RaisedAt Unplaced → (old new : HostPlace)
    → (code : ℕ) → Type 0
IsPlaceOf program (Ok at) old new code = (new ≡ handed_place program at) × (code ≡ 0)
IsPlaceOf program (Err unplaced) old new code = (new ≡ old) × (code ≡ code_of_unplaced unplaced)

abbrev pub IsPlaceHanded : (program : List ℕ) → (old new : HostPlace) → (code : ℕ) → Type 0
IsPlaceHanded program old new code = (found : Result RaisedAt Unplaced)
    × IsPlaceOf program found old new code

-- by the numbers that a host gives, where they are settings
abbrev pub IsPlaceBy : (numbers program : List ℕ) → (old new : HostPlace) → (code : ℕ) → Type 0
IsPlaceBy numbers program old new code =
    (AreSettings numbers × IsPlaceHanded program old new code)
    ⊎ ((¬ AreSettings numbers) × (new ≡ old) × (code ≡ code_of_refusal OutOfRange))

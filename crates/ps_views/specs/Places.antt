-- The text that tells where an error is.
use Rattle.std.specs.Prelude.{ℕ, zero, suc, ◌-◌, Option, Some, None, List, [], ◌++◌, length}
use Rattle.std.specs.Borrow.{Bor}
use Rattle.std.specs.Prelude.{take, map, nat_lt, codes, if◌then◌else◌}
use Rattle.std.specs.List.{flat_map}
use Rattle.std.specs.Fmt.{decimal}
use Rattle.ps_language.specs.declared.errors.ErrorName.{ErrorName}
use Rattle.ps_language.specs.StepErrors.{error_text}
use Rattle.ps_places.specs.declared.positions.Position.{Position}
use Rattle.ps_views.specs.declared.bytes.Showing.TheVariants.{Word}
use Rattle.ps_views.specs.declared.places.Caller.{Caller}
use Rattle.ps_views.specs.declared.places.Spot.{Spot}
use Rattle.ps_views.specs.declared.places.ErrorPlace.{ErrorPlace}
use Rattle.ps_views.specs.Bytes.{shown_byte}
use Rattle.ps_views.specs.Sources.{source_text}

-- what a program named so
abbrev pub word_text : List ℕ → List ℕ
word_text bytes = map (shown_byte Word) bytes

-- FILE:LINE:COLUMN
abbrev pub position_text : (file : List ℕ) → Position → List ℕ
position_text file position = file
    ++ (codes ":" ++ (decimal position.line ++ (codes ":" ++ decimal position.column)))

-- the name of an error, and the command that failed, if there is one
abbrev pub what_text : ErrorName → (command : Option (Bor (List ℕ))) → List ℕ
what_text error None = error_text error
what_text error (Some command) = error_text error ++ (codes " in " ++ word_text command.now)

-- (context N, step N)
abbrev pub when_text : (context step : ℕ) → List ℕ
when_text context step = codes " (context "
    ++ (decimal context ++ (codes ", step " ++ (decimal step ++ codes ")\n")))

-- a name between two texts, if it is known
abbrev pub named_text : (before : List ℕ) → Option (Bor (List ℕ)) → (behind : List ℕ) → List ℕ
named_text before None behind = []
named_text before (Some name) behind = before ++ (word_text name.now ++ behind)

-- ---- the place itself

-- FILE:LINE:COLUMN, or FILE alone
abbrev pub spot_position_text : (file : List ℕ) → Option Spot → List ℕ
spot_position_text file None = file
spot_position_text file (Some spot) = position_text file spot.position

-- the first line
abbrev pub head_text : ErrorPlace → List ℕ
head_text told = spot_position_text told.file.now told.spot
    ++ (codes ": " ++ (what_text told.error told.command ++ when_text told.context told.step))

-- the line of the source with the mark, and the procedure
abbrev pub spot_text : Option Spot → List ℕ
spot_text None = []
spot_text (Some spot) = source_text spot.line.now (spot.position.column - 1) spot.width
    ++ named_text (codes "  in ") spot.procedure (codes "\n")

-- ---- the callers

-- how often, where it is more than once
abbrev pub times_text : ℕ → List ℕ
times_text times = if nat_lt 1 times then codes ", " ++ (decimal times ++ codes " times") else []

abbrev pub caller_text : (file : List ℕ) → Caller → List ℕ
caller_text file caller = codes "  called from " ++ (position_text file caller.position
    ++ (named_text (codes " in ") caller.procedure [] ++ (times_text caller.times ++ codes "\n")))

-- how many aren't told
abbrev pub more_text : ℕ → List ℕ
more_text zero = []
more_text (suc count) = codes "  and " ++ (decimal (suc count) ++ codes " more\n")

-- ten at most are told one by one
abbrev pub callers_text : (file : List ℕ) → List Caller → List ℕ
callers_text file callers =
    flat_map (caller_text file) (take 10 callers) ++ more_text (length callers - 10)

-- ---- all of it

unfoldable pub where_text : ErrorPlace → List ℕ
where_text told =
    head_text told ++ (spot_text told.spot ++ callers_text told.file.now told.callers.now)

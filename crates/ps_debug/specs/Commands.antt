-- The commands by which a run is walked, and how a line tells one.
use Rattle.std.specs.Prelude.{ℕ, zero, suc, ◌==◌, Option, Some, None, List, [], ◌∷◌, option_map}
use Rattle.std.specs.Prelude.{if◌then◌else◌}
use Rattle.std.specs.Option.{option_or}
use Rattle.std.specs.Char.{is_ascii_whitespace}
use Rattle.ps_places.specs.declared.positions.Position.{Position}
use Rattle.ps_states.specs.Sought.{Sought, does, takes, raises}
pub use Rattle.ps_states.specs.Sought.{sought_of}
use Rattle.ps_debug.specs.declared.commands.Command.{Command as CommandOf}
use Rattle.ps_debug.specs.declared.commands.Command.TheVariants as of
use Rattle.ps_debug.specs.Words.{number_in, position_in, trimmed}

-- so many steps on, or back; to behind a step; on to behind the next that is such a one; the
-- state; what contexts wait for; the commands; the end
pub data Command : Type 0 where
  forward : (steps : ℕ) → Command
  back : (steps : ℕ) → Command
  go_to : (step : ℕ) → Command
  until : (sought : Sought) → Command
  state : Command
  waits : Command
  help : Command
  quit : Command

abbrev pub command_of : CommandOf → Command
command_of (of.Forward steps) = forward steps
command_of (of.Back steps) = back steps
command_of (of.GoTo step) = go_to step
command_of (of.Until sought) = until (sought_of sought)
command_of of.State = state
command_of of.Waits = waits
command_of of.Help = help
command_of of.Quit = quit

-- how many steps a word asks for: one where there is none, and never 0
abbrev pub some_steps : Option ℕ → Option ℕ
some_steps None = None
some_steps (Some zero) = None
some_steps (Some (suc more)) = Some (suc more)

abbrev pub count_in : (word : List ℕ) → Option ℕ
count_in [] = Some 1
count_in (byte ∷ word) = some_steps (number_in (byte ∷ word))

-- what a word seeks: what stands at a place, if it tells one, else a step that does this
abbrev pub wanted : (word : List ℕ) → Option Position → Sought
wanted word None = does word
wanted word (Some position) = takes position

abbrev pub sought_in : (word : List ℕ) → Option Sought
sought_in [] = None
sought_in (byte ∷ word) = Some (wanted (byte ∷ word) (position_in (byte ∷ word)))

-- s N, b N, g N and u WORD
abbrev pub worded : (letter : ℕ) → (word : List ℕ) → Option Command
worded letter word = if letter == 115 then option_map forward (count_in word)
    else (if letter == 98 then option_map back (count_in word)
    else (if letter == 103 then option_map go_to (number_in word)
    else (if letter == 117 then option_map until (sought_in word) else None)))

-- e, p, w, h and q
abbrev pub alone : (letter : ℕ) → Option Command
alone letter = if letter == 101 then Some (until raises)
    else (if letter == 112 then Some state
    else (if letter == 119 then Some waits
    else (if letter == 104 then Some help
    else (if letter == 113 then Some quit else None))))

-- a letter, and a word behind blanks
abbrev pub command_by : List ℕ → Option Command
command_by [] = None
command_by (letter ∷ []) = option_or (alone letter) (worded letter [])
command_by (letter ∷ blank ∷ word) =
    if is_ascii_whitespace blank then worded letter (trimmed word) else None

unfoldable pub command_in : (line : List ℕ) → Option Command
command_in line = command_by (trimmed line)

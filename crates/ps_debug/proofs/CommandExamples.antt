-- What a line asks for, by examples that a near neighbour of the definitions fails.
use Rattle.std.proofs.Common.{◌≡◌, Option, Some, None, refl, codes}
use Rattle.ps_states.specs.Sought.{does, takes, raises}
use Rattle.ps_debug.specs.Commands.{back, command_in, forward, go_to, help, quit, state, until, waits}
use Rattle.ps_debug.specs.Words.{number_in, position_in, trimmed}

-- ---- one step where no number stands there, and never none
one : command_in (codes "s") ≡ Some (forward 1)
unfolding command_in trimmed
one = refl

twelve : command_in (codes "s 12") ≡ Some (forward 12)
unfolding command_in trimmed number_in
twelve = refl

none : command_in (codes "s 0") ≡ None
unfolding command_in trimmed number_in
none = refl

no_number : command_in (codes "s 1x") ≡ None
unfolding command_in trimmed number_in
no_number = refl

-- blanks don't matter, also before a line's carriage return (13), but for one behind the letter
blanks : command_in (codes "  b  2 ") ≡ Some (back 2)
unfolding command_in trimmed number_in
blanks = refl

joined : command_in (codes "s12") ≡ None
unfolding command_in trimmed
joined = refl

-- ---- the start has a number, and one must stand there
start : command_in (codes "g 0") ≡ Some (go_to 0)
unfolding command_in trimmed number_in
start = refl

nowhere : command_in (codes "g") ≡ None
unfolding command_in trimmed number_in
nowhere = refl

-- a number past those of 64 bits is the last of them
large : command_in (codes "g 18446744073709551616") ≡ Some (go_to 18446744073709551615)
unfolding command_in trimmed number_in
large = refl

-- ---- a place has a line and a column; all else are words
place : command_in (codes "u 4:32") ≡ Some (until (takes (record { line = 4; column = 32 })))
unfolding command_in trimmed number_in position_in
place = refl

no_column : command_in (codes "u 4:") ≡ Some (until (does (codes "4:")))
unfolding command_in trimmed number_in position_in
no_column = refl

words : command_in (codes "u end of the program ")
    ≡ Some (until (does (codes "end of the program")))
unfolding command_in trimmed number_in position_in
words = refl

nothing : command_in (codes "u ") ≡ None
unfolding command_in trimmed
nothing = refl

-- ---- letters that stand alone
error : command_in (codes "e") ≡ Some (until raises)
unfolding command_in trimmed
error = refl

followed : command_in (codes "e 1") ≡ None
unfolding command_in trimmed
followed = refl

all_states : command_in (codes "p") ≡ Some state
unfolding command_in trimmed
all_states = refl

who_waits : command_in (codes "w") ≡ Some waits
unfolding command_in trimmed
who_waits = refl

which : command_in (codes "h") ≡ Some help
unfolding command_in trimmed
which = refl

ends : command_in (codes "q") ≡ Some quit
unfolding command_in trimmed
ends = refl

unknown : command_in (codes "x") ≡ None
unfolding command_in trimmed
unknown = refl

empty : command_in (codes " ") ≡ None
unfolding command_in trimmed
empty = refl

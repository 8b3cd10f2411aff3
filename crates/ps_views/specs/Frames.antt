-- The text of a frame of the execution stack, and of what a step by one does (PLRM2, 3.4).
use Rattle.std.specs.Prelude.{ℕ, zero, suc, ℤ, Option, Some, None, List, [], ◌++◌, codes}
use Rattle.std.specs.Prelude.{if◌then◌else◌}
use Rattle.std.specs.Fmt.{decimal, signed_decimal}
use Rattle.ps_language.specs.StepFrames.{is_past}
use Rattle.ps_places.specs.declared.positions.Position.{Position}
use Rattle.ps_views.specs.declared.frames.FrameLine.{FrameLine}
use Rattle.ps_views.specs.declared.frames.FrameLine.TheVariants.{Program, Text, Procedure, Pending}
use Rattle.ps_views.specs.declared.frames.FrameLine.TheVariants.{Repeat, Loop, For, Forall, Stopped}
use Rattle.ps_views.specs.declared.frames.FrameLine.TheVariants.{Monitor, Bind}
use Rattle.ps_views.specs.declared.frames.Coming.{Coming}
use Rattle.ps_views.specs.declared.frames.Coming.TheVariants.{Nothing, Value, ProgramEnd}
use Rattle.ps_views.specs.declared.frames.Coming.TheVariants.{TextEnd, Turn, Unwinding, Unwound}
use Rattle.ps_views.specs.declared.frames.Coming.TheVariants.{Joining, Entering, Retaking}
use Rattle.ps_views.specs.Lines.{at_text, label_text, cut_line}

-- ---- the line of a frame

-- what it is
abbrev pub frame_word : FrameLine → List ℕ
frame_word (Program position) = codes "program"
frame_word (Text birth at) = codes "string"
frame_word (Procedure position left) = codes "procedure"
frame_word Pending = codes "pending"
frame_word (Repeat left) = codes "repeat"
frame_word Loop = codes "loop"
frame_word (For control increment limit) = codes "for"
frame_word (Forall at) = codes "forall"
frame_word Stopped = codes "stopped"
frame_word (Monitor lock) = codes "monitor"
frame_word Bind = codes "bind"

-- where the program is gone on with
abbrev pub program_text : (file : List ℕ) → Option Position → List ℕ
program_text file None = codes " at its end"
program_text file (Some position) = at_text file (Some position)

-- an integer behind a word
abbrev pub after_text : (word : List ℕ) → ℤ → List ℕ
after_text word number = word ++ signed_decimal number

-- the control value of the next turn, what is added to it each turn, and the limit
abbrev pub range_text : (control increment limit : ℤ) → List ℕ
range_text control increment limit = after_text (codes ", next ") control
    ++ (after_text (codes " by ") increment ++ after_text (codes " to ") limit)

-- how far it is
abbrev pub frame_details : (file : List ℕ) → FrameLine → List ℕ
frame_details file (Program position) = program_text file position
frame_details file (Text birth at) =
    codes " " ++ (decimal birth ++ (codes " at byte " ++ decimal at))
frame_details file (Procedure position left) =
    at_text file position ++ (codes ", " ++ (decimal left ++ codes " left"))
frame_details file Pending = []
frame_details file (Repeat left) = codes ", " ++ (decimal left ++ codes " more")
frame_details file Loop = []
frame_details file (For control increment limit) = range_text control increment limit
frame_details file (Forall at) = codes ", at " ++ decimal at
frame_details file Stopped = []
frame_details file (Monitor lock) = codes " of lock " ++ decimal lock
frame_details file Bind = []

-- of a procedure its name, of a pending value its text
unfoldable pub frame_text : (file : List ℕ) → FrameLine → (label : Option (List ℕ)) → List ℕ
frame_text file frame label = codes "  frame " ++ (frame_word frame
    ++ (label_text label ++ (frame_details file frame ++ codes "\n")))

-- ---- what a step does

-- a further turn, or the end
abbrev pub repeat_text : (left : ℕ) → List ℕ
repeat_text zero = codes "repeat: ends"
repeat_text (suc left) = codes "repeat: " ++ (decimal (suc left) ++ codes " more")

abbrev pub for_text : (control increment limit : ℤ) → List ℕ
for_text control increment limit = codes "for: "
    ++ (if is_past control increment limit then codes "ends" else signed_decimal control)

-- what a step by such a frame does
abbrev pub turn_text : FrameLine → List ℕ
turn_text (Program position) = codes "program"
turn_text (Text birth at) = codes "string"
turn_text (Procedure position left) = codes "procedure"
turn_text Pending = codes "pending"
turn_text (Repeat left) = repeat_text left
turn_text Loop = codes "loop: once more"
turn_text (For control increment limit) = for_text control increment limit
turn_text (Forall at) = codes "forall: " ++ decimal at
turn_text Stopped = codes "stopped: ends"
turn_text (Monitor lock) = codes "monitor: ends"
turn_text Bind = codes "bind: goes on"

-- what a step does: with a value, which is a token, an element or pending, its text of at most so
-- many bytes
unfoldable pub coming_text : (most : ℕ) → Coming → (value : List ℕ) → List ℕ
coming_text most Nothing value = codes "nothing"
coming_text most Value value = cut_line most value
coming_text most ProgramEnd value = codes "end of the program"
coming_text most TextEnd value = codes "end of a string"
coming_text most (Turn frame) value = turn_text frame
coming_text most (Unwinding frame) value = codes "unwinds " ++ frame_word frame
coming_text most Unwound value = codes "unwinds to the end"
coming_text most Joining value = codes "tries join again"
coming_text most Entering value = codes "tries monitor again"
coming_text most Retaking value = codes "retakes its lock"

-- What a step of a context takes, and where that stands in the program.
use Rattle.std.specs.Prelude.{ℕ, zero, suc, ◌==◌, ◌&&◌, Bool, false, Option, Some, None}
use Rattle.std.specs.Prelude.{List, [], ◌∷◌, map, option_map, if◌then◌else◌}
use Rattle.std.specs.Option.{option_and_then, option_map_or}
use Rattle.ps_language.specs.Value.{Value}
use Rattle.ps_language.specs.World.{Frame, World}
use Rattle.ps_places.specs.declared.origins.Origin.{Origin}
use Rattle.ps_places.specs.Origins.{element_begin, object_begin}
use Rattle.ps_places.specs.Tokens.{token_begin}
use Rattle.ps_ctx_readers.specs.declared.frames.FrameView.{FrameView}
use Rattle.ps_ctx_readers.specs.declared.frames.FrameView.TheVariants as frame
use Rattle.ps_ctx_readers.specs.Frames.{frames_at, seen}
use Rattle.ps_ctx_readers.specs.Names.{procedure_name}
use Rattle.ps_mem.specs.Meaning.{value_of}
use Rattle.ps_walks.specs.declared.raised.Map.{Map}
use Rattle.ps_walks.specs.declared.raised.CallSite.{CallSite}
use Rattle.ps_walks.specs.declared.taken.Taken.{Taken}
use Rattle.ps_walks.specs.declared.taken.Taken.TheVariants.{Token, Text, Element, Nothing}

-- what a step by a frame takes: the next token of a text, or the next element of a procedure
abbrev pub taken_by : (program : List ℕ) → Option FrameView → Taken
taken_by program (Some (frame.Program at)) = Token (token_begin program at)
taken_by program (Some (frame.Text birth at)) = Text birth
taken_by program (Some (frame.Procedure birth next left)) = Element birth next
taken_by program _ = Nothing

-- the element before one
abbrev pub element_before : (birth next : ℕ) → Taken
element_before birth zero = Nothing
element_before birth (suc last) = Element birth last

-- what the last step by a frame took, where the last token of the program begins there
abbrev pub last_of : FrameView → (token : ℕ) → Taken
last_of (frame.Program at) token = Token token
last_of (frame.Text birth at) token = Text birth
last_of (frame.Procedure birth next left) token = element_before birth next
last_of _ token = Nothing

-- where it stands in the program
abbrev pub place_of : (program : List ℕ) → List Origin → Taken → Option ℕ
place_of program origins (Token begin) = Some begin
place_of program origins (Text birth) = object_begin program origins birth
place_of program origins (Element birth index) = element_begin program origins birth index
place_of program origins Nothing = None

-- the birth number of the procedure that it is an element of
abbrev pub procedure_of : Taken → Option ℕ
procedure_of (Element birth index) = Some birth
procedure_of _ = None

-- ---- where an error was raised, and what had called what failed

-- a place in the program, and the name of the procedure that it is in, where that has one
pub record Call : Type 0 where
  pub begin : ℕ
  pub procedure : Option Value

-- what was taken, as far as it stands in the program
abbrev pub call_of : Map → World → Taken → Option Call
call_of m now taken = option_map (λ begin. record {
  begin = begin;
  procedure = option_and_then (procedure_name now m.context) (procedure_of taken);
}) (place_of m.program.now m.origins.now taken)

-- those of them that stand there
unfoldable pub calls_of : Map → World → List Taken → List Call
calls_of m now [] = []
calls_of m now (taken ∷ rest) = option_map_or (λ call. call ∷ calls_of m now rest)
    (call_of m now taken) (calls_of m now rest)

-- the very element, token or string
abbrev pub is_same : Taken → Taken → Bool
is_same (Token begin) (Token other) = begin == other
is_same (Text birth) (Text other) = birth == other
is_same (Element birth index) (Element other place) = (birth == other) && (index == place)
is_same _ _ = false

-- what the topmost frame took last, unless it is what was taken
abbrev pub caller_of : (taken last : Taken) → Taken
caller_of taken last = if is_same taken last then Nothing else last

-- what each frame took last, the topmost first
unfoldable pub callers_of : (taken : Taken) → (token : ℕ) → List Frame → List Taken
callers_of taken token [] = []
callers_of taken token (top ∷ below) = caller_of taken (last_of (seen top) token)
    ∷ map (λ one. last_of (seen one) token) below

-- where a step of a context that took this stands, and what had called it, the innermost first
unfoldable pub trail_of : Map → World → Taken → List Call
trail_of m now taken =
    calls_of m now (taken ∷ callers_of taken m.token (frames_at now m.context))

-- a place as it is meant
abbrev pub meant : (births : ℕ → ℕ) → (names : List (List ℕ)) → CallSite → Call
meant births names place =
    record { begin = place.begin; procedure = option_map (value_of births names) place.procedure }

abbrev pub are_meant : (births : ℕ → ℕ) → (names : List (List ℕ)) → List CallSite → List Call
are_meant births names list = map (meant births names) list

-- The text of the state of a run: of the world behind so many steps.
use Rattle.std.specs.Prelude.{ℕ, suc, ◌==◌, ◌||◌, Bool, Option, Some, None, List, [], ◌∷◌, ◌++◌}
use Rattle.std.specs.Prelude.{length, take, reverse, nat_lt, count_by, codes, option_map}
use Rattle.std.specs.Prelude.{if◌then◌else◌}
use Rattle.std.specs.List.{flat_map}
use Rattle.std.specs.Option.{option_map_or}
use Rattle.ps_language.specs.Access.{dictionary_at}
use Rattle.ps_language.specs.Locks.{is_ready}
use Rattle.ps_language.specs.Owners.{owner_of, is_owner}
use Rattle.ps_language.specs.Readers.{as_dictionary}
use Rattle.ps_language.specs.Texts.{plain_text, full_text}
use Rattle.ps_language.specs.Value.{What, lock_value, condition_value, Value, Store}
use Rattle.ps_language.specs.World.{Frame, procedure_frame, pending_frame, monitor_frame, Context}
use Rattle.ps_language.specs.World.{World}
use Rattle.ps_language.specs.Worlds.{systemdict, userdict}
use Rattle.ps_ctx_readers.specs.Frames.{seen}
use Rattle.ps_ctx_readers.specs.Names.{name_through}
use Rattle.ps_views.specs.Frames.{frame_text}
use Rattle.ps_views.specs.Lines.{label_text}
use Rattle.ps_views.specs.States.{head_text, context_text, next_text, operand_text}
use Rattle.ps_views.specs.States.{dictionary_text, lock_text}
use Rattle.ps_states.specs.Charts.{Chart}
use Rattle.ps_states.specs.Next.{Next, next_of, frame_line}
use Rattle.ps_states.specs.Statuses.{status_line}

-- ---- the lines of a context

-- its identifier and its status; ready: whether it may go on
abbrev pub context_line : Store → (ready : Bool) → (identifier : ℕ) → Context → List ℕ
context_line store ready identifier one = context_text (record {
  identifier = identifier;
  is_detached = one.is_detached;
  status = status_line store ready one;
})

-- what it does next, where it may go on
abbrev pub next_told : (file : List ℕ) → Next → List ℕ
next_told file next = next_text file next.coming next.value next.position

abbrev pub next_line : Chart → Store → (ready : Bool) → Context → List ℕ
next_line chart store ready one =
    if ready then next_told chart.file (next_of chart store one) else []

-- the birth number that is told behind a value: that of a lock or a condition
abbrev pub told_birth : What → Option ℕ
told_birth (lock_value birth) = Some birth
told_birth (condition_value birth) = Some birth
told_birth _ = None

abbrev pub operand_line : Store → Value → List ℕ
operand_line store value = operand_text (full_text store value) (told_birth value.what)

-- six keys at most, each as == shows it
abbrev pub key_text : Store → Value × Value → List ℕ
key_text store pair = label_text (Some (full_text store pair.0))

-- the end of the line of so many
abbrev pub keys_end : (count : ℕ) → List ℕ
keys_end count = if nat_lt 6 count then codes " ..\n" else codes "\n"

abbrev pub keys_text : Store → List (Value × Value) → List ℕ
keys_text store pairs =
    flat_map (key_text store) (take 6 pairs) ++ keys_end (length pairs)

-- a dictionary of the program's own
abbrev pub own_line : Store → (birth : ℕ) → List ℕ
own_line store birth = if (birth == systemdict) || (birth == userdict) then []
    else dictionary_text birth ++ keys_text store (dictionary_at store birth).pairs

abbrev pub dictionary_line : Store → Value → List ℕ
dictionary_line store value = option_map_or (own_line store) (as_dictionary value) []

-- the name of a procedure, and the text of what is pending
abbrev pub frame_label : Store → (dictionaries : List Value) → Frame → Option (List ℕ)
frame_label store dictionaries (procedure_frame rest) =
    option_map (plain_text store) (name_through store rest.birth dictionaries)
frame_label store dictionaries (pending_frame value) = Some (full_text store value)
frame_label store dictionaries frame = None

abbrev pub frame_told : Chart → Store → (dictionaries : List Value) → Frame → List ℕ
frame_told chart store dictionaries frame = frame_text chart.file (frame_line chart (seen frame))
    (frame_label store dictionaries frame)

-- the stacks, each from its top
abbrev pub stacks_text : Chart → Store → Context → List ℕ
stacks_text chart store one = flat_map (operand_line store) one.operands
    ++ (flat_map (dictionary_line store) one.dictionaries
    ++ flat_map (frame_told chart store one.dictionaries) one.frames)

unfoldable pub context_lines : Chart → Store → (ready : Bool) → (identifier : ℕ) → Context
    → List ℕ
context_lines chart store ready identifier one = context_line store ready identifier one
    ++ (next_line chart store ready one ++ stacks_text chart store one)

-- in a world
abbrev pub lines_in : Chart → World → (identifier : ℕ) → Context → List ℕ
lines_in chart now identifier one =
    context_lines chart now.store (is_ready now identifier) identifier one

-- ---- the locks that a context has

-- the birth number of the lock of a frame, where the context has it: while it waits for a condition
-- it hasn't
abbrev pub held_lock : Store → (identifier : ℕ) → Frame → List ℕ
held_lock store identifier (monitor_frame lock) =
    if is_owner identifier (owner_of store lock) then lock ∷ [] else []
held_lock store identifier frame = []

-- of all of them, the outermost first
unfoldable pub locks_of : Store → (identifier : ℕ) → Context → List ℕ
locks_of store identifier one = flat_map (held_lock store identifier) (reverse one.frames)

-- a line each
abbrev pub lock_lines : Store → (identifier : ℕ) → Context → List ℕ
lock_lines store identifier one =
    flat_map (λ lock. lock_text lock identifier) (locks_of store identifier one)

-- ---- all of it

-- of each context that isn't ended, by its identifier from so many on
abbrev pub each_context : (ℕ → Context → List ℕ) → (identifier : ℕ) → List (Option Context)
    → List ℕ
each_context text identifier [] = []
each_context text identifier (None ∷ rest) = each_context text (suc identifier) rest
each_context text identifier (Some one ∷ rest) =
    text identifier one ++ each_context text (suc identifier) rest

-- how many steps were made of how many, and what they printed (10 is the line feed)
abbrev pub head_of : World → (step steps : ℕ) → List ℕ
head_of now step steps = head_text (record {
  step = step;
  steps = steps;
  bytes = length now.printed;
  lines = count_by (λ byte. byte == 10) now.printed;
})

unfoldable pub state_text : Chart → World → (step steps : ℕ) → List ℕ
state_text chart now step steps = head_of now step steps
    ++ (each_context (lines_in chart now) 1 now.contexts
    ++ each_context (lock_lines now.store) 1 now.contexts)

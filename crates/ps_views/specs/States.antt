-- The lines that tell the state of a run: the world behind so many steps (DPS, multiple execution
-- contexts).
use Rattle.std.specs.Prelude.{ℕ, Bool, true, false, Option, Some, None, List, [], ◌++◌, codes}
use Rattle.std.specs.Fmt.{decimal}
use Rattle.ps_places.specs.declared.positions.Position.{Position}
use Rattle.ps_views.specs.declared.frames.Coming.{Coming}
use Rattle.ps_views.specs.declared.states.StateHead.{StateHead}
use Rattle.ps_views.specs.declared.states.ContextHead.{ContextHead}
use Rattle.ps_views.specs.declared.states.StatusLine.{StatusLine}
use Rattle.ps_views.specs.declared.states.StatusLine.TheVariants.{Ready, Finished, InMonitor}
use Rattle.ps_views.specs.declared.states.StatusLine.TheVariants.{InJoin, ForCondition, Notified}
use Rattle.ps_views.specs.Lines.{at_text, label_text}
use Rattle.ps_views.specs.Frames.{coming_text}

-- how many steps were made, of how many
abbrev pub steps_text : (step steps : ℕ) → List ℕ
steps_text step steps = codes "step " ++ (decimal step
    ++ (codes " of " ++ (decimal steps ++ codes "\n")))

-- what they printed
abbrev pub printed_text : (bytes lines : ℕ) → List ℕ
printed_text bytes lines = codes "printed " ++ (decimal bytes
    ++ (codes " bytes in " ++ (decimal lines ++ codes " lines\n")))

unfoldable pub head_text : StateHead → List ℕ
head_text head = steps_text head.step head.steps ++ printed_text head.bytes head.lines

-- ---- a context

-- a lock that another has
abbrev pub owned_text : (lock owner : ℕ) → List ℕ
owned_text lock owner = decimal lock
    ++ (codes ", which context " ++ (decimal owner ++ codes " has"))

-- whether it may go on, and what it waits for
abbrev pub status_text : StatusLine → List ℕ
status_text Ready = codes "ready"
status_text Finished = codes "finished"
status_text (InMonitor lock owner) = codes "waits in monitor for lock " ++ owned_text lock owner
status_text (InJoin context) = codes "waits in join for context " ++ decimal context
status_text (ForCondition condition lock) = codes "waits for condition " ++ (decimal condition
    ++ (codes ", to retake lock " ++ decimal lock))
status_text (Notified lock owner) = codes "was notified, waits for lock " ++ owned_text lock owner

-- whether nobody joins it
abbrev pub detached_text : Bool → List ℕ
detached_text true = codes " (detached) "
detached_text false = codes " "

unfoldable pub context_text : ContextHead → List ℕ
context_text head = codes "context " ++ (decimal head.identifier
    ++ (detached_text head.is_detached ++ (status_text head.status ++ codes "\n")))

-- what it does next, and where that stands
unfoldable pub next_text : (file : List ℕ) → Coming → (value : List ℕ) → Option Position → List ℕ
next_text file coming value position = codes "  next " ++ (coming_text 60 coming value
    ++ (at_text file position ++ codes "\n"))

-- the number of a lock or a condition
abbrev pub birth_text : Option ℕ → List ℕ
birth_text None = []
birth_text (Some birth) = codes " " ++ decimal birth

unfoldable pub operand_text : (value : List ℕ) → (birth : Option ℕ) → List ℕ
operand_text value birth = codes "  operand"
    ++ (label_text (Some value) ++ (birth_text birth ++ codes "\n"))

-- what the line of a dictionary begins with; its keys follow as labels
unfoldable pub dictionary_text : (birth : ℕ) → List ℕ
dictionary_text birth = codes "  dictionary dict " ++ (decimal birth ++ codes ":")

-- ---- a lock

unfoldable pub lock_text : (lock owner : ℕ) → List ℕ
lock_text lock owner = codes "lock " ++ (decimal lock
    ++ (codes " of context " ++ (decimal owner ++ codes "\n")))

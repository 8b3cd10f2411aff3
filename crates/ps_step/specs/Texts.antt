-- A step by a text: what is scanned, and what it asks for that the language does not say (PLRM2,
-- 3.2, 3.5).
use Rattle.std.specs.Prelude.{◌≡◌, ℕ, ◌^◌, Bool, true, false, List, ◌∷◌, max, ⊤, Option, Result, Ok}
use Rattle.std.specs.Prelude.{Err, IfOk, IfSome}
use Rattle.ps_language.specs.Control.{with_frames}
use Rattle.ps_language.specs.Effect.{Around, Scene}
use Rattle.ps_language.specs.Scan.{scan}
use Rattle.ps_language.specs.StepFrames.{source_bytes}
use Rattle.ps_language.specs.Token.{string_token, procedure_token, Scan, found, faulty}
use Rattle.ps_language.specs.Token.{syntax_fault, limit_fault}
use Rattle.ps_language.specs.Value.{Store}
use Rattle.ps_language.specs.World as world
use Rattle.ps_mem.specs.Heap.{Heap, birth_at}
use Rattle.ps_mem.specs.Shows.{Shows}
use Rattle.ps_scan.specs.declared.tokens.ScanFault.{ScanFault as Fault}
use Rattle.ps_scan.specs.declared.tokens.ScanFault.TheVariants.{Syntax, Limit, Memory}
use Rattle.ps_scan.specs.declared.tokens.Token.{Token}
use Rattle.ps_scan.specs.Shown.{TakesMemory, scan_of, token_of}
use Rattle.ps_ops_control.specs.declared.frames.Source.{Source}
use Rattle.ps_ops_control.specs.declared.frames.Source.TheVariants.{Program, Text as TextOf}
use Rattle.ps_ops_control.specs.declared.frames.Frame.{Frame}
use Rattle.ps_ops_control.specs.Frames.{IsSourceWithin, source_of, frames_in}
use Rattle.ps_ops_state.specs.Acts.{Asked}
use Rattle.ps_ops_state.specs.Lent.{Lent, around_of, scene_of}
use Rattle.ps_step_outcome.specs.Turns.{none_asked}
use Rattle.ps_step_execute.specs.Values.{Asks}
use Rattle.ps_step_tokens.specs.Short.{IsShort}
use Rattle.ps_step_tokens.specs.Tokens.{doing_asks}

-- ---- texts

-- the bytes of a source as they stand
abbrev pub bytes_of : Source → Lent → Store → List ℕ
bytes_of source l s =
    source_bytes (around_of l).program s (source_of (birth_at l.heap) source)

-- what stands at a place of it
abbrev pub scan_at : Source → (at : ℕ) → Lent → Store → Scan
scan_at source at l s = scan (bytes_of source l s) at

-- ---- what was scanned

-- of the program itself, and of a string what was read of it
abbrev pub bytes_scanned : Source → (program list : List ℕ) → List ℕ
bytes_scanned Program program list = program
bytes_scanned (TextOf part) program list = list

-- the outcome is that fault; where memory ran out, what is known is given
abbrev pub IsFaulty : (starved : Type 0) → Fault → Scan → Type 0
IsFaulty starved Syntax outcome = outcome ≡ faulty syntax_fault
IsFaulty starved Limit outcome = outcome ≡ faulty limit_fault
IsFaulty starved Memory outcome = starved

-- the outcome is what was scanned of a text, or its fault
abbrev pub IsScanned : (starved : Type 0) (text : List ℕ) → Result (Option Token) Fault → Scan
    → Type 0
IsScanned starved text (Ok token) outcome = outcome ≡ scan_of text token
IsScanned starved text (Err fault) outcome = IsFaulty starved fault outcome

-- where memory may run out: wherever a list is taken, and at every string
abbrev pub Starves : world.Source → Scan → Type 0
Starves world.from_program outcome = TakesMemory outcome
Starves (world.from_string part) outcome = ⊤

-- in every store that the memory shows, what stands behind a place of a source is what was scanned
-- of the program, or of what was read of a string
abbrev pub Scans : Heap → Source → (at : ℕ) → (program list : List ℕ)
    → Result (Option Token) Fault → Type 0
Scans h source at program list result =
    (names : List (List ℕ)) (s : Store) → Shows h names s
    → IsSourceWithin (birth_at h) s source
    → let whose = source_of (birth_at h) source in
    let outcome = scan (source_bytes program s whose) at in
    IsScanned (Starves whose outcome) (bytes_scanned source program list) result outcome

-- a token that was scanned ends at a place that holds, and is within its limits
abbrev pub IsTaken : (Holds : ℕ → Type 0) (text : List ℕ) → Result (Option Token) Fault → Type 0
IsTaken Holds text =
    λ result. IfOk result (λ token. IfSome token (λ t. Holds t.end
    × IsShort (token_of text t.kind)))

-- ---- what is asked for beside, in a scene and what surrounds it

-- a list that no room is kept for: that of a string that is read, of a string's bytes, and of a
-- procedure's elements
abbrev pub unkept : Asked → Asked
unkept asked =
    record asked { scratch = record asked.scratch { text = max asked.scratch.text (2 ^ 64) } }

-- whether what is scanned takes one
abbrev pub takes_list : Scan → Bool
takes_list (found (string_token (byte ∷ bytes)) end) = true
takes_list (found (procedure_token elements) end) = true
takes_list (faulty fault) = true
takes_list outcome = false

abbrev pub with_list : Bool → Asked → Asked
with_list true asked = unkept asked
with_list false asked = asked

-- a string is read into a list too
abbrev pub source_asks : world.Source → Scan → Asked → Asked
source_asks world.from_program outcome asked = with_list (takes_list outcome) asked
source_asks (world.from_string part) outcome asked = unkept asked

module _ (asks : Asks) where
  -- of the token, once the text has gone on
  abbrev pub taking_asks : world.Source → (below : List world.Frame) → Scan → Around → Scene
      → Asked
  taking_asks source below (found token end) around scene =
      doing_asks asks token around (with_frames (world.text_frame source end ∷ below) scene)
  taking_asks source below outcome around scene = none_asked

  -- of a step by a text
  abbrev pub reading_asks : world.Source → (at : ℕ) → (below : List world.Frame) → Around → Scene
      → Asked
  reading_asks source at below around scene =
      let outcome : Scan = scan (source_bytes around.program scene.store source) at in
      source_asks source outcome (taking_asks source below outcome around scene)

  -- of what is lent
  abbrev pub scanned_asks : Source → (below : List Frame) → Scan → Lent → Store → Asked
  scanned_asks source below outcome l s =
      taking_asks (source_of (birth_at l.heap) source) (frames_in l.heap l.names below) outcome
      (around_of l) (scene_of l s)

  abbrev pub text_asks : Source → (at : ℕ) → (below : List Frame) → Lent → Store → Asked
  text_asks source at below l s =
      reading_asks (source_of (birth_at l.heap) source) at (frames_in l.heap l.names below)
      (around_of l) (scene_of l s)

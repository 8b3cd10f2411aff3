-- Which steps are such as are sought, by laws and examples that a near neighbour of the definitions
-- fails.
use Rattle.std.proofs.Common.{◌≡◌, ◌∙◌, refl, ap, ℕ, List, [], ◌++◌, Bool, true, false, Option, Some, None, codes}
use Rattle.std.specs.Prelude.{◌&&◌, ◌||◌, if◌then◌else◌}
use Rattle.ps_language.specs.Contexts.{context_at}
use Rattle.ps_language.specs.World.{World}
use Rattle.ps_views.specs.Frames.{coming_text}
use Rattle.ps_ctx_readers.specs.Errors.{has_new_error_at}
use Rattle.ps_states.specs.Charts.{Chart}
use Rattle.ps_states.specs.Sought.{does, FitsBefore, FitsBehind, raises, raises_at}
use Rattle.ps_states.specs.Steps.{error_label, stop_text, stopped, stops_at, tells_error}

-- ---- an error is sought by the word that a step's line has of it

-- tells: a line of an error is printed; stops: it unwinds for stop; new: $error tells a new one
told_of : (tells stops new : Bool) (error stop : List ℕ) → tells || (stops && new) ≡ true
    → (if tells || stops then Some (if tells || new then error else stop) else None) ≡ Some error
told_of true stops new error stop raised = refl
told_of false true true error stop raised = refl
told_of false true false error stop raised = cc
told_of false false new error stop raised = cc

untold_of : (tells stops new : Bool) (error stop : List ℕ) → tells || (stops && new) ≡ false
    → (if tells || stops then Some (if tells || new then error else stop) else None)
    ≡ (if stops then Some stop else None)
untold_of true stops new error stop raised = cc
untold_of false true true error stop raised = cc
untold_of false true false error stop raised = refl
untold_of false false new error stop raised = refl

-- who raises one is told so
raised_told : (after : World) (identifier : ℕ) → raises_at after identifier ≡ true
    → stopped false after identifier ≡ Some (codes "error" ++ error_label after identifier)
raised_told after identifier raised = told_of (tells_error after) (stops_at after identifier)
    (has_new_error_at after identifier) (codes "error" ++ error_label after identifier)
    (codes "stops") raised

-- who doesn't isn't
other_told : (after : World) (identifier : ℕ) → raises_at after identifier ≡ false
    → stopped false after identifier
    ≡ (if stops_at after identifier then Some (codes "stops") else None)
other_told after identifier raised = untold_of (tells_error after) (stops_at after identifier)
    (has_new_error_at after identifier) (codes "error" ++ error_label after identifier)
    (codes "stops") raised

-- ---- words

abbrev no_context : World
no_context = record {
  program = [];
  store = [];
  contexts = [];
  printed = [];
  error_lines = 0;
  names = [];
}

abbrev no_chart : Chart
no_chart = record { file = []; program = []; origins = [] }

-- what a step does that isn't made is told as nothing
idle : FitsBefore (does (codes "nothing")) no_chart no_context 1
unfolding context_at coming_text
idle = refl

-- a line of an error in this step is one, whoever's it is
line_printed : FitsBehind raises (record no_context { error_lines = 1 }) 1
line_printed = refl

-- An element that neither sees nor changes frames, under the frame of its procedure.
use Rattle.std.proofs.Common.{◌≡◌, ℕ, Bool, true, false, List, [], ◌∷◌, ◌++◌, Ok, refl, sym, subst}
use Rattle.std.specs.Prelude.{nat_lt, if◌then◌else◌}
use Rattle.ps_word.specs.declared.values.Part.{Part}
use Rattle.ps_word.specs.declared.words.Word.{Word}
use Rattle.ps_ops_control.specs.declared.frames.Frame.{Frame}
use Rattle.ps_ops_control.specs.declared.frames.Frame.TheVariants.{Procedure}
use Rattle.ps_ops_state.specs.Lent.{Lent, IsGood}
use Rattle.ps_ops_state.specs.Attempts.{ordinary}
use Rattle.ps_ops_state.specs.Unframed.{under}
use Rattle.ps_step_outcome.specs.declared.turned.Turned.TheVariants.{Goes}
use Rattle.ps_step_outcome.specs.Turns.{TurnsWith}
use Rattle.ps_step_outcome.proofs.Composing.{restacked_good}
use Rattle.ps_step_execute.specs.declared.under.Under.{Under}
use Rattle.ps_step_execute.specs.declared.under.Under.TheVariants as came
use Rattle.ps_step_execute.specs.Values.{Asks, GoesUnder, treated_asks, treated_turn}
use Rattle.ps_step_frames.specs.declared.elements.Element.{Element}
use Rattle.ps_step_frames.specs.Steps.{above, part_behind, rest_frames, with_frames, DoesUnder, IsElement}
use Rattle.ps_step_frames.proofs.Entered.{left_good, treated_goes}
use Rattle.ps_step_frames.proofs.Framing.{below_good}

-- what is above the frames once the first element was taken
abbrev rest_above : Part → List Frame
rest_above rest = if nat_lt 1 rest.length then Procedure (part_behind 1 rest) ∷ [] else []

above_is : (rest : Part) (below : List Frame) → rest_above rest ++ below ≡ rest_frames rest below
above_is rest below = by (nat_lt 1 rest.length)
  where
    by : (some : Bool) → (if some then Procedure (part_behind 1 rest) ∷ [] else []) ++ below
        ≡ (if some then Procedure (part_behind 1 rest) ∷ below else below)
    by true = refl
    by false = refl

-- what is below the procedure
pub good_below : (l : Lent) (rest : Part) → IsGood (above rest l) → IsGood l
good_below l rest good =
    restacked_good (above rest l) l.operands l.frames (below_good (above rest l) good) good

pub does_under : (asks : Asks) (l new : Lent) (rest : Part) (element : Element)
    → IsGood (above rest l) → IsElement asks l.heap l.dictionaries rest 0 element
    → (slot : ℕ) (came : Under)
    → ((command : Word) → GoesUnder (element.value ∷ command ∷ []) (treated_asks asks element.value)
    (treated_turn command element.value) slot came l new)
    → DoesUnder asks rest slot came l new
does_under asks l new rest element good is slot came.Done goes =
    let left : Lent = with_frames (rest_frames rest l.frames) l in
    let after : Lent = with_frames (rest_frames rest new.frames) new in
    let held : IsGood left = left_good asks l rest element good is in
    let turns = goes element.word (rest_above rest)
    (subst (λ (fs : List Frame). IsGood (with_frames fs l)) (sym (above_is rest l.frames)) held)
    (is.value_held, (is.held, tt)) in
    treated_goes asks l rest element good is (ordinary slot) after
    (subst (λ (fs : List Frame). TurnsWith (element.value ∷ element.word ∷ []) []
    (treated_asks asks element.value) (treated_turn element.word element.value) (ordinary slot)
    (Ok Goes) left (with_frames fs new)) (above_is rest new.frames)
    (subst (λ (fs : List Frame). TurnsWith (element.value ∷ element.word ∷ []) []
    (treated_asks asks element.value) (treated_turn element.word element.value) (ordinary slot)
    (Ok Goes) (with_frames fs l) (under (rest_above rest) new)) (above_is rest l.frames) turns))
does_under asks l new rest element good is slot came.Fails undone = undone element.word
does_under asks l new rest element good is slot came.Left same = same element.word

-- An element as its value is treated, over the frames that are left.
use Rattle.std.proofs.Common.{[], ◌∷◌, Ok, refl}
use Rattle.ps_word.specs.declared.values.Part.{Part}
use Rattle.ps_ops_state.specs.declared.lent.Attempt.{Attempt}
use Rattle.ps_ops_state.specs.Lent.{Lent, IsGood}
use Rattle.ps_step_outcome.specs.declared.turned.Turned.TheVariants.{Goes}
use Rattle.ps_step_outcome.specs.Turns.{Turns, TurnsWith}
use Rattle.ps_step_outcome.proofs.Composing.{restacked_good}
use Rattle.ps_step_execute.specs.Values.{Asks, treated_asks, treated_turn}
use Rattle.ps_step_execute.proofs.Alone.{treated_done}
use Rattle.ps_step_frames.specs.declared.elements.Element.{Element}
use Rattle.ps_step_frames.specs.Steps.{above, rest_frames, with_frames, frame_asks, running_turn, IsElement}
use Rattle.ps_step_frames.proofs.Taking.{rest_good, element_made}

module _ (asks : Asks) (l : Lent) (rest : Part) (element : Element) (good : IsGood (above rest l))
    (is : IsElement asks l.heap l.dictionaries rest 0 element) where
  abbrev left : Lent
  left = with_frames (rest_frames rest l.frames) (above rest l)

  pub left_good : IsGood left
  left_good = restacked_good (above rest l) l.operands (rest_frames rest l.frames)
      (rest_good (above rest l) rest l.frames refl good) good

  pub treated_goes : (attempt : Attempt) (after : Lent)
      → TurnsWith (element.value ∷ element.word ∷ []) [] (treated_asks asks element.value)
      (treated_turn element.word element.value) attempt (Ok Goes) left after
      → Turns (frame_asks asks) running_turn attempt (Ok Goes) (above rest l) after
  treated_goes attempt after turns =
      element_made (above rest l) rest l.frames refl element.word
      (λ s shown. is.reads l.names s shown.shows) good
      (λ s shown. is.within l.names s shown.shows) asks attempt Goes after
      (treated_done asks l.heap l.dictionaries element.word element.value is.treats left attempt
      (Ok Goes) after left_good turns)

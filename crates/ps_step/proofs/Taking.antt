-- A token is taken from a text: the frame goes on, and the token is done over it.
use Rattle.std.proofs.Common.{◌≡◌, ℕ, List, ◌∷◌, length, Ok, Err, refl, subst}
use Rattle.ps_language.specs.StepFrames.{frame_turn}
use Rattle.ps_language.specs.Token.{Token, found}
use Rattle.ps_language.specs.Value.{Store}
use Rattle.ps_ops_operands.specs.declared.failure.NotMade.{NotMade as Reason}
use Rattle.ps_ops_control.specs.declared.frames.Source.{Source}
use Rattle.ps_ops_control.specs.declared.frames.Frame.{Frame}
use Rattle.ps_ops_control.specs.declared.frames.Frame.TheVariants.{Text}
use Rattle.ps_ops_control.specs.Frames.{IsSourceAt, AreFrames, AreFramesWithin}
use Rattle.ps_ops_state.specs.declared.lent.Attempt.{Attempt}
use Rattle.ps_ops_state.specs.Acts.{Asked}
use Rattle.ps_ops_state.specs.Lent.{Lent, IsShown, IsGood}
use Rattle.ps_step_outcome.specs.declared.turned.Turned.{Turned}
use Rattle.ps_step_outcome.specs.Turns.{Turns}
use Rattle.ps_step_outcome.proofs.Composing.{AreGood, restacked, restacked_good, restacked_shown, composes}
use Rattle.ps_step_execute.specs.Values.{Asks}
use Rattle.ps_step_frames.specs.Steps.{running_turn}
use Rattle.ps_step_frames.proofs.Framing.{unmade_over}
use Rattle.ps_step_tokens.specs.Tokens.{token_asks, token_turn}
use Rattle.ps_step.specs.Texts.{scan_at, scanned_asks}

module _ (l : Lent) (source : Source) (at : ℕ) (below : List Frame)
    (top : l.frames ≡ Text source at ∷ below) where
  module _ (end : ℕ) (further : IsSourceAt l.heap (length l.program) source end) where
    pub further_good : IsGood l → AreGood l l.operands (Text source end ∷ below)
    further_good good = record {
      operands_held = good.operands;
      frames_held = (
        further,
        (subst (AreFrames l.heap (length l.program)) top good.frames).1,
      );
      operands_within = λ s shown. shown.operands;
      frames_within = λ s shown.
          let frames = subst (AreFramesWithin l.heap l.names s) top shown.frames in
          (frames.0, frames.1);
    }

  module _ (token : Token) (end : ℕ)
      (scanned : (s : Store) → IsShown l s → scan_at source at l s ≡ found token end) where
    pub token_is : (s : Store) → IsShown l s
        → token_turn token (restacked l l.operands (Text source end ∷ below)) s ≡ running_turn l s
    unfolding frame_turn
    token_is s shown = rw (top, scanned s shown) refl

    pub token_asked : (asks : Asks) (s : Store) → IsShown l s
        → token_asks asks token (restacked l l.operands (Text source end ∷ below)) s
        ≡ scanned_asks asks source below (scan_at source at l s) l s
    token_asked asks s shown = rw (scanned s shown) refl

    -- a turn of the token over the text that goes on is the text's
    module _ (asks : Asks) (further : IsSourceAt l.heap (length l.program) source end)
        (good : IsGood l) (attempt : Attempt) where
      abbrev pub behind : Lent
      behind = restacked l l.operands (Text source end ∷ below)

      abbrev pub asked : Lent → Store → Asked
      asked m s = scanned_asks asks source below (scan_at source at m s) m s

      pub behind_good : IsGood behind
      behind_good = restacked_good l l.operands (Text source end ∷ below)
          (further_good end further good) good

      behind_shown : (s : Store) → IsShown l s → IsShown behind s
      behind_shown = restacked_shown l l.operands (Text source end ∷ below)
          (further_good end further good)

      pub token_goes : (turned : Turned) (new : Lent)
          → Turns (token_asks asks token) (token_turn token) attempt (Ok turned) behind new
          → Turns asked running_turn attempt (Ok turned) l new
      token_goes =
          composes l l.operands (Text source end ∷ below) asked (token_asks asks token) running_turn
          (token_turn token) attempt IsShown behind_shown token_is (token_asked asks)

      -- not made; the frame is put back
      pub token_unmade : (reason : Reason) (new : Lent)
          → Turns (token_asks asks token) (token_turn token) attempt (Err reason) behind new
          → Turns asked running_turn attempt (Err reason) l (record new { frames = l.frames })
      token_unmade =
          unmade_over l (Text source end ∷ below) asked (token_asks asks token) running_turn
          (token_turn token) attempt IsShown behind_shown token_is (token_asked asks) good

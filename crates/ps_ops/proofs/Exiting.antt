-- An exit acts.
use Rattle.std.proofs.Common.{◌≡◌, Bool, true, false, Result, refl, sym, subst}
use Rattle.ps_language.specs.declared.errors.ErrorName.TheVariants.{InvalidExit}
use Rattle.ps_language.specs.Control.{is_in_loop, exit_effect}
use Rattle.ps_language.specs.Rows.{scene_row}
use Rattle.ps_ops_control.specs.Frames.{frames_in}
use Rattle.ps_ops_control.specs.declared.frames.Cause.TheVariants.{Exit}
use Rattle.ps_ops_state.specs.declared.breaks.Break.{Break}
use Rattle.ps_ops_state.specs.declared.lent.Attempt.{Attempt}
use Rattle.ps_ops_state.specs.Lent.{Lent, IsGood}
use Rattle.ps_ops_state.specs.Acts.{nothing_asked, Acts}
use Rattle.ps_ops_state.proofs.Acting.{raised_acts}
use Rattle.ps_ops_state.proofs.Lifts.{unwinds_acts}
use Rattle.ps_ops.specs.Exits.{exit_as}

module _ (l : Lent) (good : IsGood l) (attempt : Attempt) where
  abbrev exits_as : Bool → Type 0
  exits_as loops = is_in_loop (frames_in l.heap l.names l.frames) ≡ loops
      → Acts nothing_asked (scene_row exit_effect) attempt (exit_as loops) l l

  exit_by : (loops : Bool) → exits_as loops
  exit_by true is = unwinds_acts l good attempt exit_effect Exit (λ store. rw is refl)
  exit_by false is = raised_acts (scene_row exit_effect) attempt nothing_asked l good InvalidExit
      (λ store shown. rw is refl)

  pub exit_acts : (result : Result Unit Break)
      → result ≡ exit_as (is_in_loop (frames_in l.heap l.names l.frames))
      → Acts nothing_asked (scene_row exit_effect) attempt result l l
  exit_acts result is =
      subst (λ (r : Result Unit Break). Acts nothing_asked (scene_row exit_effect) attempt r l l)
      (sym is) (exit_by (is_in_loop (frames_in l.heap l.names l.frames)) refl)

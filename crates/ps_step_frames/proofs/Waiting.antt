-- `exec` acts: its operand waits above the frames.
use Rattle.std.proofs.Common.{◌≡◌, ℕ, ◌<◌, arith, Bool, true, List, [], ◌∷◌, drop, length, Some, Ok, refl, ap, ◌∙◌}
use Rattle.std.proofs.Common.{append-nil}
use Rattle.std.proofs.lemmas.List.{drop-map}
use Rattle.ps_language.specs.declared.operators.Operator.TheVariants.{Exec}
use Rattle.ps_language.specs.Control.{exec_row}
use Rattle.ps_language.specs.Effect.{Scene, effect_by, quiet}
use Rattle.ps_language.specs.Machines.{after_turn, reaches, settled, with_scene}
use Rattle.ps_language.specs.Outcome.{Outcome, leaves}
use Rattle.ps_language.specs.StepValues.{command_of, effect_turn, operated, tries}
use Rattle.ps_language.specs.Value.{Store}
use Rattle.ps_language.specs.World.{running, Machine}
use Rattle.ps_word.specs.declared.values.Content.TheVariants.{Operator}
use Rattle.ps_word.specs.declared.words.Word.{Word}
use Rattle.ps_word.specs.Format.{content_in, executable_in}
use Rattle.ps_mem.specs.Heap.{birth_at}
use Rattle.ps_mem.specs.Meaning.{value_of}
use Rattle.ps_mem.specs.Shows.{IsValue, IsWithin}
use Rattle.ps_stacks.specs.Tops.{first_of}
use Rattle.ps_ops_operands.proofs.Held.{first_held, rest_held}
use Rattle.ps_ops_control.specs.declared.frames.Frame.TheVariants.{Pending}
use Rattle.ps_ops_control.specs.Frames.{frame_of}
use Rattle.ps_ops_control.proofs.Rooms.{fits}
use Rattle.ps_ops_control.proofs.Rows.{exec_begins}
use Rattle.ps_ops_state.specs.declared.lent.Attempt.{Attempt}
use Rattle.ps_ops_state.specs.Lent.{Lent, scene_of, IsGood}
use Rattle.ps_ops_state.proofs.Meeting.{keeps-same, lacks_for_same, lasts-same, logs-same, stays_as, at_least-same}
use Rattle.ps_step_outcome.specs.declared.turned.Turned.TheVariants.{Goes}
use Rattle.ps_step_outcome.specs.Turns.{Turns, TurnsWith}
use Rattle.ps_step_outcome.proofs.Composing.{AreGood, restacked, restacked_good, restacked_shown}
use Rattle.ps_step_execute.specs.Values.{Asks, operated_asks, operated_turn, treated_asks, treated_turn}
use Rattle.ps_step_execute.proofs.Executing.{operator_acts, treated_executable}

module _ (l : Lent) (good : IsGood l) (waiting : Word) (top : Some waiting ≡ first_of l.operands)
    (room : length l.frames < 250) where
  abbrev waits : Lent
  waits = restacked l (drop 1 l.operands) (Pending waiting ∷ l.frames)

  waits_good : AreGood l (drop 1 l.operands) (Pending waiting ∷ l.frames)
  waits_good = record {
    operands_held = rest_held (IsValue l.heap) l.operands good.operands 1;
    frames_held = (first_held (IsValue l.heap) l.operands good.operands waiting top, good.frames);
    operands_within = λ s shown.
        rest_held (IsWithin (birth_at l.heap) l.names s) l.operands shown.operands 1;
    frames_within = λ s shown. (
      first_held (IsWithin (birth_at l.heap) l.names s) l.operands shown.operands waiting top,
      shown.frames,
    );
  }

  row_leaves : (s : Store)
      → exec_row (scene_of l s).operands (scene_of l s) ≡ leaves (scene_of waits s)
  row_leaves s =
      (exec_begins l.heap l.operands waiting top).is l.names (scene_of l s)
      ∙ rw (
        fits (frame_of (birth_at l.heap) l.names) l.frames 1 (omega (arith, room)),
        drop-map (value_of (birth_at l.heap) l.names) 1 l.operands,
      ) refl

  exec_leaves : (s : Store) → operated_turn Exec l s
      ≡ tries (command_of Exec) (scene_of l s) (scene_of waits s) []
  unfolding operated
  exec_leaves s =
      ap (λ (outcome : Outcome Scene). effect_turn Exec (scene_of l s) (effect_by quiet outcome))
      (row_leaves s)

  -- it makes nothing, so a refused step goes on too
  goes : (refused : Bool) (machine : Machine) (s : Store) (printed : List ℕ)
      → machine.printed ≡ printed
      → after_turn refused machine (tries (command_of Exec) (scene_of l s) (scene_of waits s) [])
      ≡ reaches (settled (record (with_scene (scene_of waits s) running machine)
      { printed = printed }))
  goes refused machine s printed was =
      rw (lacks_for_same refused s) (λ i. reaches (settled (record
      (with_scene (scene_of waits s) running machine)
      { printed = (append-nil machine.printed ∙ was) i })))

  exec_acts : (asks : Asks) (attempt : Attempt)
      → Turns (operated_asks asks Exec) (operated_turn Exec) attempt (Ok Goes) l waits
  exec_acts asks attempt = record {
    meets = λ s shown. record {
      did = record {
        after = s;
        shown = restacked_shown l (drop 1 l.operands) (Pending waiting ∷ l.frames) waits_good s
            shown;
        lasts = lasts-same s;
        leaves = tt;
        is = λ machine was address.
            ap (after_turn attempt.refused machine) (exec_leaves s)
            ∙ goes attempt.refused machine s l.printed was;
      };
      logs = logs-same _ l.grants attempt.slot;
    };
    good = restacked_good l (drop 1 l.operands) (Pending waiting ∷ l.frames) waits_good good;
    keeps = keeps-same l.heap;
    stays = stays_as l waits refl refl refl refl (omega arith) (at_least-same _);
    logs = logs-same _ l.grants attempt.slot;
    framed = tt;
    under_way = tt;
  }

  pub exec_treated : (value : Word) → executable_in value.0 ≡ true
      → content_in value.0 ≡ Operator Exec → (asks : Asks) (command : Word) (attempt : Attempt)
      → TurnsWith (value ∷ command ∷ []) [] (treated_asks asks value) (treated_turn command value)
      attempt (Ok Goes) l waits
  exec_treated value may content asks command attempt =
      treated_executable asks command value l attempt (Ok Goes) waits may
      (operator_acts asks command value l attempt (Ok Goes) waits Exec content
      (exec_acts asks attempt))

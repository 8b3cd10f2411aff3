-- Turns over operands and frames alone, with the error that they raise.
use Rattle.std.proofs.Common.{◌≡◌, ◌<◌, ◌≤◌, ℕ, false, List, ◌∷◌, length, Ok, Err, refl, sym, subst, ◌∙◌}
use Rattle.std.specs.Prelude.{Result, Bool, OnOk, OnErr}
use Rattle.ps_language.specs.declared.errors.ErrorName.{ErrorName}
use Rattle.ps_language.specs.declared.errors.ErrorName.TheVariants.{StackOverflow}
use Rattle.ps_language.specs.declared.operators.Operator.{Operator}
use Rattle.ps_language.specs.declared.operators.Operator.TheVariants.{Stopped as StoppedOperator}
use Rattle.ps_language.specs.Value.{Value, Store}
use Rattle.ps_language.specs.Readers.{boolean}
use Rattle.ps_language.specs.StepValues.{Turn, goes, tries, breaks, errs, asks as leaves_to}
use Rattle.ps_language.specs.StepFrames.{frame_turn}
use Rattle.ps_word.specs.declared.words.Word.{Word}
use Rattle.ps_mem.specs.Heap.{Heap, birth_at}
use Rattle.ps_mem.specs.Meaning.{value_of}
use Rattle.ps_ops_operands.specs.Plain.{IsPlain}
use Rattle.ps_ops_operands.proofs.StackRows.{not_full as free_operands, full as full_operands}
use Rattle.ps_ops_operands.specs.declared.failure.NotMade.{NotMade as Reason}
use Rattle.ps_ops_operands.specs.Changes.{values_in}
use Rattle.ps_ops_operands.proofs.Ready.{plain_value, plain_within}
use Rattle.ps_ops_control.specs.declared.frames.Frame.{Frame}
use Rattle.ps_ops_control.specs.declared.frames.Frame.TheVariants.{Stopped}
use Rattle.ps_ops_control.specs.Controls as controls
use Rattle.ps_ops_control.specs.Turns as control
use Rattle.ps_ops_state.specs.declared.lent.Attempt.{Attempt}
use Rattle.ps_ops_state.specs.Lent.{Lent, around_of, IsShown, IsGood}
use Rattle.ps_step_outcome.specs.declared.turned.Turned.{Turned}
use Rattle.ps_step_outcome.specs.declared.turned.Turned.TheVariants.{Goes}
use Rattle.ps_step_outcome.specs.Turns.{Turns, nothing_more, operator_error}
use Rattle.ps_step_outcome.proofs.Composing.{AreGood, restacked, restacked_shown, goes_on, composes, turns_as}
use Rattle.ps_step_frames.specs.Steps.{running_turn, settled_turn, outcome_turn, truth_turn, with_frames}

-- ---- by what operands and frames came to

settled_as : (operator : Operator) (outcome : Result Unit ErrorName) (turn : Turn) (h : Heap)
    (names : List (List ℕ)) (store : Store) (dictionaries : List Value) (after : controls.Stacks)
    → control.TurnsAs operator outcome turn h names store dictionaries after
    → settled_turn operator outcome (controls.scene_of h names store dictionaries after) ≡ turn
settled_as operator (Ok u) (goes scene output) h names store dictionaries after did =
    λ i. goes (did.0 i) (sym did.1 i)
settled_as operator (Err error) (errs raised command kept) h names store dictionaries after did =
    λ i. errs (did.0 i) (sym did.1 i) (sym did.2 i)
settled_as operator (Ok u) (tries command kept scene output) h names store ds after did = absurd did
settled_as operator (Ok u) (breaks cause scene) h names store ds after did = absurd did
settled_as operator (Ok u) (errs error command kept) h names store ds after did = absurd did
settled_as operator (Ok u) (leaves_to calling kept) h names store ds after did = absurd did
settled_as operator (Err e) (goes scene output) h names store ds after did = absurd did
settled_as operator (Err e) (tries command kept scene output) h names store ds after did =
    absurd did
settled_as operator (Err e) (breaks cause scene) h names store ds after did = absurd did
settled_as operator (Err e) (leaves_to calling kept) h names store ds after did = absurd did

module _ (l : Lent) (operator : Operator) (outcome : Result Unit ErrorName) (operands : List Word)
    (frames : List Frame) (did : control.Turns operator outcome l.heap (length l.program)
    (controls.stacks l.operands l.frames) (controls.stacks operands frames)) where
  pub settled_good : AreGood l operands frames
  settled_good = record {
    operands_held = did.ready.operands.values;
    frames_held = did.ready.frames;
    operands_within = λ s shown. (did.within l.names s shown.shows
        (record { operands = shown.operands; frames = shown.frames })).operands;
    frames_within = λ s shown. (did.within l.names s shown.shows
        (record { operands = shown.operands; frames = shown.frames })).frames;
  }

  pub settled_is : (s : Store) → IsShown l s
      → outcome_turn operator outcome (restacked l operands frames) s ≡ running_turn l s
  settled_is s shown =
      settled_as operator outcome (running_turn l s) l.heap l.names s
      (values_in l.heap l.names l.dictionaries) (controls.stacks operands frames)
      (did.meets (around_of l) l.names s (values_in l.heap l.names l.dictionaries) shown.shows
      (record { operands = shown.operands; frames = shown.frames }))

-- ---- the turn, with its error raised

module _ (l : Lent) (good : IsGood l) (attempt : Attempt) (operator : Operator) where
  -- it went on
  pub went : (operands : List Word) (frames : List Frame)
      → control.Turns operator (Ok tt) l.heap (length l.program)
      (controls.stacks l.operands l.frames) (controls.stacks operands frames)
      → Turns nothing_more running_turn attempt (Ok Goes) l (restacked l operands frames)
  went operands frames did =
      goes_on l operands frames nothing_more running_turn attempt
      (settled_good l operator (Ok tt) operands frames did)
      (λ s shown. sym (settled_is l operator (Ok tt) operands frames did s shown)) good

  pub settles : (outcome : Result Unit ErrorName) (operands : List Word) (frames : List Frame)
      → control.Turns operator outcome l.heap (length l.program)
      (controls.stacks l.operands l.frames) (controls.stacks operands frames)
      → (result : Result Turned Reason) (new : Lent) → OnErr outcome (operands ≡ l.operands)
      → OnErr outcome (frames ≡ l.frames) → OnOk outcome (result ≡ Ok Goes)
      → Turns nothing_more (outcome_turn operator outcome) attempt result
      (restacked l operands frames) new
      → Turns nothing_more running_turn attempt result l new
  settles outcome operands frames did (Ok turned) new operands_same frames_same goes_so turns =
      composes l operands frames nothing_more nothing_more running_turn
      (outcome_turn operator outcome) attempt IsShown
      (restacked_shown l operands frames (settled_good l operator outcome operands frames did))
      (settled_is l operator outcome operands frames did) (λ s shown. refl) turned new turns
  settles (Ok u) operands frames did (Err reason) new operands_same frames_same goes_so turns = cc
  settles (Err e) operands frames did (Err reason) new operands_same frames_same goes_so turns =
      turns_as nothing_more nothing_more (outcome_turn operator (Err e)) running_turn attempt
      (Err reason) l new
      (λ s shown. (λ i. outcome_turn operator (Err e)
      (restacked l (sym operands_same i) (sym frames_same i)) s)
      ∙ settled_is l operator (Err e) operands frames did s shown)
      (λ s shown. refl)
      (subst (λ (fs : List Frame). Turns nothing_more (outcome_turn operator (Err e)) attempt
      (Err reason) (restacked l l.operands fs) new) frames_same
      (subst (λ (os : List Word). Turns nothing_more (outcome_turn operator (Err e)) attempt
      (Err reason) (restacked l os frames) new) operands_same turns))

-- ---- the boolean that stopped leaves

module _ (l : Lent) (attempt : Attempt) (truth : Bool) where
  pub truth_full : 500 ≤ length l.operands → (result : Result Turned Reason) (new : Lent)
      → Turns nothing_more (operator_error StoppedOperator StackOverflow) attempt result l new
      → Turns nothing_more (truth_turn truth) attempt result l new
  truth_full many result new turns =
      turns_as nothing_more nothing_more (operator_error StoppedOperator StackOverflow)
      (truth_turn truth) attempt result l new
      (λ s shown. rw (full_operands l.operands (birth_at l.heap) l.names many) refl)
      (λ s shown. refl) turns

  pub truth_pushed : IsGood l → length l.operands < 500 → (w : Word)
      → ((births : ℕ → ℕ) (names : List (List ℕ)) → value_of births names w ≡ boolean truth)
      → IsPlain w
      → Turns nothing_more (truth_turn truth) attempt (Ok Goes) l
      (record l { operands = w ∷ l.operands })
  truth_pushed good few w means plain =
      goes_on l (w ∷ l.operands) l.frames nothing_more (truth_turn truth) attempt
      (record {
        operands_held = (plain_value l.heap w plain, good.operands);
        frames_held = good.frames;
        operands_within = λ s shown.
            (plain_within (birth_at l.heap) l.names s w plain, shown.operands);
        frames_within = λ s shown. shown.frames;
      })
      (λ s shown. rw (
        free_operands l.operands (birth_at l.heap) l.names few,
        means (birth_at l.heap) l.names,
      ) refl) good

-- the end of stopped, over the frames below
pub stopped_is : (l : Lent) (below : List Frame) → l.frames ≡ Stopped ∷ below → (s : Store)
    → IsShown l s → truth_turn false (with_frames below l) s ≡ running_turn l s
unfolding frame_turn
stopped_is l below top s shown = rw top refl

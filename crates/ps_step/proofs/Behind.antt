-- What a procedure's first element came to, without its frame or over it.
use Rattle.std.proofs.Common.{◌≡◌, ℕ, ◌+◌, arith, true, false, List, ◌∷◌, length, Option, Some, None, Ok, refl, sym}
use Rattle.std.proofs.Common.{subst}
use Rattle.std.proofs.lemmas.Bool.{true≢false}
use Rattle.std.specs.Prelude.{Result, is_some}
use Rattle.ps_mem.specs.Keeps.{Keeps}
use Rattle.ps_language.specs.World.{Machine, running}
use Rattle.ps_word.specs.declared.values.Part.{Part}
use Rattle.ps_ops_operands.specs.declared.failure.NotMade.{NotMade as Reason}
use Rattle.ps_ops_control.specs.declared.frames.Frame.{Frame}
use Rattle.ps_ops_control.specs.declared.frames.Frame.TheVariants.{Procedure}
use Rattle.ps_ops_control.specs.Frames.{AreFrames}
use Rattle.ps_ops_state.specs.Lent.{Lent, IsGood}
use Rattle.ps_ops_state.specs.Attempts.{ordinary}
use Rattle.ps_ops_state.specs.Unframed.{IsUndone}
use Rattle.ps_ops_state.proofs.Kept.{frames-good}
use Rattle.ps_ops_state.proofs.Meeting.{lasts-same}
use Rattle.ps_step_outcome.specs.declared.turned.Turned.{Turned}
use Rattle.ps_step_outcome.specs.declared.turned.Turned.TheVariants.{Goes}
use Rattle.ps_step_outcome.specs.Turns.{Turns}
use Rattle.ps_step_execute.specs.Values.{Asks}
use Rattle.ps_step_frames.specs.Steps.{above, frame_asks, rest_frames, running_turn, with_frames}
use Rattle.ps_step_interpreter.specs.Courses.{IsLentBy}
use Rattle.ps_step_interpreter.specs.Makes.{Runs, TurnsBehind}
use Rattle.ps_step_interpreter.specs.OwnSteps.{own_after, HasRun}
use Rattle.ps_step_interpreter.proofs.Running.{run_none, run_then}
use Rattle.ps_step.specs.Elements.{ComesBy}
use Rattle.ps_step.specs.Steps.{own_asks}
use Rattle.ps_step.proofs.Ahead.{goes_behind, runs_then, turned_above}

-- a turn of a procedure above the frames that goes on is a step
pub step_above : (asks : Asks) (slot : ℕ) (rest : Part) (l new : Lent) → IsGood (above rest l)
    → Turns (frame_asks asks) running_turn (ordinary slot) (Ok Goes) (above rest l) new
    → HasRun 1 (above rest l) new
step_above asks slot rest l new good turns =
    goes_behind asks slot 0 (above rest l) new
    (turned_above asks (above rest l) l rest 0 (run_none (above rest l) good) slot (Ok Goes) new
    turns)

-- ---- where nothing was done

module _ (l new : Lent) (rest : Part) {slot : ℕ} (undone : IsUndone slot l new)
    (same : new.frames ≡ l.frames) (good : IsGood (above rest l)) where
  pub undone_good : IsGood (above rest new)
  undone_good = record {
    sound = undone.good.sound;
    operands = undone.good.operands;
    dictionaries = undone.good.dictionaries;
    frames = subst (λ (fs : List Frame). AreFrames new.heap (length new.program)
        (Procedure rest ∷ fs)) (sym same)
        (subst (λ (program : List ℕ). AreFrames new.heap (length program)
        (Procedure rest ∷ l.frames)) (sym undone.stays.program)
        (frames-good l.heap new.heap undone.keeps (length l.program) (Procedure rest ∷ l.frames)
        good.frames));
    error_stands = undone.good.error_stands;
    names = undone.good.names;
    first = undone.good.first;
    empty = undone.good.empty;
  }

  abbrev unchanged : Lent
  unchanged = record l { grants = new.grants; room = new.room; scratch = new.scratch }

  still_lent : (machine : Machine)
      → IsLentBy (above rest l) running machine.error_lines machine
      → IsLentBy (above rest new) running machine.error_lines machine
  still_lent machine lent =
      subst (λ (m : Lent). IsLentBy (above rest m) running machine.error_lines machine)
      (sym (undone.same machine.store (record {
        shows = lent.shown.shows;
        operands = lent.shown.operands;
        dictionaries = lent.shown.dictionaries;
        frames = lent.shown.frames.1;
      })))
      (record {
        shown = record {
          shows = lent.shown.shows;
          operands = lent.shown.operands;
          dictionaries = lent.shown.dictionaries;
          frames = lent.shown.frames;
        };
        scene = lent.scene;
        is_so = lent.is_so;
        error_dictionary = lent.error_dictionary;
        printed = lent.printed;
        error_lines = lent.error_lines;
      })

  run_undone : HasRun 0 (above rest l) (above rest new)
  unfolding own_after
  run_undone = record {
    comes = λ machine lent. record {
      next = machine;
      steps = refl;
      lent = still_lent machine lent;
      lasts = lasts-same machine.store;
      detached = refl;
    };
    good = undone_good;
    keeps = undone.keeps;
    stays = record {
      program = undone.stays.program;
      most = undone.stays.most;
      error_dictionary = undone.stays.error_dictionary;
      formed = undone.stays.formed;
      names = undone.stays.names;
      capacity = undone.stays.capacity;
      scratch = undone.stays.scratch;
    };
  }

  -- the turn over its frame is told
  pub undone_turned : (asks : Asks) (slot : ℕ) (turn : Result Turned Reason) (after : Lent)
      → Turns (frame_asks asks) running_turn (ordinary slot) turn (above rest new) after
      → TurnsBehind (own_asks asks) slot 0 turn (above rest l) after
  undone_turned asks slot turn after turns =
      turned_above asks (above rest l) new rest 0 run_undone slot turn after turns

-- ---- what its first element came to

module _ (asks : Asks) (slot made : ℕ) (start l new : Lent) (rest : Part)
    (makes : HasRun made start (above rest l)) where
  -- a turn that is told
  pub told_behind : (next : Option (Result Turned Reason)) → is_some next ≡ true
      → ComesBy (own_asks asks) slot next rest l new
      → Runs (own_asks asks) slot made next start new
  told_behind None told comes = absurd (true≢false (sym told))
  told_behind (Some turn) told comes =
      let none : made + 0 ≡ made = omega arith in
      subst (λ (n : ℕ). TurnsBehind (own_asks asks) slot n turn start new) none
      (runs_then (own_asks asks) slot made 0 (Some turn) start (above rest l) new makes comes)

  -- a step
  pub step_behind : (next : Option (Result Turned Reason)) → is_some next ≡ false
      → ComesBy (own_asks asks) slot next rest l new
      → (new.frames ≡ l.frames)
      × (HasRun (made + 1) start (with_frames (rest_frames rest new.frames) new)
      × Keeps l.heap new.heap)
  step_behind None none comes = (
    comes.0,
    (
      run_then made 1 start (above rest l) (with_frames (rest_frames rest new.frames) new) makes
          comes.1,
      comes.1.keeps,
    ),
  )
  step_behind (Some turn) none comes = absurd (true≢false none)

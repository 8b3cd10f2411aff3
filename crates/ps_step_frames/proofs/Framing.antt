-- Turns over other frames, which are put back where the step is not made.
use Rattle.std.proofs.Common.{◌≡◌, ℕ, List, drop, length, Ok, Err, refl, sym, ap, subst, ◌∙◌}
use Rattle.ps_language.specs.Value.{Store}
use Rattle.ps_language.specs.StepValues.{Turn, leads}
use Rattle.ps_mem.specs.Heap.{birth_at}
use Rattle.ps_ops_operands.specs.declared.failure.NotMade.{NotMade as Reason}
use Rattle.ps_ops_operands.specs.declared.failure.NotMade.TheVariants.{LogFull, LogClosed, NeedSpace, Memory}
use Rattle.ps_ops_operands.proofs.Held.{rest_held}
use Rattle.ps_ops_control.specs.declared.frames.Frame.{Frame}
use Rattle.ps_ops_control.specs.Frames.{IsFrame, IsFrameWithin, AreFrames}
use Rattle.ps_ops_state.specs.declared.lent.Attempt.{Attempt}
use Rattle.ps_ops_state.specs.Lent.{Lent, scene_of, IsShown, IsGood}
use Rattle.ps_ops_state.specs.Acts.{Asked, Needs, IsReason}
use Rattle.ps_ops_state.proofs.Kept.{frames-good}
use Rattle.ps_step_outcome.specs.declared.turned.Turned.TheVariants.{Goes}
use Rattle.ps_step_outcome.specs.Turns.{TurnsOver, Turns, turn_needs, needs_in, nothing_more}
use Rattle.ps_step_outcome.proofs.Composing.{AreGood, here_good, needs_same, goes_on}

-- ---- frames below the topmost

-- they are good where all are
pub below_good : (l : Lent) → IsGood l → AreGood l l.operands (drop 1 l.frames)
below_good l good = record {
  operands_held = good.operands;
  frames_held = rest_held (IsFrame l.heap (length l.program)) l.frames good.frames 1;
  operands_within = λ s shown. shown.operands;
  frames_within = λ s shown.
      rest_held (IsFrameWithin (birth_at l.heap) l.names s) l.frames shown.frames 1;
}

-- ---- nothing is done

pub goes_here : (l : Lent) → IsGood l → (turn : Lent → Store → Turn) (attempt : Attempt)
    → ((s : Store) → IsShown l s → turn l s ≡ leads (scene_of l s))
    → Turns nothing_more turn attempt (Ok Goes) l l
goes_here l good turn attempt is =
    goes_on l l.operands l.frames nothing_more turn attempt (here_good l good) is good

-- ---- a turn over other frames

module _ (l : Lent) (frames : List Frame) where
  reason_as : (needs : Needs) (slot : ℕ) (new : Lent) (reason : Reason)
      → IsReason needs slot (record l { frames = frames }) new reason
      → IsReason needs slot l (record new { frames = l.frames }) reason
  reason_as needs slot new LogFull why = why
  reason_as needs slot new LogClosed why = why
  reason_as needs slot new (NeedSpace words) why = why
  reason_as needs slot new Memory why = why

  -- not made; the frames are put back
  pub unmade_over : (asks over_asks : Lent → Store → Asked) (turn over : Lent → Store → Turn)
      (attempt : Attempt) (stores : Lent → Store → Type 0)
      (shows : (s : Store) → IsShown l s → stores (record l { frames = frames }) s)
      (same : (s : Store) → IsShown l s → over (record l { frames = frames }) s ≡ turn l s)
      (asked : (s : Store) → IsShown l s → over_asks (record l { frames = frames }) s ≡ asks l s)
      → IsGood l → (reason : Reason) (new : Lent)
      → TurnsOver stores over_asks over attempt (Err reason) (record l { frames = frames }) new
      → Turns asks turn attempt (Err reason) l (record new { frames = l.frames })
  unmade_over asks over_asks turn over attempt stores shows same asked good reason new turns = record {
    meets = λ s shown.
        let by = turns.meets s (shows s shown) in
        let birth : ℕ = birth_at l.heap l.error_dictionary in
        let needs : needs_in attempt over_asks over (record l { frames = frames }) s
        ≡ needs_in attempt asks turn l s =
        needs_same l l.operands frames attempt.refused (over_asks (record l { frames = frames }) s) birth s
        (over (record l { frames = frames }) s)
        ∙ (λ i. turn_needs attempt.refused (asked s shown i) birth (scene_of l s)
        (same s shown i)) in
        record {
          did = (
            subst (λ (n : Needs). IsReason n attempt.slot l (record new { frames = l.frames }) reason)
                needs (reason_as _ attempt.slot new reason by.did.0),
            ap (λ (n : Lent). record n { frames = l.frames }) by.did.1,
          );
          logs = by.logs;
        };
    good = record {
      sound = turns.good.sound;
      operands = turns.good.operands;
      dictionaries = turns.good.dictionaries;
      frames = subst (λ (program : List ℕ). AreFrames new.heap (length program) l.frames)
          (sym turns.stays.program)
          (frames-good l.heap new.heap turns.keeps (length l.program) l.frames good.frames);
      error_stands = turns.good.error_stands;
      names = turns.good.names;
      first = turns.good.first;
      empty = turns.good.empty;
    };
    keeps = turns.keeps;
    stays = record {
      program = turns.stays.program;
      most = turns.stays.most;
      error_dictionary = turns.stays.error_dictionary;
      formed = turns.stays.formed;
      names = turns.stays.names;
      capacity = turns.stays.capacity;
      scratch = turns.stays.scratch;
    };
    logs = turns.logs;
    framed = refl;
    under_way = tt;
  }

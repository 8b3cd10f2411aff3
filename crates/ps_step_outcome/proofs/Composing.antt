-- What steps are composed of: a turn that is said otherwise, stacks that are changed, and a turn
-- over changed stacks.
use Rattle.std.proofs.Common.{◌≡◌, ℕ, arith, Bool, List, length, Ok, refl, sym, subst, ◌∙◌, append-nil}
use Rattle.std.specs.Prelude.{Result}
use Rattle.ps_language.specs.Value.{Store}
use Rattle.ps_language.specs.World.{running}
use Rattle.ps_language.specs.StepValues.{Turn, goes, tries, breaks, errs, asks as leaves_to, leads}
use Rattle.ps_language.specs.Machines.{with_scene, settled, reaches}
use Rattle.ps_word.specs.declared.words.Word.{Word}
use Rattle.ps_mem.specs.Heap.{birth_at}
use Rattle.ps_mem.specs.Shows.{AreValues, AreWithin}
use Rattle.ps_ops_operands.specs.declared.failure.NotMade.{NotMade as Reason}
use Rattle.ps_ops_operands.specs.Changes.{KeepsLogsWithin}
use Rattle.ps_ops_control.specs.declared.frames.Frame.{Frame}
use Rattle.ps_ops_control.specs.Frames.{AreFrames, AreFramesWithin}
use Rattle.ps_ops_state.specs.declared.lent.Attempt.{Attempt}
use Rattle.ps_ops_state.specs.Lent.{Lent, scene_of, IsShown, IsGood}
use Rattle.ps_ops_state.specs.Acts.{Asked, Needs, Stays}
use Rattle.ps_ops_state.proofs.Meeting.{keeps-same, lasts-same, logs-same, stays_as, at_least-same}
use Rattle.ps_step_outcome.specs.declared.turned.Turned.{Turned}
use Rattle.ps_step_outcome.specs.declared.turned.Turned.TheVariants.{Goes}
use Rattle.ps_step_outcome.specs.Turns.{IsShownWith, IsTurned, TurnsBy, TurnsOver, Turns, TurnsWith, turn_needs, needs_in}

-- ---- the same turn, said otherwise

-- over fewer stores
pub turns_over : (stores others : Lent → Store → Type 0) (asks other_asks : Lent → Store → Asked)
    (turn other : Lent → Store → Turn) (attempt : Attempt) (result : Result Turned Reason)
    (old new : Lent)
    → ((s : Store) → others old s → stores old s)
    → ((s : Store) → others old s → turn old s ≡ other old s)
    → ((s : Store) → others old s → asks old s ≡ other_asks old s)
    → TurnsOver stores asks turn attempt result old new
    → TurnsOver others other_asks other attempt result old new
turns_over stores others asks other_asks turn other attempt result old new fewer same asked turns =
    record {
      meets = λ s held. subst (λ (t : Turn). TurnsBy
          (turn_needs attempt.refused (other_asks old s) (birth_at old.heap old.error_dictionary)
          (scene_of old s) t) attempt result t s old new) (same s held)
          (subst (λ (a : Asked). TurnsBy
          (turn_needs attempt.refused a (birth_at old.heap old.error_dictionary) (scene_of old s)
          (turn old s)) attempt result (turn old s) s old new) (asked s held)
          (turns.meets s (fewer s held)));
      good = turns.good;
      keeps = turns.keeps;
      stays = turns.stays;
      logs = turns.logs;
      framed = turns.framed;
      under_way = turns.under_way;
    }

pub turns_as : (asks other_asks : Lent → Store → Asked) (turn other : Lent → Store → Turn)
    (attempt : Attempt) (result : Result Turned Reason) (old new : Lent)
    → ((s : Store) → IsShown old s → turn old s ≡ other old s)
    → ((s : Store) → IsShown old s → asks old s ≡ other_asks old s)
    → Turns asks turn attempt result old new → Turns other_asks other attempt result old new
turns_as asks other_asks turn other attempt result old new same asked turns =
    turns_over IsShown IsShown asks other_asks turn other attempt result old new
    (λ s shown. shown) same asked turns

-- what is in hand is within each store that is shown
pub turns_shown : (words : List Word) (frames : List Frame) (asks : Lent → Store → Asked)
    (turn : Lent → Store → Turn) (attempt : Attempt) (result : Result Turned Reason) (old new : Lent)
    → ((s : Store) → IsShown old s → AreWithin old.heap old.names s words)
    → ((s : Store) → IsShown old s → AreFramesWithin old.heap old.names s frames)
    → TurnsWith words frames asks turn attempt result old new → Turns asks turn attempt result old new
turns_shown words frames asks turn attempt result old new words_within frames_within turns =
    turns_over (IsShownWith words frames) IsShown asks asks turn turn attempt result old new
    (λ s shown. record {
      shown = shown;
      words_within = words_within s shown;
      frames_within = frames_within s shown;
    }) (λ s shown. refl) (λ s shown. refl) turns

-- ---- other stacks

module _ (l : Lent) (operands : List Word) (frames : List Frame) where
  abbrev pub restacked : Lent
  restacked = record l { operands = operands; frames = frames }

  -- they are good, and within each store that is shown
  pub record AreGood : Type 0 where
    pub operands_held : AreValues l.heap operands
    pub frames_held : AreFrames l.heap (length l.program) frames
    pub operands_within : (s : Store) → IsShown l s → AreWithin l.heap l.names s operands
    pub frames_within : (s : Store) → IsShown l s → AreFramesWithin l.heap l.names s frames

  pub held_good : AreValues l.heap operands → AreFrames l.heap (length l.program) frames → IsGood l
      → IsGood restacked
  held_good operands_held frames_held good = record {
    sound = good.sound;
    operands = operands_held;
    dictionaries = good.dictionaries;
    frames = frames_held;
    error_stands = good.error_stands;
    names = good.names;
    first = good.first;
    empty = good.empty;
  }

  pub restacked_good : AreGood → IsGood l → IsGood restacked
  restacked_good are good = held_good are.operands_held are.frames_held good

  pub restacked_shown : AreGood → (s : Store) → IsShown l s → IsShown restacked s
  restacked_shown are s shown = record {
    shows = shown.shows;
    operands = are.operands_within s shown;
    dictionaries = shown.dictionaries;
    frames = are.frames_within s shown;
  }

  -- ---- a turn that leaves them

  module _ (stores : Lent → Store → Type 0) (asks : Lent → Store → Asked)
      (turn : Lent → Store → Turn) (attempt : Attempt)
      (shows : (s : Store) → stores l s → IsShown restacked s)
      (leaves : (s : Store) → stores l s → turn l s ≡ leads (scene_of restacked s)) where
    led : (s : Store) → IsShown restacked s
        → IsTurned attempt.refused (leads (scene_of restacked s)) Goes s l restacked
    led s shown = record {
      after = s;
      shown = shown;
      lasts = lasts-same s;
      leaves = tt;
      is = λ machine was address.
          (λ i. reaches (settled (record (with_scene (scene_of restacked s) running machine)
          { printed = (append-nil machine.printed ∙ was) i })));
    }

    pub goes_over : IsGood restacked → TurnsOver stores asks turn attempt (Ok Goes) l restacked
    goes_over good = record {
      meets = λ s held. record {
        did = subst (λ (t : Turn). IsTurned attempt.refused t Goes s l restacked)
            (sym (leaves s held)) (led s (shows s held));
        logs = logs-same _ l.grants attempt.slot;
      };
      good = good;
      keeps = keeps-same l.heap;
      stays = stays_as l restacked refl refl refl refl (omega arith) (at_least-same _);
      logs = logs-same _ l.grants attempt.slot;
      framed = tt;
      under_way = tt;
    }

  pub goes_on : (asks : Lent → Store → Asked) (turn : Lent → Store → Turn) (attempt : Attempt)
      → AreGood → ((s : Store) → IsShown l s → turn l s ≡ leads (scene_of restacked s))
      → IsGood l → Turns asks turn attempt (Ok Goes) l restacked
  goes_on asks turn attempt are leaves good =
      goes_over IsShown asks turn attempt (restacked_shown are) leaves (restacked_good are good)

  -- ---- a turn over them

  pub needs_same : (refused : Bool) (asked : Asked) (birth : ℕ) (s : Store) (turn : Turn)
      → turn_needs refused asked birth (scene_of restacked s) turn
      ≡ turn_needs refused asked birth (scene_of l s) turn
  needs_same refused asked birth s (goes scene output) = refl
  needs_same refused asked birth s (tries command kept scene output) = refl
  needs_same refused asked birth s (breaks cause scene) = refl
  needs_same refused asked birth s (errs error command kept) = refl
  needs_same refused asked birth s (leaves_to calling kept) = refl

  module _ (asks over_asks : Lent → Store → Asked) (turn over : Lent → Store → Turn)
      (attempt : Attempt) (stores : Lent → Store → Type 0)
      (shows : (s : Store) → IsShown l s → stores restacked s)
      (same : (s : Store) → IsShown l s → over restacked s ≡ turn l s)
      (asked : (s : Store) → IsShown l s → over_asks restacked s ≡ asks l s) where
    same_needs : (s : Store) → IsShown l s
        → needs_in attempt over_asks over restacked s ≡ needs_in attempt asks turn l s
    same_needs s shown =
        needs_same attempt.refused (over_asks restacked s) (birth_at l.heap l.error_dictionary) s
        (over restacked s)
        ∙ (λ i. turn_needs attempt.refused (asked s shown i) (birth_at l.heap l.error_dictionary)
        (scene_of l s) (same s shown i))

    stays_over : (new : Lent) → Stays restacked new → Stays l new
    stays_over new stays = record {
      program = stays.program;
      most = stays.most;
      error_dictionary = stays.error_dictionary;
      formed = stays.formed;
      names = stays.names;
      capacity = stays.capacity;
      scratch = stays.scratch;
    }

    pub composes : (turned : Turned) (new : Lent)
        → TurnsOver stores over_asks over attempt (Ok turned) restacked new
        → Turns asks turn attempt (Ok turned) l new
    composes turned new turns = record {
      meets = λ s shown.
          let by = turns.meets s (shows s shown) in
          let did : IsTurned attempt.refused (over restacked s) turned s l new = record {
            after = by.did.after;
            shown = by.did.shown;
            lasts = by.did.lasts;
            leaves = by.did.leaves;
            is = by.did.is;
          } in
          record {
            did = subst (λ (t : Turn). IsTurned attempt.refused t turned s l new) (same s shown) did;
            logs = subst (λ (n : Needs). KeepsLogsWithin n.records l.grants new.grants attempt.slot)
                (same_needs s shown) by.logs;
          };
      good = turns.good;
      keeps = turns.keeps;
      stays = stays_over new turns.stays;
      logs = turns.logs;
      framed = tt;
      under_way = turns.under_way;
    }

-- ---- the stacks as they are

pub here_good : (l : Lent) → IsGood l → AreGood l l.operands l.frames
here_good l good = record {
  operands_held = good.operands;
  frames_held = good.frames;
  operands_within = λ s shown. shown.operands;
  frames_within = λ s shown. shown.frames;
}

-- A turn that was done as another one, to which every machine comes as to it.
use Rattle.std.proofs.Common.{◌≡◌, ℕ, arith, true, List, [], ◌∷◌, Result, Ok, Err, refl, sym, ap, subst, ◌∙◌}
use Rattle.ps_language.specs.declared.errors.ErrorName.{ErrorName}
use Rattle.ps_language.specs.declared.errors.ErrorName.TheVariants.{VmError}
use Rattle.ps_language.specs.Value.{Store}
use Rattle.ps_language.specs.World.{Machine}
use Rattle.ps_language.specs.Effect.{Scene}
use Rattle.ps_language.specs.Objects.{lacks_room}
use Rattle.ps_language.specs.StepValues.{Turn, tries}
use Rattle.ps_language.specs.Machines.{erred, after_turn}
use Rattle.ps_word.specs.declared.words.Word.{Word}
use Rattle.ps_mem.specs.Heap.{Grants, birth_at}
use Rattle.ps_mem.specs.Shows.{IsWithin}
use Rattle.ps_ops_operands.specs.declared.failure.NotMade.{NotMade as Reason}
use Rattle.ps_ops_operands.specs.Changes.{KeepsLogsWithin}
use Rattle.ps_ops_state.specs.declared.lent.Scratch.{Scratch}
use Rattle.ps_ops_state.specs.declared.lent.Attempt.{Attempt}
use Rattle.ps_ops_state.specs.Lent.{Lent, rooms_of, IsEmpty, scene_of, IsShown, IsGood}
use Rattle.ps_ops_state.specs.Acts.{Asked, IsReason, IsAtLeast}
use Rattle.ps_ops_state.proofs.Meeting.{keeps-same, logs-same, logs_more, stays_as, at_least-same, AreNeedsWithin}
use Rattle.ps_ops_state.proofs.Meeting.{reason_more}
use Rattle.ps_step_outcome.specs.declared.turned.Turned.{Turned}
use Rattle.ps_step_outcome.specs.Turns.{TurnsBy, Turns, TurnsWith, turn_needs, error_needs, needs_in, error_turn, nothing_more}
use Rattle.ps_step_outcome.proofs.Composing.{turns_shown}
use Rattle.ps_step_execute.specs.Values.{meaning}

-- ---- turns

module _ (asks over_asks : Lent → Store → Asked) (turn over : Lent → Store → Turn)
    (attempt : Attempt) (l new : Lent) where
  -- every machine comes to the same, for no more
  pub record IsAlike (s : Store) : Type 0 where
    pub is : (machine : Machine) → after_turn attempt.refused machine (turn l s)
        ≡ after_turn attempt.refused machine (over l s)
    pub needs : AreNeedsWithin (needs_in attempt over_asks over l s) (needs_in attempt asks turn l s)

  by_result : (result : Result Turned Reason) (s : Store) → IsAlike s
      → TurnsBy (needs_in attempt over_asks over l s) attempt result (over l s) s l new
      → TurnsBy (needs_in attempt asks turn l s) attempt result (turn l s) s l new
  by_result (Ok turned) s alike by =
      record {
        did = record {
          after = by.did.after;
          shown = by.did.shown;
          lasts = by.did.lasts;
          leaves = by.did.leaves;
          is = λ machine was address. alike.is machine ∙ by.did.is machine was address;
        };
        logs = logs_more _ _ l.grants new.grants attempt.slot alike.needs.records by.logs;
      }
  by_result (Err reason) s alike by =
      record {
        did = (
          reason_more _ _ alike.needs attempt.slot l new reason by.did.0,
          by.did.1,
        );
        logs = by.logs;
      }

  pub done_alike : (result : Result Turned Reason) → ((s : Store) → IsShown l s → IsAlike s)
      → Turns over_asks over attempt result l new → Turns asks turn attempt result l new
  done_alike result alike turns = record {
    meets = λ s shown. by_result result s (alike s shown) (turns.meets s shown);
    good = turns.good;
    keeps = turns.keeps;
    stays = turns.stays;
    logs = turns.logs;
    framed = turns.framed;
    under_way = turns.under_way;
  }

-- ---- errors

module _ (asks : Lent → Store → Asked) (turn : Lent → Store → Turn) (attempt : Attempt)
    (result : Result Turned Reason) (l new : Lent) (command : Word) where
  -- what an error asks for, whatever else is asked
  error_covers : (error : ErrorName) (s : Store)
      → AreNeedsWithin (needs_in attempt nothing_more (error_turn error command) l s)
      (error_needs (asks l s).scratch (birth_at l.heap l.error_dictionary) (scene_of l s) error
      (meaning l command) (scene_of l s))
  error_covers error s = record {
    bytes = omega arith;
    names = omega arith;
    records = omega arith;
    words = refl;
    births = refl;
    scratch = record { text = omega arith; sought = omega arith; words = omega arith };
  }

  error_alike : (error : ErrorName)
      → ((s : Store) → IsShown l s → turn l s ≡ error_turn error command l s) → (s : Store)
      → IsShown l s → IsAlike asks nothing_more turn (error_turn error command) attempt l new s
  error_alike error is s shown = record {
    is = λ machine. ap (after_turn attempt.refused machine) (is s shown);
    needs = subst (λ (t : Turn). AreNeedsWithin
        (needs_in attempt nothing_more (error_turn error command) l s)
        (turn_needs attempt.refused (asks l s) (birth_at l.heap l.error_dictionary)
        (scene_of l s) t)) (sym (is s shown)) (error_covers error s);
  }

  -- a turn that is refused the room that it asks for
  pub record LacksRoom (s : Store) : Type 0 where
    pub scene : Scene
    pub is : turn l s ≡ tries (meaning l command) (scene_of l s) scene []
    pub names : scene.names ≡ l.names
    pub lacking : lacks_room attempt.refused s scene.store ≡ true

  lacks_as : (s : Store) → LacksRoom s
      → IsAlike asks nothing_more turn (error_turn VmError command) attempt l new s
  lacks_as s lack =
      let birth = birth_at l.heap l.error_dictionary in
      record {
        is = λ machine.
            ap (after_turn attempt.refused machine) lack.is
            ∙ (rw lack.lacking (ap (λ (ns : List (List ℕ)). erred machine VmError
            (meaning l command) (record (scene_of l s) { names = ns })) lack.names));
        needs = subst (λ (t : Turn). AreNeedsWithin
            (needs_in attempt nothing_more (error_turn VmError command) l s)
            (turn_needs attempt.refused (asks l s) birth (scene_of l s) t)) (sym lack.is)
            (rw lack.lacking (subst (λ (ns : List (List ℕ)). AreNeedsWithin
            (needs_in attempt nothing_more (error_turn VmError command) l s)
            (error_needs (asks l s).scratch birth (scene_of l s) VmError (meaning l command)
            (record (scene_of l s) { names = ns }))) (sym lack.names) (error_covers VmError s)));
      }

  -- ---- where the command is within each store that is shown

  module _ (within : (s : Store) → IsShown l s → IsWithin (birth_at l.heap) l.names s command)
    where
      errs_here : (error : ErrorName)
          → TurnsWith (command ∷ []) [] nothing_more (error_turn error command) attempt result l new
          → Turns nothing_more (error_turn error command) attempt result l new
      errs_here error = turns_shown (command ∷ []) [] nothing_more (error_turn error command) attempt
          result l new (λ s shown. (within s shown, tt)) (λ s shown. tt)

      -- an error that is raised
      pub raised : (error : ErrorName)
          → ((s : Store) → IsShown l s → turn l s ≡ error_turn error command l s)
          → TurnsWith (command ∷ []) [] nothing_more (error_turn error command) attempt result l new
          → Turns asks turn attempt result l new
      raised error is turns =
          done_alike asks nothing_more turn (error_turn error command) attempt l new result
          (error_alike error is) (errs_here error turns)

      pub lacked : ((s : Store) → IsShown l s → LacksRoom s)
          → TurnsWith (command ∷ []) [] nothing_more (error_turn VmError command) attempt result l new
          → Turns asks turn attempt result l new
      lacked lacks turns =
          done_alike asks nothing_more turn (error_turn VmError command) attempt l new result
          (λ s shown. lacks_as s (lacks s shown)) (errs_here VmError turns)

-- ---- not made, and nothing has changed

module _ (asks : Lent → Store → Asked) (turn : Lent → Store → Turn) (attempt : Attempt) (l : Lent)
    (good : IsGood l) (reason : Reason) (grants : Grants)
    (logs : KeepsLogsWithin 0 l.grants grants attempt.slot) where
  abbrev granted : Lent
  granted = record l { grants = grants }

  pub unmade_granted : ((s : Store) → IsShown l s
      → IsReason (needs_in attempt asks turn l s) attempt.slot l granted reason)
      → Turns asks turn attempt (Err reason) l granted
  unmade_granted why = record {
    meets = λ s shown. record { did = (why s shown, refl); logs = logs };
    good = record {
      sound = good.sound;
      operands = good.operands;
      dictionaries = good.dictionaries;
      frames = good.frames;
      error_stands = good.error_stands;
      names = good.names;
      first = good.first;
      empty = good.empty;
    };
    keeps = keeps-same l.heap;
    stays = stays_as l granted refl refl refl refl (omega arith) (at_least-same _);
    logs = logs;
    framed = refl;
    under_way = tt;
  }

-- nor but what was granted and the room of the lists
module _ (asks : Lent → Store → Asked) (turn : Lent → Store → Turn) (attempt : Attempt) (l : Lent)
    (good : IsGood l) (reason : Reason) (grants : Grants)
    (logs : KeepsLogsWithin 0 l.grants grants attempt.slot) (scratch : Scratch)
    (empty : IsEmpty scratch) (least : IsAtLeast (rooms_of l.scratch) (rooms_of scratch)) where
  abbrev relisted : Lent
  relisted = record l { grants = grants; scratch = scratch }

  pub unmade_listed : ((s : Store) → IsShown l s
      → IsReason (needs_in attempt asks turn l s) attempt.slot l relisted reason)
      → Turns asks turn attempt (Err reason) l relisted
  unmade_listed why = record {
    meets = λ s shown. record { did = (why s shown, refl); logs = logs };
    good = record {
      sound = good.sound;
      operands = good.operands;
      dictionaries = good.dictionaries;
      frames = good.frames;
      error_stands = good.error_stands;
      names = good.names;
      first = good.first;
      empty = empty;
    };
    keeps = keeps-same l.heap;
    stays = stays_as l relisted refl refl refl refl (omega arith) least;
    logs = logs;
    framed = refl;
    under_way = tt;
  }

pub unmade : (asks : Lent → Store → Asked) (turn : Lent → Store → Turn) (attempt : Attempt) (l : Lent)
    → IsGood l → (reason : Reason)
    → ((s : Store) → IsShown l s → IsReason (needs_in attempt asks turn l s) attempt.slot l l reason)
    → Turns asks turn attempt (Err reason) l l
unmade asks turn attempt l good reason why =
    unmade_granted asks turn attempt l good reason l.grants (logs-same 0 l.grants attempt.slot) why

-- What an operator came to, as a step over every store that is shown.
use Rattle.std.proofs.Common.{◌≡◌, ℕ, arith, true, true≢false, List, [], ◌++◌, length, take, Ok, Err, refl, sym, ap}
use Rattle.std.proofs.Common.{subst, ◌∙◌, append-nil}
use Rattle.std.specs.Prelude.{Result, is_some, unwrap_or}
use Rattle.ps_language.specs.declared.errors.ErrorName.{ErrorName}
use Rattle.ps_language.specs.declared.errors.ErrorName.TheVariants.{Undefined}
use Rattle.ps_language.specs.declared.operators.Operator.{Operator}
use Rattle.ps_language.specs.Value.{Store}
use Rattle.ps_language.specs.World.{running}
use Rattle.ps_language.specs.Effect.{Around, Scene, Effect, calls}
use Rattle.ps_language.specs.Outcome.{fails}
use Rattle.ps_language.specs.Rows.{Row, operand_row, reading_row, changing_row, naming_row, looking_row, stacking_row}
use Rattle.ps_language.specs.Rows.{printing_row, around_row, scene_row, world_row}
use Rattle.ps_language.specs.Acts.{effect_of}
use Rattle.ps_language.specs.StepValues.{effect_turn, operated}
use Rattle.ps_language.specs.Machines.{with_scene, leaves_to_world, after_turn}
use Rattle.ps_mem.proofs.KeepsLemmas.{Keeps-then}
use Rattle.ps_ops_operands.specs.declared.failure.NotMade.{NotMade as Reason}
use Rattle.ps_ops_operands.specs.Changes.{most_records}
use Rattle.ps_ops_control.specs.declared.frames.Cause.{Cause}
use Rattle.ps_ops_control.specs.Turns.{cause_of}
use Rattle.ps_ops_state.specs.declared.breaks.Break.{Break}
use Rattle.ps_ops_state.specs.declared.breaks.Break.TheVariants.{Unwinds, Raises, NotMade}
use Rattle.ps_ops_state.specs.declared.lent.Attempt.{Attempt}
use Rattle.ps_ops_state.specs.Lent.{Lent, scene_of, around_of, IsGood}
use Rattle.ps_ops_state.specs.Acts.{Stays, Acts, effect_in}
use Rattle.ps_ops_state.proofs.Forming.{cut_names}
use Rattle.ps_ops_state.proofs.Meeting.{keeps-same, lasts-same, logs-same, stays_as, at_least-same, stays_then, logs_then}
use Rattle.ps_step_outcome.specs.declared.turned.Turned.{Turned}
use Rattle.ps_step_outcome.specs.declared.turned.Turned.TheVariants.{Goes, Calls}
use Rattle.ps_step_outcome.specs.declared.world_operators.WorldOperator.{WorldOperator}
use Rattle.ps_step_outcome.specs.declared.world_operators.WorldOperator.TheVariants.{CurrentContext, Fork, Join, Detach, Lock, Monitor}
use Rattle.ps_step_outcome.specs.declared.world_operators.WorldOperator.TheVariants.{Condition, Wait, Notify, Yield, VmStatus, VmReclaim}
use Rattle.ps_step_outcome.specs.WorldOperators.{operator_of}
use Rattle.ps_step_outcome.specs.Turns.{Turns, break_turn, operator_error, nothing_more, deed_in, is_for_world, calling_of}
use Rattle.ps_step_execute.specs.Values.{operated_asks, operated_turn}
use Rattle.ps_ops.specs.Operators.{row_now, asked_of}
use Rattle.ps_ops.specs.Turns.{operator_asks}
use Rattle.ps_ops.proofs.Turning.{goes_as, not_made_as, breaks_as, unbroken_as, raised_as, unraised_as}

-- ---- operators that are left to the world

left_effect : (row : Row) → is_some (deed_in row) ≡ true → (around : Around) (scene : Scene)
    → effect_of row around scene
    ≡ calls (unwrap_or (deed_in row) λ operands call. fails Undefined)
left_effect (world_row does) left around scene = refl
left_effect (operand_row does) left around scene = absurd (true≢false (sym left))
left_effect (reading_row does) left around scene = absurd (true≢false (sym left))
left_effect (changing_row does) left around scene = absurd (true≢false (sym left))
left_effect (naming_row does) left around scene = absurd (true≢false (sym left))
left_effect (looking_row does) left around scene = absurd (true≢false (sym left))
left_effect (stacking_row does) left around scene = absurd (true≢false (sym left))
left_effect (printing_row does) left around scene = absurd (true≢false (sym left))
left_effect (around_row does) left around scene = absurd (true≢false (sym left))
left_effect (scene_row does) left around scene = absurd (true≢false (sym left))

-- each of them is left
is_left : (world : WorldOperator) → is_for_world (operator_of world) ≡ true
is_left CurrentContext = refl
is_left Fork = refl
is_left Join = refl
is_left Detach = refl
is_left Lock = refl
is_left Monitor = refl
is_left Condition = refl
is_left Wait = refl
is_left Notify = refl
is_left Yield = refl
is_left VmStatus = refl
is_left VmReclaim = refl

module _ (world : WorldOperator) (attempt : Attempt) (l : Lent) (good : IsGood l) where
  left_here : Turns (operated_asks operator_asks (operator_of world))
      (operated_turn (operator_of world)) attempt (Ok (Calls world)) l l
  unfolding operated
  left_here = record {
    meets = λ store shown. record {
      did = record {
        after = store;
        shown = shown;
        lasts = lasts-same store;
        leaves = refl;
        is = λ machine printed address.
            (λ i. after_turn attempt.refused machine
            (effect_turn (operator_of world) (scene_of l store)
            (left_effect (row_now (operator_of world)) (is_left world) (around_of l)
            (scene_of l store) i)))
            ∙ (λ i. leaves_to_world (calling_of world)
            (record (with_scene (scene_of l store) running machine) { printed = printed i }));
      };
      logs = logs-same _ l.grants attempt.slot;
    };
    good = good;
    keeps = keeps-same l.heap;
    stays = stays_as l l refl refl refl refl (omega arith) (at_least-same _);
    logs = logs-same _ l.grants attempt.slot;
    framed = tt;
    under_way = tt;
  }

  pub left_on : (operator : Operator) → operator_of world ≡ operator
      → Turns (operated_asks operator_asks operator) (operated_turn operator) attempt
      (Ok (Calls world)) l l
  left_on operator is =
      subst (λ (one : Operator). Turns (operated_asks operator_asks one) (operated_turn one) attempt
      (Ok (Calls world)) l l) is left_here

-- ---- for every store

module _ (operator : Operator) (attempt : Attempt) (l : Lent) where
  abbrev effect_at : Store → Effect
  effect_at store = effect_in (row_now operator) l store

  abbrev Does : Result Unit Break → Lent → Type 0
  Does result new = Acts (asked_of operator) (row_now operator) attempt result l new

  abbrev TurnsTo : Result Turned Reason → Lent → Type 0
  TurnsTo result new =
      Turns (operated_asks operator_asks operator) (operated_turn operator) attempt result l new

  pub goes_on : (new : Lent) → Does (Ok tt) new → TurnsTo (Ok Goes) new
  unfolding operated
  goes_on new acts = record {
    meets = λ store shown.
        goes_as operator attempt l store new (effect_at store) _ refl (acts.meets store shown).did
        (acts.meets store shown).logs;
    good = acts.good;
    keeps = acts.keeps;
    stays = acts.stays;
    logs = acts.logs;
    framed = tt;
    under_way = tt;
  }

  pub not_made : (reason : Reason) (new : Lent) → Does (Err (NotMade reason)) new
      → TurnsTo (Err reason) new
  unfolding operated
  not_made reason new acts = record {
    meets = λ store shown.
        not_made_as operator attempt l store reason new (effect_at store) _ refl
        (acts.meets store shown).did (acts.meets store shown).logs;
    good = acts.good;
    keeps = acts.keeps;
    stays = acts.stays;
    logs = acts.logs;
    framed = acts.framed;
    under_way = tt;
  }

  -- the rest is another step
  module _ (mid new : Lent) where
    breaks_on : (cause : Cause) (turned : Turned) → Does (Err (Unwinds cause)) mid
        → Turns nothing_more (break_turn (cause_of cause)) attempt (Ok turned) mid new
        → TurnsTo (Ok turned) new
    unfolding operated
    breaks_on cause turned acts turns = record {
      meets = λ store shown.
          breaks_as operator attempt l store shown mid new acts.logs acts.stays cause turned
          (effect_at store) _ (acts.meets store shown).did turns.meets;
      good = turns.good;
      keeps = Keeps-then l.heap mid.heap new.heap acts.keeps turns.keeps;
      stays = stays_then l mid new acts.stays turns.stays;
      logs = logs_then 0 most_records most_records l.grants mid.grants new.grants attempt.slot
          (omega arith) acts.logs turns.logs;
      framed = tt;
      under_way = turns.under_way;
    }

    not_broken : (cause : Cause) (reason : Reason) → Does (Err (Unwinds cause)) mid
        → Turns nothing_more (break_turn (cause_of cause)) attempt (Err reason) mid new
        → TurnsTo (Err reason) new
    unfolding operated
    not_broken cause reason acts turns = record {
      meets = λ store shown.
          unbroken_as operator attempt l store shown mid new acts.logs acts.stays cause reason
          (effect_at store) _ (acts.meets store shown).did turns.meets;
      good = turns.good;
      keeps = Keeps-then l.heap mid.heap new.heap acts.keeps turns.keeps;
      stays = stays_then l mid new acts.stays turns.stays;
      logs = logs_then 0 0 0 l.grants mid.grants new.grants attempt.slot (omega arith) acts.logs
          turns.logs;
      framed = turns.framed ∙ acts.framed;
      under_way = tt;
    }

    pub broken_on : (cause : Cause) (result : Result Turned Reason)
        → Does (Err (Unwinds cause)) mid
        → Turns nothing_more (break_turn (cause_of cause)) attempt result mid new
        → TurnsTo result new
    broken_on cause (Ok turned) acts turns = breaks_on cause turned acts turns
    broken_on cause (Err reason) acts turns = not_broken cause reason acts turns

    pub raised_on : (error : ErrorName) (turned : Turned) → Does (Err (Raises error)) mid
        → Turns nothing_more (operator_error operator error) attempt (Ok turned) mid new
        → TurnsTo (Ok turned) new
    unfolding operated
    raised_on error turned acts turns = record {
      meets = λ store shown.
          raised_as operator attempt l store shown mid new acts.logs acts.stays error turned
          (effect_at store) _ refl (acts.meets store shown).did turns.meets;
      good = turns.good;
      keeps = Keeps-then l.heap mid.heap new.heap acts.keeps turns.keeps;
      stays = stays_then l mid new acts.stays turns.stays;
      logs = logs_then 0 most_records most_records l.grants mid.grants new.grants attempt.slot
          (omega arith) acts.logs turns.logs;
      framed = tt;
      under_way = turns.under_way;
    }

    -- the names that it formed are taken back
    pub not_raised : IsGood l → (error : ErrorName) (reason : Reason)
        → Does (Err (Raises error)) mid
        → Turns nothing_more (operator_error operator error) attempt (Err reason) mid new
        → (names : List (List ℕ)) → names ≡ l.names
        → TurnsTo (Err reason) (record new { names = names })
    unfolding operated
    not_raised good error reason acts turns names same =
        subst (λ (ns : List (List ℕ)). TurnsTo (Err reason) (record new { names = ns }))
        (sym same) (record {
          meets = λ store shown.
              unraised_as operator attempt l store shown mid new acts.logs acts.stays error reason
              (effect_at store) _ refl (acts.meets store shown).did turns.meets;
          good = record {
            sound = turns.good.sound;
            operands = turns.good.operands;
            dictionaries = turns.good.dictionaries;
            frames = turns.good.frames;
            error_stands = turns.good.error_stands;
            names = good.names;
            first = good.first;
            empty = turns.good.empty;
          };
          keeps = Keeps-then l.heap mid.heap new.heap acts.keeps turns.keeps;
          stays = unnamed_stays;
          logs = logs_then 0 0 0 l.grants mid.grants new.grants attempt.slot (omega arith) acts.logs
              turns.logs;
          framed = turns.framed ∙ acts.framed;
          under_way = tt;
        })
      where
        unnamed_stays : Stays l (record new { names = l.names })
        unnamed_stays =
            let stays = stays_then l mid new acts.stays turns.stays in
            record {
              program = stays.program;
              most = stays.most;
              error_dictionary = stays.error_dictionary;
              formed = [];
              names = sym (append-nil l.names);
              capacity = stays.capacity;
              scratch = stays.scratch;
            }

    pub names_back : Stays l mid → Stays mid new → (count : ℕ) → count ≡ length l.names
        → take count new.names ≡ l.names
    names_back stays later count is =
        ap (take count) (later.names ∙ ap (λ (ns : List (List ℕ)). ns ++ later.formed) stays.names)
        ∙ cut_names l.names stays.formed later.formed count is

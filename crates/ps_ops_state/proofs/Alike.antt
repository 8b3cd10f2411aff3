-- An operator acts by one row where it acts by another of the same effect.
use Rattle.std.proofs.Common.{◌≡◌, List, Result, refl, sym, subst}
use Rattle.ps_language.specs.Value.{Value, Store}
use Rattle.ps_language.specs.Outcome.{Outcome, leaves, fails, Change, unchanged, unnamed}
use Rattle.ps_language.specs.Effect.{Scene}
use Rattle.ps_language.specs.Acts.{operands_effect, change_effect, naming_effect}
use Rattle.ps_language.specs.Rows.{Row}
use Rattle.ps_ops_operands.specs.Changes.{KeepsLogsWithin, spent}
use Rattle.ps_ops_state.specs.declared.breaks.Break.{Break}
use Rattle.ps_ops_state.specs.declared.lent.Attempt.{Attempt}
use Rattle.ps_ops_state.specs.Lent.{Lent, scene_of, IsShown}
use Rattle.ps_ops_state.specs.Acts.{Asked, needs_as, lacks, ActsAs, effect_in, Acts}
use Rattle.ps_ops_state.proofs.Meeting.{meets_by}

module _ (attempt : Attempt) (result : Result Unit Break) (l new : Lent) where
  -- by a row of the same effect on what is shown
  pub effect_acts : (asks : Scene → Asked) (row other : Row)
      → ((store : Store) → IsShown l store → effect_in row l store ≡ effect_in other l store)
      → Acts asks other attempt result l new → Acts asks row attempt result l new
  effect_acts asks row other same did = record {
    meets = λ store shown.
        meets_by asks attempt (scene_of l store) l new result (effect_in row l store)
        (effect_in other l store) (same store shown) (did.meets store shown);
    good = did.good;
    keeps = did.keeps;
    stays = did.stays;
    logs = did.logs;
    framed = did.framed;
  }

  -- by what came to the same
  pub came_acts : (asks : Scene → Asked) (row : Row) (other : Result Unit Break) → result ≡ other
      → Acts asks row attempt other l new → Acts asks row attempt result l new
  came_acts asks row other same did =
      subst (λ (r : Result Unit Break). Acts asks row attempt r l new) (sym same) did

  -- by what is the same asked
  pub asked_acts : (asks others : Scene → Asked) (row : Row)
      → ((store : Store) → IsShown l store → asks (scene_of l store) ≡ others (scene_of l store))
      → Acts others row attempt result l new → Acts asks row attempt result l new
  asked_acts asks others row same did = record {
    meets = λ store shown.
        let met = did.meets store shown in
        let effect = effect_in row l store in
        record {
          did = subst (λ (asked : Asked). ActsAs (needs_as asked (scene_of l store) effect
              (lacks attempt.refused (scene_of l store) effect)) attempt.slot (scene_of l store) result
              effect (lacks attempt.refused (scene_of l store) effect) l new) (sym
              (same store shown)) met.did;
          logs = subst (λ (asked : Asked). KeepsLogsWithin (spent result asked.records) l.grants
              new.grants attempt.slot) (sym (same store shown)) met.logs;
        };
    good = did.good;
    keeps = did.keeps;
    stays = did.stays;
    logs = did.logs;
    framed = did.framed;
  }

-- a row that forms no names, and one that changes operands alone, by what they see
module _ (scene : Scene) where
  pub unchanged_effect : (outcome : Outcome (List Value))
      → change_effect scene (unchanged scene.store outcome) ≡ operands_effect scene outcome
  unchanged_effect (leaves operands) = refl
  unchanged_effect (fails error) = refl

  pub unnamed_effect : (outcome : Outcome Change)
      → naming_effect scene (unnamed scene.names outcome) ≡ change_effect scene outcome
  unnamed_effect (leaves change) = refl
  unnamed_effect (fails error) = refl

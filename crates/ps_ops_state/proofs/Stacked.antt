-- An operator that leaves other operands and dictionaries over the same memory.
use Rattle.std.proofs.Common.{◌≡◌, arith, List, [], ◌∷◌, Result, Ok, Err, refl, sym, ap, subst, ◌∙◌, append-nil}
use Rattle.std.specs.Prelude.{OnOk, OnErr}
use Rattle.ps_language.specs.declared.errors.ErrorName.{ErrorName}
use Rattle.ps_language.specs.Value.{Value, Store}
use Rattle.ps_language.specs.Outcome.{Outcome, leaves, fails}
use Rattle.ps_language.specs.Readers.{push}
use Rattle.ps_language.specs.Effect.{Scene, raises, quiet}
use Rattle.ps_language.specs.Acts.{operands_effect, stacks_effect}
use Rattle.ps_language.specs.Rows.{Row}
use Rattle.ps_language.specs.RowsDictionaries.{same_stack}
use Rattle.ps_word.specs.declared.words.Word.{Word}
use Rattle.ps_mem.specs.Heap.{birth_at}
use Rattle.ps_mem.specs.Meaning.{value_of}
use Rattle.ps_mem.specs.Shows.{IsValue, AreValues, IsWithin, AreWithin}
use Rattle.ps_ops_operands.specs.Does.{DoesAs, Pushes}
use Rattle.ps_ops_operands.specs.Changes.{values_in}
use Rattle.ps_ops_state.specs.declared.breaks.Break.TheVariants.{Raises}
use Rattle.ps_ops_state.specs.declared.lent.Attempt.{Attempt}
use Rattle.ps_ops_state.specs.Breaks.{made}
use Rattle.ps_ops_state.specs.Lent.{Lent, scene_of, IsShown, IsGood}
use Rattle.ps_ops_state.specs.Acts.{Asked, effect_in, Acts}
use Rattle.ps_ops_state.proofs.Acting.{raised_acts, left_acts}
use Rattle.ps_ops_state.proofs.Meeting.{keeps-same, lasts-same, logs-same, stays_as, at_least-same, lacks_for_same}

module _ (row : Row) (l : Lent) where
  module _ (operands dictionaries : List Word) where
    abbrev stacked : Lent
    stacked = record l { operands = operands; dictionaries = dictionaries }

    -- what the row leaves, which is within the store
    pub record Stacks (store : Store) : Type 0 where
      pub is : effect_in row l store ≡ quiet (scene_of stacked store)
      pub operands_within : AreWithin l.heap l.names store operands
      pub dictionaries_within : AreWithin l.heap l.names store dictionaries

    pub stacked_acts : (asks : Scene → Asked) (attempt : Attempt) → IsGood l
        → AreValues l.heap operands → AreValues l.heap dictionaries
        → ((store : Store) → IsShown l store → Stacks store)
        → Acts asks row attempt (Ok tt) l stacked
    stacked_acts asks attempt good operands_held dictionaries_held stacks =
        left_acts row attempt asks l good stacked
        (record {
          sound = good.sound;
          operands = operands_held;
          dictionaries = dictionaries_held;
          frames = good.frames;
          error_stands = good.error_stands;
          names = good.names;
          first = good.first;
          empty = good.empty;
        })
        (keeps-same l.heap) (stays_as l _ refl refl refl refl (omega arith) (at_least-same _))
        (logs-same _ l.grants attempt.slot) λ store shown. record {
          after = store;
          output = [];
          is = (stacks store shown).is;
          enough = lacks_for_same attempt.refused store;
          shown = record {
            shows = shown.shows;
            operands = (stacks store shown).operands_within;
            dictionaries = (stacks store shown).dictionaries_within;
            frames = shown.frames;
          };
          lasts = lasts-same store;
          printed = sym (append-nil l.printed);
          logs = logs-same _ l.grants attempt.slot;
        }

  -- ---- a word is pushed
  module _ (w : Word) where
    -- the row pushes what the word stands for
    pub record PushesIn (store : Store) : Type 0 where
      pub is : effect_in row l store ≡ operands_effect (scene_of l store)
          (push (value_of (birth_at l.heap) l.names w) (scene_of l store).operands)
      pub within : IsWithin (birth_at l.heap) l.names store w

    pushed_is : (store : Store) (outcome : Outcome (List Value))
        → DoesAs (Ok tt) outcome (birth_at l.heap) l.names l.operands (w ∷ l.operands)
        → operands_effect (scene_of l store) outcome
        ≡ quiet (record (scene_of l store) { operands = values_in l.heap l.names (w ∷ l.operands) })
    pushed_is store (leaves left) did =
        ap (λ (vs : List Value). quiet (record (scene_of l store) { operands = vs })) (sym did)
    pushed_is store (fails error) did = absurd did

    full_is : (error : ErrorName) (store : Store) (outcome : Outcome (List Value))
        (after : List Word) → DoesAs (Err error) outcome (birth_at l.heap) l.names l.operands after
        → operands_effect (scene_of l store) outcome ≡ raises error
    full_is error store (leaves left) after did = absurd did
    full_is error store (fails raised) after did = ap raises (sym did.0)

    pub pushed_acts : (asks : Scene → Asked) (attempt : Attempt) → IsGood l → IsValue l.heap w
        → (result : Result Unit ErrorName) (after : List Word) → Pushes w result l.operands after
        → ((store : Store) → IsShown l store → PushesIn store)
        → OnOk result (after ≡ w ∷ l.operands) → OnErr result (after ≡ l.operands)
        → Acts asks row attempt (made result) l (record l { operands = after })
    pushed_acts asks attempt good held (Ok _) after pushes each pushed full =
        subst (λ (ws : List Word). Acts asks row attempt (Ok tt) l (record l { operands = ws }))
        (sym pushed)
        (stacked_acts (w ∷ l.operands) l.dictionaries asks attempt good (held, good.operands)
        good.dictionaries λ store shown. record {
          is = (each store shown).is ∙ pushed_is store _
              (subst (DoesAs (Ok tt) _ (birth_at l.heap) l.names l.operands) pushed
              (pushes.agrees (birth_at l.heap) l.names));
          operands_within = ((each store shown).within, shown.operands);
          dictionaries_within = shown.dictionaries;
        })
    pushed_acts asks attempt good held (Err error) after pushes each pushed full =
        subst (λ (ws : List Word).
        Acts asks row attempt (Err (Raises error)) l (record l { operands = ws })) (sym full)
        (raised_acts row attempt asks l good error λ store shown.
        (each store shown).is ∙ full_is error store _ after
        (pushes.agrees (birth_at l.heap) l.names))

-- the dictionaries stay
pub same_stack_is : (scene : Scene) (outcome : Outcome (List Value))
    → stacks_effect scene (same_stack scene.dictionaries outcome) ≡ operands_effect scene outcome
same_stack_is scene (leaves left) = refl
same_stack_is scene (fails error) = refl

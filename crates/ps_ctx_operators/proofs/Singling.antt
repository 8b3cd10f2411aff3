-- What the operators leave that make a lock or a condition.
use Rattle.std.proofs.Common.{◌≡◌, ℕ, ◌<◌, ◌≤◌, Bool, true, false, List, [], ◌∷◌, ◌++◌, length, map, refl, ap, ◌∙◌}
use Rattle.std.proofs.Common.{arith}
use Rattle.std.proofs.lemmas.Bool.Decides.{nat_tests}
use Rattle.std.proofs.lemmas.List.{length-map}
use Rattle.std.specs.Prelude.{not, Err}
use Rattle.ps_language.specs.declared.errors.ErrorName.TheVariants.{StackOverflow}
use Rattle.ps_language.specs.Value.{Value, Object, Store}
use Rattle.ps_language.specs.Objects.{making, reference_to, size_of}
use Rattle.ps_language.specs.Outcome.{given_that}
use Rattle.ps_language.specs.Readers.{literal, is_full}
use Rattle.ps_word.specs.declared.words.Word.{Word}
use Rattle.ps_mem.specs.Heap.{Heap, birth_at}
use Rattle.ps_mem.specs.Meaning.{value_of}
use Rattle.ps_mem.specs.Shows.{IsWithin, AreWithin, Shows}
use Rattle.ps_ops_operands.specs.Changes.{values_in, Makes}
use Rattle.ps_ops_operands.specs.declared.failure.Failure.TheVariants.{Error}
use Rattle.ps_ops_operands.proofs.Making.{IsMaking, MakesObject}
use Rattle.ps_ops_state.proofs.Asking.{Leaving, IsMade}
use Rattle.ps_ctx_operators.specs.declared.locks.Single.{Single}
use Rattle.ps_ctx_operators.specs.declared.locks.Single.TheVariants.{Lock, Condition}
use Rattle.ps_ctx_operators.specs.Singles.{object_of}
use Rattle.ps_ctx_operators.specs.Rows.{new_part}

-- ---- room for one operand more

pub roomy : {A B : Type 0} (f : A → B) (xs : List A) → length xs < 500
    → is_full (map f xs) ≡ false
unfolding is_full
roomy f xs few = let same = length-map xs f in grind (arith, nat_tests)

pub filled : {A B : Type 0} (f : A → B) (xs : List A) → 500 ≤ length xs → is_full (map f xs) ≡ true
unfolding is_full
filled f xs many = let same = length-map xs f in grind (arith, nat_tests)

-- ---- the row makes an object, if it makes anything

made_where : (object : Object) (store : Store) (operands : List Value) (full : Bool)
    → Leaving (IsMade store)
    (given_that (not full) StackOverflow (making object operands store))
made_where object store operands true = record { such = tt }
made_where object store operands false =
    record { such = record { object = object; grown = refl } }

pub single_made : (object : Object) (store : Store) (operands : List Value)
    → Leaving (IsMade store) (new_part object store operands)
single_made object store operands = made_where object store operands (is_full operands)

size_single : (single : Single) → size_of (object_of single) ≡ 3
size_single Lock = refl
size_single Condition = refl

module _ (single : Single) (h : Heap) (old : List Word) where
  pub single_full : 500 ≤ length old → (refused : Bool)
      → Makes (new_part (object_of single)) refused (Err (Error StackOverflow)) h h old old
  single_full many refused = record {
    meets = λ names s shows within.
        rw (filled (value_of (birth_at h) names) old many) (refl, (refl, refl));
  }

  module _ (few : length old < 500) where
    row_is : (names : List (List ℕ)) (s : Store)
        → new_part (object_of single) s (values_in h names old)
        ≡ making (object_of single) (values_in h names old) s
    row_is names s = rw (roomy (value_of (birth_at h) names) old few) refl

    pub single_making : (names : List (List ℕ)) (s : Store)
        → IsMaking (new_part (object_of single)) h 3 old names s
    single_making names s = record {
      object = object_of single;
      rest = values_in h names old;
      is = row_is names s;
      size = size_single single;
    }

    pub single_object : (now : Heap) (w : Word) (address : ℕ) → birth_at now address ≡ h.next
        → ((births : ℕ → ℕ) (names : List (List ℕ)) → value_of births names w
        ≡ literal (reference_to (object_of single) (births address)))
        → ((births : ℕ → ℕ) (names : List (List ℕ)) (s : Store) → IsWithin births names s w)
        → (names : List (List ℕ)) (s : Store) → Shows h names s → AreWithin h names s old
        → Shows now names (s ++ object_of single ∷ [])
        → MakesObject (new_part (object_of single)) h now old old w names s
    single_object now w address born value inside names s shows within shown = record {
      object = object_of single;
      is = row_is names s;
      reference = value (birth_at now) names
          ∙ ap (λ (b : ℕ). literal (reference_to (object_of single) b)) (born ∙ shows.next);
      word_within = inside (birth_at now) names (s ++ object_of single ∷ []);
      within = within;
      shows = shown;
    }

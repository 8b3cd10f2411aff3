-- What a missing name comes to: it is met, and its error is raised.
use Rattle.std.proofs.Common.{◌≡◌, ℕ, ◌++◌, arith, List, [], ◌∷◌, length, Option, Some, None, Result, Ok, Err, refl}
use Rattle.std.proofs.Common.{sym, ap, subst, ◌∙◌, inl, inr}
use Rattle.std.specs.Prelude.{IfOk, IfSome}
use Rattle.std.proofs.lemmas.List.{length_push}
use Rattle.ps_language.specs.declared.errors.ErrorName.{ErrorName}
use Rattle.ps_language.specs.declared.errors.ErrorName.TheVariants.{LimitCheck}
use Rattle.ps_language.specs.Dictionaries.{form, look_up, meet}
use Rattle.ps_language.specs.Readers.{null, executable_name, literal_name}
use Rattle.ps_language.specs.StepValues.{errs, looked_up, seen}
use Rattle.ps_language.specs.Value.{Value, Store}
use Rattle.ps_word.specs.declared.words.Word.{Word}
use Rattle.ps_mem.specs.Heap.{Heap, birth_at}
use Rattle.ps_mem.specs.Meaning.{value_of}
use Rattle.ps_mem.specs.Shows.{IsWithin}
use Rattle.ps_names.specs.Names.{place_of}
use Rattle.ps_names.proofs.Places.{meet_new}
use Rattle.ps_ops_operands.specs.declared.failure.NotMade.TheVariants.{Memory}
use Rattle.ps_ops_operands.specs.Changes.{values_in}
use Rattle.ps_ops_state.specs.declared.lent.Attempt.{Attempt}
use Rattle.ps_ops_state.specs.Lent.{Lent, IsShown, IsGood}
use Rattle.ps_ops_state.proofs.Forming.{formed_left}
use Rattle.ps_step_outcome.specs.Turns.{Turns, error_turn, nothing_more}
use Rattle.ps_step_lookup.specs.Lookups.{IsSought, found_of}
use Rattle.ps_step_execute.specs.Values.{meaning}
use Rattle.ps_step_tokens.specs.declared.names.NameKind.TheVariants.{Executable}
use Rattle.ps_step_tokens.specs.Missing.{IsMetKey, look_by, missing_turn}
use Rattle.ps_step_tokens.proofs.Alike.{unmade}
use Rattle.ps_step_tokens.proofs.Doing.{one_more}
use Rattle.ps_step_tokens.proofs.Naming.{name_means, name_within}
use Rattle.ps_step_tokens.proofs.Unmet.{look_any}

module _ (l : Lent) (text : List ℕ) (error : ErrorName) where
  pub missing_overflows : form l.names (text ∷ []) ≡ None → (w : Word) → meaning l w ≡ null
      → (s : Store) → missing_turn error text l s ≡ error_turn LimitCheck w l s
  missing_overflows none w means s = rw (none, means) refl

  module _ (names : List (List ℕ)) (formed_is : form l.names (text ∷ []) ≡ Some names) where
    pub missing_as : (more : List (List ℕ)) (are : names ≡ l.names ++ more) (w : Word)
        → value_of (birth_at l.heap) names w ≡ executable_name text → (s : Store) → IsShown l s
        → error_turn error w (record l { names = names }) s ≡ missing_turn error text l s
    missing_as more are w means s shown =
        (λ i. errs error (means i) ((formed_left l more names are s shown).is i))
        ∙ rw formed_is refl

    pub missing_refused : IsGood l → place_of text l.names ≡ None → names ≡ meet l.names text
        → (attempt : Attempt)
        → Turns nothing_more (missing_turn error text) attempt (Err Memory) l l
    missing_refused good unmet met attempt =
        let size = ap length (met ∙ sym (meet_new text l.names unmet))
        ∙ length_push l.names text in
        unmade nothing_more (missing_turn error text) attempt l good Memory λ s shown.
        inr (inl (one_more l names (omega (arith, size)) attempt (nothing_more l s)
        (birth_at l.heap l.error_dictionary) s _ (rw formed_is refl)))

-- ---- looked up by its key

module _ (h : Heap) (names : List (List ℕ)) (dictionaries : List Word) (s : Store)
    (text : List ℕ) where
  abbrev Looks : Option Word → Result (Option (Word × Word)) ErrorName → Type 0
  Looks key result = (k : Value) → IsSought (birth_at h) names s key k
      → look_up s (values_in h names dictionaries) k ≡ found_of (birth_at h) names result

  looked : (key : Option Word) → IsMetKey names text key
      → (result : Result (Option (Word × Word)) ErrorName) → Looks key result
      → look_by h names dictionaries s text ≡ seen (found_of (birth_at h) names result)
  unfolding looked_up
  looked (Some w) met result looks =
      ap seen (looks (executable_name text) (
        sym (name_means Executable w met.0 met.1 names text met.2 (birth_at h)),
        name_within Executable w met.0 met.1 names text met.2 (birth_at h) s,
      ))
  looked None met result looks =
      ap seen (look_any s (values_in h names dictionaries) text
      ∙ looks (literal_name text) (text, refl, met))

  pub key_looks : (key : Option Word) → IsMetKey names text key
      → (result : Result (Option (Word × Word)) ErrorName) → Looks key result
      → (is : Result (Option (Word × Word)) ErrorName) → result ≡ is
      → look_by h names dictionaries s text ≡ seen (found_of (birth_at h) names is)
  key_looks key met result looks is same =
      looked key met result looks
      ∙ ap (λ (r : Result (Option (Word × Word)) ErrorName). seen (found_of (birth_at h) names r))
      same

pub found_inside : (h : Heap) (names : List (List ℕ)) (s : Store)
    (result : Result (Option (Word × Word)) ErrorName) (pair : Word × Word)
    → result ≡ Ok (Some pair)
    → IfOk result (λ found. IfSome found (λ p. IsWithin (birth_at h) names s p.0
    × IsWithin (birth_at h) names s p.1)) → IsWithin (birth_at h) names s pair.1
found_inside h names s result pair is within =
    (subst (λ (r : Result (Option (Word × Word)) ErrorName). IfOk r (λ found. IfSome found
    (λ p. IsWithin (birth_at h) names s p.0 × IsWithin (birth_at h) names s p.1))) is within).1

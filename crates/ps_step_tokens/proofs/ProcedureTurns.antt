-- What a procedure of a text comes to, until its names are met.
use Rattle.std.proofs.Common.{◌≡◌, ℕ, ◌≤◌, ◌<◌, ◌++◌, arith, true, false, List, [], ◌∷◌, length, Option, Some, None}
use Rattle.std.proofs.Common.{Result, Err, refl, sym, ap, subst, ◌∙◌, inl, inr}
use Rattle.std.specs.Prelude.{fold, nat_le}
use Rattle.std.proofs.lemmas.Bool.Decides.{nat_tests}
use Rattle.ps_language.specs.declared.errors.ErrorName.TheVariants.{LimitCheck, StackOverflow}
use Rattle.ps_language.specs.Dictionaries.{form, meet}
use Rattle.ps_language.specs.Limits.{names_limit}
use Rattle.ps_language.specs.Readers.{null, executable_name}
use Rattle.ps_language.specs.Outcome.{leaves, given}
use Rattle.ps_language.specs.StepValues.{after, errs}
use Rattle.ps_language.specs.StepTokens.{Missing, look_in, made_turn, missing_in, names_in, token_done}
use Rattle.ps_language.specs.Token.{Tokens, procedure_token}
use Rattle.ps_language.specs.Value.{Store}
use Rattle.ps_word.specs.declared.words.Word.{Word}
use Rattle.ps_names.specs.Names.{AreNames}
use Rattle.ps_mem.specs.Heap.{birth_at}
use Rattle.ps_ops_operands.specs.declared.failure.NotMade.{NotMade as Reason}
use Rattle.ps_ops_operands.specs.declared.failure.NotMade.TheVariants.{Memory}
use Rattle.ps_ops_state.specs.declared.lent.Attempt.{Attempt}
use Rattle.ps_ops_state.specs.Lent.{Lent, scene_of, IsShown, IsGood}
use Rattle.ps_ops_state.proofs.Forming.{formed_left}
use Rattle.ps_step_outcome.specs.declared.turned.Turned.{Turned}
use Rattle.ps_step_outcome.specs.Turns.{Turns, error_turn, nothing_more}
use Rattle.ps_step_outcome.proofs.Composing.{turns_as}
use Rattle.ps_step_execute.specs.Values.{meaning}
use Rattle.ps_ops_operands.proofs.StackRows.{not_full as free_operands, full as full_operands}
use Rattle.ps_step_tokens.specs.Fitting.{IsAmong}
use Rattle.ps_step_tokens.specs.Made.{AreMet, formed_asks, formed_turn, named_asks, named_turn, whole_made}
use Rattle.ps_step_tokens.specs.Missing.{missing_turn}
use Rattle.ps_step_tokens.specs.Procedures.{list_asks, procedure_words}
use Rattle.ps_step_tokens.specs.Tokens.{procedure_asks, token_turn}
use Rattle.ps_step_tokens.proofs.Alike.{unmade}
use Rattle.ps_step_tokens.proofs.Counting.{fold_has}
use Rattle.ps_step_tokens.proofs.Doing.{one_more}
use Rattle.ps_step_tokens.proofs.Least.{among_itself, among_left, among_right}

-- ---- names

module _ (names : List (List ℕ)) (texts : List (List ℕ)) where
  pub may_form : length (fold meet names texts) ≤ names_limit
      → form names texts ≡ Some (fold meet names texts)
  unfolding form
  may_form few =
      let fits : nat_le (length (fold meet names texts)) 65535 ≡ true =
      grind (arith, nat_tests, few) in
      rw fits refl

  pub all_formed : (new : List (List ℕ)) → new ≡ fold meet names texts → AreNames new
      → form names texts ≡ Some new
  all_formed new is news =
      may_form (subst (λ (ns : List (List ℕ)). length ns ≤ names_limit) is news.few)
      ∙ ap Some (sym is)

  pub all_overflow : names_limit < length (fold meet names texts) → form names texts ≡ None
  unfolding form
  all_overflow past =
      let full : nat_le (length (fold meet names texts)) 65535 ≡ false =
      grind (arith, nat_tests, past) in
      rw full refl

-- each is met then
pub all_met : (names texts : List (List ℕ)) → AreMet (fold meet names texts) texts
all_met names texts = each texts (λ text among. fold_has text names texts among)
  where
    each : (rest : List (List ℕ))
        → ((text : List ℕ) → IsAmong text rest → IsAmong text (fold meet names texts))
        → AreMet (fold meet names texts) rest
    each [] has = tt
    each (text ∷ rest) has = (
      has text (among_left text (text ∷ []) rest (among_itself text)),
      each rest (λ other among. has other (among_right other (text ∷ []) rest among)),
    )

-- ---- turns

module _ (l : Lent) (content : Tokens) where
  pub named_overflows : form l.names (names_in content) ≡ None → (w : Word) → meaning l w ≡ null
      → (s : Store) → named_turn content l s ≡ error_turn LimitCheck w l s
  named_overflows none w means s = rw (none, means) refl

  -- new ones want their memory
  pub named_refused : IsGood l → length l.names < length (fold meet l.names (names_in content))
      → length (fold meet l.names (names_in content)) ≤ names_limit → (attempt : Attempt)
      → Turns (named_asks content) (named_turn content) attempt (Err Memory) l l
  named_refused good more few attempt =
      let is = may_form l.names (names_in content) few in
      unmade (named_asks content) (named_turn content) attempt l good Memory λ s shown.
      inr (inl (one_more l (fold meet l.names (names_in content)) more attempt
      (named_asks content l s) (birth_at l.heap l.error_dictionary) s _ (rw is refl)))

  module _ (names : List (List ℕ)) (formed_is : form l.names (names_in content) ≡ Some names)
      (more : List (List ℕ)) (are : names ≡ l.names ++ more) where
    abbrev formed : Lent
    formed = record l { names = names }

    pub formed_as : (s : Store) → IsShown l s
        → formed_turn content formed s ≡ named_turn content l s
    formed_as s shown =
        let scene = (formed_left l more names are s shown).is in
        (λ i. made_turn (scene i) (whole_made content (look_in (scene i)) (scene i).store))
        ∙ rw formed_is refl

    pub formed_asked : (s : Store) → IsShown l s
        → formed_asks content formed s ≡ named_asks content l s
    formed_asked s shown = ap (list_asks (procedure_words content)) (formed_as s shown)

  pub procedure_overflows : 500 ≤ length l.operands → (w : Word) → meaning l w ≡ null
      → (s : Store) → token_turn (procedure_token content) l s ≡ error_turn StackOverflow w l s
  unfolding token_done
  procedure_overflows many w means s =
      rw (full_operands l.operands (birth_at l.heap) l.names many, means) refl

  module _ (few : length l.operands < 500) where
    -- an error asks for no list
    unlisted : (s : Store) (missing : Missing)
        → list_asks (procedure_words content) (missing_turn missing.error missing.text l s)
        ≡ nothing_more l s
    unlisted s missing = by (form l.names (missing.text ∷ []))
      where
        by : (found : Option (List (List ℕ)))
            → list_asks (procedure_words content)
            (after null (scene_of l s) (given found LimitCheck λ names.
            leaves (record (scene_of l s) { names = names }))
            (errs missing.error (executable_name missing.text))) ≡ nothing_more l s
        by (Some names) = refl
        by None = refl

    procedure_missing : (s : Store) (missing : Missing)
        → missing_in (look_in (scene_of l s)) content ≡ Some missing
        → token_turn (procedure_token content) l s ≡ missing_turn missing.error missing.text l s
    unfolding token_done
    procedure_missing s missing is =
        rw (free_operands l.operands (birth_at l.heap) l.names few, is) refl

    procedure_named : (s : Store) → missing_in (look_in (scene_of l s)) content ≡ None
        → token_turn (procedure_token content) l s ≡ named_turn content l s
    unfolding token_done
    procedure_named s is = rw (free_operands l.operands (birth_at l.heap) l.names few, is) refl

    module _ (attempt : Attempt) (result : Result Turned Reason) (new : Lent) where
      pub missing_done : (missing : Missing)
          → ((s : Store) → IsShown l s
          → missing_in (look_in (scene_of l s)) content ≡ Some missing)
          → Turns nothing_more (missing_turn missing.error missing.text) attempt result l new
          → Turns (procedure_asks content) (token_turn (procedure_token content)) attempt result l new
      missing_done missing is turns =
          turns_as nothing_more (procedure_asks content)
          (missing_turn missing.error missing.text) (token_turn (procedure_token content)) attempt
          result l new (λ s shown. sym (procedure_missing s missing (is s shown)))
          (λ s shown. sym (ap (list_asks (procedure_words content))
          (procedure_missing s missing (is s shown)) ∙ unlisted s missing)) turns

      pub named_done : ((s : Store) → IsShown l s
          → missing_in (look_in (scene_of l s)) content ≡ None)
          → Turns (named_asks content) (named_turn content) attempt result l new
          → Turns (procedure_asks content) (token_turn (procedure_token content)) attempt result l new
      named_done is turns =
          turns_as (named_asks content) (procedure_asks content) (named_turn content)
          (token_turn (procedure_token content)) attempt result l new
          (λ s shown. sym (procedure_named s (is s shown)))
          (λ s shown. sym (ap (list_asks (procedure_words content))
          (procedure_named s (is s shown)))) turns

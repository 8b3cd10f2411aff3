-- A name that was not met has no value.
use Rattle.std.proofs.Common.{◌≡◌, ℕ, Bool, true, false, List, [], ◌∷◌, map, Option, Some, None, refl, sym, ap, subst}
use Rattle.std.proofs.Common.{◌∙◌}
use Rattle.std.specs.Prelude.{if◌then◌else◌, option_map}
use Rattle.ps_language.specs.declared.errors.ErrorName.TheVariants.{InvalidAccess}
use Rattle.ps_language.specs.Access.{may_read}
use Rattle.ps_language.specs.Dictionaries.{find, found_in, look_up, pairs_in, pairs_of}
use Rattle.ps_language.specs.Equality.{same_key}
use Rattle.ps_language.specs.Outcome.{Outcome, leaves, fails, given_that}
use Rattle.ps_language.specs.Readers.{executable_name, literal_name}
use Rattle.ps_language.specs.StepValues.{LookedUp, known, unknown, unreadable, seen, looked_up}
use Rattle.ps_language.specs.Value.{Value, Store}
use Rattle.ps_word.specs.declared.words.Word.{Word}
use Rattle.ps_word.specs.Format.{content_in}
use Rattle.ps_word.specs.Readers as words
use Rattle.ps_mem.specs.Heap.{Heap, birth_at}
use Rattle.ps_mem.specs.Meaning.{value_of}
use Rattle.ps_mem.specs.Shows.{IsValue, AreValues, IsSound, Shows}
use Rattle.ps_names.specs.Names.{place_of}
use Rattle.ps_ops_types.proofs.Accesses.{dictionary_stands}
use Rattle.ps_step_lookup.proofs.Keying.{unmet_missing}
use Rattle.ps_step_lookup.proofs.Looking.{dictionary_is}

-- ---- executable or literal, it is the same key

find_any : (pairs : List (Value × Value)) (text : List ℕ)
    → find pairs (executable_name text) ≡ find pairs (literal_name text)
unfolding same_key
find_any [] text = refl
find_any (pair ∷ pairs) text =
    ap (λ (rest : Option Value). if same_key pair.0 (literal_name text) then Some pair.1 else rest)
    (find_any pairs text)

pub look_any : (s : Store) (dictionaries : List Value) (text : List ℕ)
    → look_up s dictionaries (executable_name text) ≡ look_up s dictionaries (literal_name text)
look_any s [] text = refl
look_any s (d ∷ deeper) text = λ i.
    given_that (may_read s d) InvalidAccess
    (found_in (find_any (pairs_of s d) text i) d (look_any s deeper text i))

-- ---- no dictionary has it

-- nothing was found
abbrev IsMissed : Outcome (Option (Value × Value)) → Type 0
IsMissed (leaves (Some found)) = ⊥
IsMissed (leaves None) = Unit {0}
IsMissed (fails error) = Unit {0}

passed : (readable : Bool) (d : Value) (deeper : Outcome (Option (Value × Value)))
    → IsMissed deeper → IsMissed (given_that readable InvalidAccess (found_in None d deeper))
passed true d deeper missed = missed
passed false d deeper missed = tt

-- no value
abbrev pub IsValueless : LookedUp → Type 0
IsValueless (known value) = ⊥
IsValueless unknown = Unit {0}
IsValueless unreadable = Unit {0}

valueless : (outcome : Outcome (Option (Value × Value))) → IsMissed outcome
    → IsValueless (seen outcome)
valueless (leaves (Some found)) missed = missed
valueless (leaves None) missed = tt
valueless (fails error) missed = tt

module _ (h : Heap) (sound : IsSound h) (names : List (List ℕ)) (s : Store) (shows : Shows h names s)
    (text : List ℕ) (unmet : place_of text names ≡ None) where
  in_one : (w : Word) → IsValue h w → (found : Option ℕ)
      → words.as_dictionary (content_in w.0) ≡ found
      → find (pairs_of s (value_of (birth_at h) names w)) (executable_name text) ≡ None
  in_one w held None is =
      ap (λ (o : Option ℕ). find (pairs_in s o) (executable_name text))
      (dictionary_is (birth_at h) names w ∙ ap (option_map (birth_at h)) is)
  in_one w held (Some a) is =
      ap (λ (o : Option ℕ). find (pairs_in s o) (executable_name text))
      (dictionary_is (birth_at h) names w ∙ ap (option_map (birth_at h)) is)
      ∙ (find_any _ text
      ∙ unmet_missing h a (dictionary_stands h w held a (sym is)) sound names s shows text unmet)

  in_none : (ws : List Word) → AreValues h ws
      → IsMissed (look_up s (map (value_of (birth_at h) names) ws) (executable_name text))
  in_none [] held = tt
  in_none (w ∷ ws) held =
      let d = value_of (birth_at h) names w in
      let deeper = look_up s (map (value_of (birth_at h) names) ws) (executable_name text) in
      subst (λ (found : Option Value).
      IsMissed (given_that (may_read s d) InvalidAccess (found_in found d deeper)))
      (sym (in_one w held.0 _ refl)) (passed (may_read s d) d deeper (in_none ws held.1))

  pub unmet_valueless : (ws : List Word) → AreValues h ws
      → IsValueless (looked_up (executable_name text) (map (value_of (birth_at h) names) ws) s)
  unfolding looked_up
  unmet_valueless ws held = valueless _ (in_none ws held)

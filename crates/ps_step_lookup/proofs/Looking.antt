-- What a look-up comes to.
use Rattle.std.proofs.Common.{◌≡◌, ℕ, zero, suc, ◌+◌, ◌-◌, ◌<◌, ◌≤◌, arith, subst, Bool, true, false, List, [], ◌∷◌, drop, map, slice_get, length, Option, Some, None, Ok, Err, refl, sym, ap, ◌∙◌}
use Rattle.std.specs.Prelude.{option_map}
use Rattle.ps_language.specs.declared.errors.ErrorName.{ErrorName}
use Rattle.ps_language.specs.declared.errors.ErrorName.TheVariants.{InvalidAccess}
use Rattle.ps_language.specs.declared.kinds.Kind.TheVariants.{Dictionary as DictionaryKind}
use Rattle.ps_language.specs.Value.{Value, Store}
use Rattle.ps_language.specs.declared.access.Access.{Access}
use Rattle.ps_language.specs.Access.{dictionary_at, is_readable, may_read, permits}
use Rattle.ps_language.specs.Dictionaries.{find, found_in, look_up, pairs_of}
use Rattle.ps_language.specs.Readers.{as_dictionary, dictionary_in}
use Rattle.ps_language.specs.Outcome.{Outcome, leaves, fails, given_that}
use Rattle.ps_word.specs.declared.words.Word.{Word}
use Rattle.ps_word.specs.declared.values.Content.{Content}
use Rattle.ps_word.specs.declared.values.Content.TheVariants.{Null, Integer, Boolean, Mark, Name, Operator, Array, Text, Dictionary, Lock, Condition, Body}
use Rattle.ps_word.specs.Format.{content_in}
use Rattle.ps_word.specs.Readers as words
use Rattle.ps_mem.specs.Heap.{Heap, birth_at}
use Rattle.ps_mem.specs.References.{StandsAs}
use Rattle.ps_mem.specs.Meaning.{value_of, what_of}
use Rattle.ps_mem.specs.Shows.{IsSound, Shows}
use Rattle.ps_step_lookup.specs.Lookups.{IsSought, LooksIn}
use Rattle.ps_ops_types.proofs.Accesses.{dictionary_has}
use Rattle.ps_step_lookup.proofs.Keying.{unmet_missing}

-- ---- dictionaries among values

module _ (births : ℕ → ℕ) (names : List (List ℕ)) where
  dictionary_content : (content : Content)
      → dictionary_in (what_of births names content) ≡ option_map births
      (words.as_dictionary content)
  dictionary_content Null = refl
  dictionary_content (Integer _) = refl
  dictionary_content (Boolean _) = refl
  dictionary_content Mark = refl
  dictionary_content (Name _) = refl
  dictionary_content (Operator _) = refl
  dictionary_content (Array _) = refl
  dictionary_content (Text _) = refl
  dictionary_content (Dictionary _) = refl
  dictionary_content (Lock _) = refl
  dictionary_content (Condition _) = refl
  dictionary_content (Body _) = refl

  pub dictionary_is : (w : Word)
      → as_dictionary (value_of births names w) ≡ option_map births
      (words.as_dictionary (content_in w.0))
  unfolding as_dictionary value_of
  dictionary_is w = dictionary_content (content_in w.0)

-- ---- in one dictionary

-- no dictionary has a name that was not met
pub unsought_missing : (h : Heap) (a : ℕ) → StandsAs h DictionaryKind a 4 → IsSound h
    → (names : List (List ℕ)) (s : Store) → Shows h names s → (key : Option Word) → key ≡ None
    → (k : Value) → IsSought (birth_at h) names s key k
    → None ≡ find (dictionary_at s (birth_at h a)).pairs k
unsought_missing h a known sound names s shows (Some w) none k sought = absurd (cc)
unsought_missing h a known sound names s shows None none k sought =
    sym (ap (find (dictionary_at s (birth_at h a)).pairs) sought.1
    ∙ unmet_missing h a known sound names s shows sought.0 sought.2)

-- a dictionary is read where its access permits that
pub dictionary_read : (births : ℕ → ℕ) (names : List (List ℕ)) (s : Store) (w : Word) (a : ℕ)
    → Some a ≡ words.as_dictionary (content_in w.0) → {access : Access} {truth : Bool}
    → access ≡ (dictionary_at s (births a)).access → truth ≡ is_readable access
    → may_read s (value_of births names w) ≡ truth
dictionary_read births names s w a is same told =
    ap (permits is_readable) (dictionary_has births names s w a is)
    ∙ (ap is_readable (sym same) ∙ sym told)

pub looks_hidden : (births : ℕ → ℕ) (names : List (List ℕ)) (s : Store) (w : Word) (k : Value)
    → may_read s (value_of births names w) ≡ false
    → LooksIn births names s w k (Err InvalidAccess)
looks_hidden births names s w k hidden = rw hidden refl

module _ (births : ℕ → ℕ) (names : List (List ℕ)) (s : Store) (w : Word) (k : Value)
    (readable : may_read s (value_of births names w) ≡ true) where
  pub looks_found : (a : ℕ) → Some a ≡ words.as_dictionary (content_in w.0)
      → (found : Option Word)
      → option_map (value_of births names) found ≡ find (dictionary_at s (births a)).pairs k
      → LooksIn births names s w k (Ok found)
  looks_found a is found same =
      rw (readable, dictionary_is births names w, sym is) (ap leaves (sym same))

  pub looks_none : None ≡ words.as_dictionary (content_in w.0)
      → LooksIn births names s w k (Ok None)
  looks_none none = rw (readable, dictionary_is births names w, sym none) refl

-- ---- through the dictionary stack

module _ (d : Value) (next : Outcome (Option (Value × Value))) where
  found_step : (readable : Bool) (found : Option Value) (x : Value)
      → given_that readable InvalidAccess (leaves found) ≡ leaves (Some x)
      → given_that readable InvalidAccess (found_in found d next) ≡ leaves (Some (d, x))
  found_step true (Some y) x is =
      let same : y ≡ x = cc in ap (λ (z : Value). leaves (Some (d, z))) same
  found_step true None x is = absurd (cc)
  found_step false found x is = absurd (cc)

  missing_step : (readable : Bool) (found : Option Value)
      → given_that readable InvalidAccess (leaves found) ≡ leaves None
      → given_that readable InvalidAccess (found_in found d next) ≡ next
  missing_step true (Some y) is = absurd (cc)
  missing_step true None is = refl
  missing_step false found is = absurd (cc)

  hidden_step : (readable : Bool) (found : Option Value) (error : ErrorName)
      → given_that readable InvalidAccess (leaves found) ≡ fails error
      → given_that readable InvalidAccess (found_in found d next) ≡ fails error
  hidden_step true found error is = absurd (cc)
  hidden_step false found error is =
      let same : InvalidAccess ≡ error = cc in ap fails same

module _ {A B : Type 0} (f : A → B) where
  drop_at : (xs : List A) (n : ℕ) (x : A) → slice_get xs n ≡ Some x
      → drop n (map f xs) ≡ f x ∷ drop (suc n) (map f xs)
  drop_at [] n x at = absurd (cc)
  drop_at (y ∷ xs) zero x at =
      let same : y ≡ x = cc in ap (λ z. f z ∷ map f xs) same
  drop_at (y ∷ xs) (suc n) x at = drop_at xs n x at

  drop_none : (xs : List A) (n : ℕ) → slice_get xs n ≡ None → drop n (map f xs) ≡ []
  drop_none [] zero none = refl
  drop_none [] (suc n) none = refl
  drop_none (y ∷ xs) zero none = absurd (cc)
  drop_none (y ∷ xs) (suc n) none = drop_none xs n none

  drop_past : (xs : List A) (n : ℕ) → length xs ≤ n → drop n (map f xs) ≡ []
  drop_past [] zero past = refl
  drop_past [] (suc n) past = refl
  drop_past (y ∷ xs) zero past = absurd (omega (arith, past))
  drop_past (y ∷ xs) (suc n) past = drop_past xs n (omega (arith, past))

-- where there are so many, the topmost of them
pub topmost_left : (ws : List Word) (left : ℕ) {w : Word} → 0 < left → left ≤ length ws
    → slice_get ws (length ws - 1 - (left - 1)) ≡ Some w
    → slice_get ws (length ws - left) ≡ Some w
topmost_left ws left {w} some within at =
    let same : length ws - 1 - (left - 1) ≡ length ws - left = omega (arith, some, within) in
    subst (λ (n : ℕ). slice_get ws n ≡ Some w) same at

module _ (births : ℕ → ℕ) (names : List (List ℕ)) (s : Store) (k : Value) (ws : List Word)
    (n : ℕ) where
  abbrev values : List Value
  values = map (value_of births names) ws

  pub nothing_deeper : slice_get ws n ≡ None → look_up s (drop n values) k ≡ leaves None
  nothing_deeper none = ap (λ vs. look_up s vs k) (drop_none (value_of births names) ws n none)

  pub nothing_past : length ws ≤ n → look_up s (drop n values) k ≡ leaves None
  nothing_past past = ap (λ vs. look_up s vs k) (drop_past (value_of births names) ws n past)

  module _ (w : Word) (at : slice_get ws n ≡ Some w) where
    abbrev deeper : Outcome (Option (Value × Value))
    deeper = look_up s (drop (suc n) values) k

    here : look_up s (drop n values) k
        ≡ given_that (may_read s (value_of births names w)) InvalidAccess
        (found_in (find (pairs_of s (value_of births names w)) k) (value_of births names w) deeper)
    here = ap (λ vs. look_up s vs k) (drop_at (value_of births names) ws n w at)

    pub found_here : (x : Word) → LooksIn births names s w k (Ok (Some x))
        → look_up s (drop n values) k
        ≡ leaves (Some (value_of births names w, value_of births names x))
    found_here x looks = here ∙ found_step (value_of births names w) deeper _ _ _ looks

    pub hidden_here : (error : ErrorName) → LooksIn births names s w k (Err error)
        → look_up s (drop n values) k ≡ fails error
    hidden_here error looks = here ∙ hidden_step (value_of births names w) deeper _ _ error looks

    pub missing_here : LooksIn births names s w k (Ok None)
        → look_up s (drop n values) k ≡ look_up s (drop (n + 1) values) k
    missing_here looks =
        let next : suc n ≡ n + 1 = omega arith in
        here ∙ (missing_step (value_of births names w) deeper _ _ looks
        ∙ ap (λ m. look_up s (drop m values) k) next)

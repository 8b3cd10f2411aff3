-- What the words of the first pairs stand for.
use Rattle.std.proofs.Common.{◌≡◌, ℕ, ◌<◌, ◌^◌, Bool, true, false, List, [], ◌∷◌, ◌++◌, map, Some, refl, sym, ap, ◌∙◌, arith, subst, ◌&&◌, ◌+◌}
use Rattle.std.specs.Prelude.{slice_get, codes}
use Rattle.std.specs.List.{AllByRecursion}
use Rattle.std.proofs.lemmas.List.{map-append}
use Rattle.ps_language.specs.declared.kinds.Kind.TheVariants.{Dictionary as DictionaryKind}
use Rattle.ps_language.specs.declared.operators.Operator.{Operator as OperatorName}
use Rattle.ps_language.specs.Operators.{every_operator}
use Rattle.ps_language.specs.Operators.{operator_name}
use Rattle.ps_language.specs.Value.{name_value, dictionary_value, Store}
use Rattle.ps_language.specs.Readers.{literal, literal_name}
use Rattle.ps_language.specs.Dictionaries.{put_pairs}
use Rattle.ps_language.specs.Equality.{same_key}
use Rattle.ps_language.specs.StepErrors.{new_error_pairs}
use Rattle.ps_language.specs.Worlds.{operator_pair, value_pairs, system_pairs, first_names}
use Rattle.ps_language.specs.Operators.{operator_number}
use Rattle.ps_word.specs.declared.words.Word.{Word}
use Rattle.ps_word.specs.declared.values.Content.{Content}
use Rattle.ps_word.specs.declared.values.Content.TheVariants.{Null, Boolean, Name, Operator, Dictionary}
use Rattle.ps_word.specs.declared.values.Value.{Value as WordValue}
use Rattle.ps_word.specs.Format.{IsContent, IsInFormat, content_in, value_in, is_body}
use Rattle.ps_language.proofs.Numbers.{operator_at-number, operator_number-below}
use Rattle.ps_word.proofs.Packing.{value_in-packed, IsWord-packed}
use Rattle.ps_mem.specs.Heap.{Heap, birth_at}
use Rattle.ps_mem.specs.Meaning.{value_of, what_of}
use Rattle.ps_mem.specs.References.{StandsAs, IsKnown, IsKnownContent}
use Rattle.ps_mem.specs.Shows.{IsValue, AreValues, IsWithin, IsWithinContent, AreWithin, pair_of, words_of_pairs}
use Rattle.ps_dict.proofs.Pairs.{all_words}
use Rattle.ps_ops_operands.specs.FirstNames.{BeginWithFirst}
use Rattle.ps_ops_types.proofs.First.{name_met, name_within}
use Rattle.ps_names.proofs.FirstNames.{operator_first}
use Rattle.ps_ctx_start.specs.Words.{word_of, named, operator_words, value_words, system_words, error_words}

-- ---- one word

module _ (content : Content) (executable : Bool)
    (format : IsInFormat (record { content = content; executable = executable })) where
  abbrev word : Word
  word = word_of content executable

  is : content_in word.0 ≡ content
  is = ap (λ (v : WordValue). v.content) (value_in-packed _ format)

  pub word-value : (births : ℕ → ℕ) (names : List (List ℕ))
      → value_of births names word ≡ record
      { what = what_of births names content; executable = executable }
  unfolding value_of
  word-value births names =
      ap (λ (v : WordValue). record
      { what = what_of births names v.content; executable = v.executable })
      (value_in-packed _ format)

  pub word-held : (h : Heap) → IsKnownContent h content → is_body content ≡ false → IsValue h word
  unfolding IsKnown
  word-held h known visible = record {
    word = IsWord-packed _ format;
    known = subst (IsKnownContent h) (sym is) known;
    visible = ap is_body is ∙ visible;
  }

  pub word-within : (births : ℕ → ℕ) (names : List (List ℕ)) (s : Store)
      → IsWithinContent births names s content → IsWithin births names s word
  unfolding IsWithin
  word-within births names s within = subst (IsWithinContent births names s) (sym is) within

-- ---- a reference to a dictionary

module _ (address : ℕ) (below : address < 2 ^ 24) where
  format : IsInFormat (record { content = Dictionary address; executable = false })
  format = record { content = below; literal_body = refl }

  pub reference-held : (h : Heap) → StandsAs h DictionaryKind address 4
      → IsValue h (word_of (Dictionary address) false)
  reference-held h stands = word-held (Dictionary address) false format h stands refl

  pub reference-within : (births : ℕ → ℕ) (names : List (List ℕ)) (s : Store)
      → IsWithin births names s (word_of (Dictionary address) false)
  reference-within births names s = word-within (Dictionary address) false format births names s tt

  pub reference-value : (births : ℕ → ℕ) (names : List (List ℕ))
      → value_of births names (word_of (Dictionary address) false)
      ≡ literal (dictionary_value (births address))
  reference-value births names = word-value (Dictionary address) false format births names

-- ---- pairs

pub begin : BeginWithFirst first_names
unfolding first_names
begin = refl

name_format : (number : ℕ) → number < 65535
    → IsInFormat (record { content = Name number; executable = false })
name_format number below = record { content = below; literal_body = refl }

abbrev Held : Heap → Word × Word → Type 0
Held h pair = IsValue h pair.0 × IsValue h pair.1

pub named-held : (h : Heap) (number : ℕ) (content : Content) (executable : Bool)
    → number < 65535 → IsInFormat (record { content = content; executable = executable })
    → IsKnownContent h content → is_body content ≡ false
    → Held h (named number content executable)
named-held h number content executable below format known visible = (
  word-held (Name number) false (name_format number below) h tt refl,
  word-held content executable format h known visible,
)

-- a name met at the start under names that begin with those
module _ (number : ℕ) (content : Content) (executable : Bool) (text : List ℕ)
    (at : slice_get first_names number ≡ Some text)
    (format : IsInFormat (record { content = content; executable = executable }))
    (below : number < 65535) (names : List (List ℕ)) (met : BeginWithFirst names) where
  is_name : value_in (word_of (Name number) false).0
      ≡ record { content = Name number; executable = false }
  is_name = value_in-packed _ (name_format number below)

  -- the name of this text, and what a content stands for
  pub named-pair : (births : ℕ → ℕ) → pair_of births names (named number content executable)
      ≡ (
        literal (name_value text),
        record { what = what_of births names content; executable = executable },
      )
  named-pair births = λ i. (
    name_met (word_of (Name number) false) number false is_name text at names met births i,
    word-value content executable format births names i,
  )

  pub named-within : (births : ℕ → ℕ) (s : Store) → IsWithinContent births names s content
      → IsWithin births names s (word_of (Name number) false)
      × IsWithin births names s (word_of content executable)
  named-within births s within = (
    name_within (word_of (Name number) false) number false is_name text at names met births s,
    word-within content executable format births names s within,
  )

-- ---- the operators

operator_format : (operator : OperatorName)
    → IsInFormat (record { content = Operator operator; executable = true })
operator_format operator = record { content = tt; literal_body = refl }

operator_at : (operator : OperatorName)
    → slice_get first_names (35 + operator_number operator) ≡ Some (operator_name operator)
operator_at operator =
    operator_first (operator_number operator) (operator_number-below operator)
    ∙ ap (λ o. Some (operator_name o)) (operator_at-number operator)

operator_few : (operator : OperatorName) → 35 + operator_number operator < 65535
operator_few operator = let below = operator_number-below operator in omega (arith, below)

operators_met : (births : ℕ → ℕ) (operators : List OperatorName)
    → map (pair_of births first_names) (map operator_words operators) ≡ map operator_pair operators
operators_met births [] = refl
operators_met births (operator ∷ operators) = λ i.
    named-pair (35 + operator_number operator) (Operator operator) true (operator_name operator)
    (operator_at operator) (operator_format operator) (operator_few operator) first_names
    begin births i
    ∷ operators_met births operators i

operators_all : (P : Word × Word → Type 0)
    → ((operator : OperatorName) → P (operator_words operator)) → (operators : List OperatorName)
    (more : List (Word × Word)) → AllByRecursion P more
    → AllByRecursion P (map operator_words operators ++ more)
operators_all P each [] more all = all
operators_all P each (operator ∷ operators) more all =
    (each operator, operators_all P each operators more all)

-- ---- all of systemdict

plain : (content : Content) → IsContent content → is_body content ≡ false
    → IsInFormat (record { content = content; executable = false })
plain content fits visible = record { content = fits; literal_body = λ i. visible i && false }

abbrev Within : (births : ℕ → ℕ) → (names : List (List ℕ)) → Store → Word × Word → Type 0
Within births names s pair = IsWithin births names s pair.0 × IsWithin births names s pair.1

module _ (system user : ℕ) (system_below : system < 2 ^ 24) (user_below : user < 2 ^ 24) where
  values_met : (births : ℕ → ℕ) → births system ≡ 0 → births user ≡ 1
      → map (pair_of births first_names) (value_words system user) ≡ value_pairs
  unfolding first_names
  values_met births first second = λ i.
      named-pair 30 (Boolean true) false _ refl (plain (Boolean true) tt refl) (omega arith)
      first_names begin births i
      ∷ named-pair 31 (Boolean false) false _ refl (plain (Boolean false) tt refl) (omega arith)
      first_names begin births i
      ∷ named-pair 32 Null false _ refl (plain Null tt refl) (omega arith) first_names begin
      births i
      ∷ (named-pair 33 (Dictionary system) false _ refl (plain (Dictionary system) system_below
      refl) (omega arith) first_names begin births
      ∙ ap (λ n. (literal_name (codes "systemdict"), literal (dictionary_value n))) first) i
      ∷ (named-pair 34 (Dictionary user) false _ refl (plain (Dictionary user) user_below refl)
      (omega arith) first_names begin births
      ∙ ap (λ n. (literal_name (codes "userdict"), literal (dictionary_value n))) second) i
      ∷ []

  pub system-met : (births : ℕ → ℕ) → births system ≡ 0 → births user ≡ 1
      → map (pair_of births first_names) (system_words system user) ≡ system_pairs
  unfolding system_words system_pairs
  system-met births first second =
      map-append (pair_of births first_names) (map operator_words every_operator)
      (value_words system user)
      ∙ (λ i. operators_met births every_operator i ++ values_met births first second i)

  pub system-held : (h : Heap) → StandsAs h DictionaryKind system 4
      → StandsAs h DictionaryKind user 4 → AreValues h (words_of_pairs (system_words system user))
  unfolding system_words
  system-held h system_stands user_stands =
      all_words (IsValue h) (system_words system user)
      (operators_all (Held h)
      (λ operator. named-held h (35 + operator_number operator) (Operator operator) true
      (operator_few operator) (operator_format operator) tt refl) every_operator
      (value_words system user) (
        named-held h 30 (Boolean true) false (omega arith) (plain (Boolean true) tt refl) tt refl,
        (
          named-held h 31 (Boolean false) false (omega arith) (plain (Boolean false) tt refl) tt
              refl,
          (
            named-held h 32 Null false (omega arith) (plain Null tt refl) tt refl,
            (
              named-held h 33 (Dictionary system) false (omega arith)
                  (plain (Dictionary system) system_below refl) system_stands refl,
              (
                named-held h 34 (Dictionary user) false (omega arith)
                    (plain (Dictionary user) user_below refl) user_stands refl,
                tt,
              ),
            ),
          ),
        ),
      ))

  values_within : (births : ℕ → ℕ) (s : Store)
      → AllByRecursion (Within births first_names s) (value_words system user)
  unfolding first_names
  values_within births s = (
    named-within 30 (Boolean true) false _ refl (plain (Boolean true) tt refl) (omega arith)
        first_names begin births s tt,
    (
      named-within 31 (Boolean false) false _ refl (plain (Boolean false) tt refl) (omega arith)
          first_names begin births s tt,
      (
        named-within 32 Null false _ refl (plain Null tt refl) (omega arith) first_names begin
            births s tt,
        (
          named-within 33 (Dictionary system) false _ refl
              (plain (Dictionary system) system_below refl) (omega arith) first_names begin births
              s tt,
          (
            named-within 34 (Dictionary user) false _ refl
                (plain (Dictionary user) user_below refl) (omega arith) first_names begin births s
                tt,
            tt,
          ),
        ),
      ),
    ),
  )

  pub system-within : (h : Heap) (s : Store)
      → AreWithin h first_names s (words_of_pairs (system_words system user))
  unfolding system_words
  system-within h s =
      all_words (IsWithin (birth_at h) first_names s) (system_words system user)
      (operators_all (Within (birth_at h) first_names s)
      (λ operator. named-within (35 + operator_number operator) (Operator operator) true
      (operator_name operator) (operator_at operator) (operator_format operator)
      (operator_few operator) first_names begin (birth_at h) s tt) every_operator
      (value_words system user) (values_within (birth_at h) s))

-- no key of systemdict comes twice
pub system-put : put_pairs [] system_pairs ≡ system_pairs
unfolding system_pairs same_key
system-put = refl

-- ---- $error

pub error-held : (h : Heap) → AreValues h (words_of_pairs error_words)
error-held h = all_words (IsValue h) error_words (
  named-held h 27 (Boolean false) false (omega arith) (plain (Boolean false) tt refl) tt refl,
  (
    named-held h 28 Null false (omega arith) (plain Null tt refl) tt refl,
    (named-held h 29 Null false (omega arith) (plain Null tt refl) tt refl, tt),
  ),
)

module _ (names : List (List ℕ)) (met : BeginWithFirst names) where
  pub error-met : (births : ℕ → ℕ) → map (pair_of births names) error_words ≡ new_error_pairs
  unfolding first_names
  error-met births = λ i.
      named-pair 27 (Boolean false) false _ refl (plain (Boolean false) tt refl) (omega arith)
      names met births i
      ∷ named-pair 28 Null false _ refl (plain Null tt refl) (omega arith) names met births i
      ∷ named-pair 29 Null false _ refl (plain Null tt refl) (omega arith) names met births i
      ∷ []

  errors_within : (births : ℕ → ℕ) (s : Store)
      → AllByRecursion (Within births names s) error_words
  unfolding first_names
  errors_within births s = (
    named-within 27 (Boolean false) false _ refl (plain (Boolean false) tt refl) (omega arith)
        names met births s tt,
    (
      named-within 28 Null false _ refl (plain Null tt refl) (omega arith) names met births s tt,
      (
        named-within 29 Null false _ refl (plain Null tt refl) (omega arith) names met births s
            tt,
        tt,
      ),
    ),
  )

  pub error-within : (h : Heap) (s : Store) → AreWithin h names s (words_of_pairs error_words)
  error-within h s =
      all_words (IsWithin (birth_at h) names s) error_words (errors_within (birth_at h) s)

pub error-put : put_pairs [] new_error_pairs ≡ new_error_pairs
unfolding same_key
error-put = refl

-- When two values are equal, by the words that stand for them.
use Rattle.std.proofs.Common.{◌≡◌, ◌≢◌, ℕ, ◌+◌, ◌≤◌, length, Bool, true, false, ◌&&◌, List, Some, None, refl, sym, ap}
use Rattle.std.proofs.Common.{◌∙◌, AllPairs}
use Rattle.std.specs.Bool.{◌==◌}
use Rattle.std.specs.Prelude.{option_map}
use Rattle.std.specs.declared.cmp.Ordering.{Ordering}
use Rattle.std.specs.Ordering.{nat_cmp, is_eq, ordering_index}
use Rattle.std.specs.Cmp.Lexicographic.{slice_cmp}
use Rattle.std.specs.Str.{bytes_eq}
use Rattle.std.proofs.lemmas.Cmp.{is_eq_index}
use Rattle.std.proofs.lemmas.Map.Text.{is_eq-slice_cmp}
use Rattle.ps_language.specs.declared.errors.ErrorName.TheVariants.{InvalidAccess}
use Rattle.ps_language.specs.declared.kinds.Kind.TheVariants.{Text}
use Rattle.ps_language.specs.Access.{bytes, may_read_text, part_bytes}
use Rattle.ps_language.specs.Equality.{are_equal, key_of, same_key}
use Rattle.ps_language.specs.Outcome.{leaves, fails, given_that}
use Rattle.ps_language.specs.Readers.{as_string}
use Rattle.ps_language.specs.Value.{Value, Store}
use Rattle.ps_word.specs.declared.words.Word.{Word}
use Rattle.ps_word.specs.declared.values.Part.{Part}
use Rattle.ps_word.specs.Format.{content_in}
use Rattle.ps_word.specs.Readers as words
use Rattle.ps_mem.specs.Heap.{Heap, birth_at}
use Rattle.ps_mem.specs.References.{StandsAs, words_for}
use Rattle.ps_mem.specs.Meaning.{part_of, value_of}
use Rattle.ps_mem.specs.Shows.{IsSound, IsValue, IsWithin, Shows}
use Rattle.ps_dict.specs.Keys.{same_words}
use Rattle.ps_dict.proofs.KeyLemmas.{same_keys}
use Rattle.ps_ops_operands.proofs.Reading.{as_string-value, as_string-stands, as_string-within}
use Rattle.ps_step_lookup.specs.declared.keys.Key.{Key}
use Rattle.ps_step_lookup.specs.declared.keys.Key.TheVariants.{Met, Unmet, TooLong}
use Rattle.ps_step_lookup.specs.Keys.{IsKeyOf, word_in}
use Rattle.ps_step_lookup.proofs.Keying.{plain_key, string_key, word_apart}
use Rattle.ps_ops_values.specs.Relations.{equality}
use Rattle.ps_ops_values.proofs.Symmetry.{same_key-turned}

-- ---- what can't be read

module _ (s : Store) (a b : Value) where
  pub hidden_first : may_read_text a ≡ false → equality s a b ≡ fails InvalidAccess
  hidden_first hidden = rw hidden (by (may_read_text b))
    where
      by : (readable : Bool) → given_that (readable && false) InvalidAccess
          (leaves (are_equal s a b)) ≡ fails InvalidAccess
      by true = refl
      by false = refl

  pub hidden_second : may_read_text b ≡ false → equality s a b ≡ fails InvalidAccess
  hidden_second hidden = rw hidden refl

  pub readable_both : may_read_text a ≡ true → may_read_text b ≡ true
      → equality s a b ≡ leaves (are_equal s a b)
  readable_both first second = rw (second, first) refl

  -- which of the two comes first doesn't matter
  pub equal_turned : are_equal s a b ≡ are_equal s b a
  equal_turned = same_key-turned (key_of s a) (key_of s b)

-- ---- by the words

module _ (births : ℕ → ℕ) (names : List (List ℕ)) (w : Word) where
  as_plain : words.as_text (content_in w.0) ≡ None → as_string (value_of births names w) ≡ None
  as_plain none = as_string-value births names w ∙ ap (option_map (part_of births)) none

  as_part : (part : Part) → words.as_text (content_in w.0) ≡ Some part
      → as_string (value_of births names w) ≡ Some (part_of births part)
  as_part part is = as_string-value births names w ∙ ap (option_map (part_of births)) is

module _ (w : Word) (part : Part) (is : words.as_text (content_in w.0) ≡ Some part) where
  pub text_stands : (h : Heap) → IsValue h w
      → StandsAs h Text part.address (words_for (part.offset + part.length))
  text_stands h held = rw is at (as_string-stands h w held)

  pub text_inside : (births : ℕ → ℕ) (names : List (List ℕ)) (s : Store)
      → IsWithin births names s w
      → part.offset + part.length ≤ length (bytes s (births part.address))
  text_inside births names s within = rw is at (as_string-within births names s w within)

-- by the order of its bytes and another's
equal_bytes : (order : Ordering) (equal : Bool) (ps qs : List ℕ)
    → order ≡ slice_cmp nat_cmp ps qs → equal ≡ (ordering_index order == 1)
    → bytes_eq ps qs ≡ equal
equal_bytes order equal ps qs is same =
    sym (same ∙ (sym (is_eq_index order) ∙ (ap is_eq is ∙ is_eq-slice_cmp ps qs)))

module _ (h : Heap) (names : List (List ℕ)) (s : Store) (left right : Word) where
  abbrev first : Value
  first = value_of (birth_at h) names left

  abbrev second : Value
  second = value_of (birth_at h) names right

  -- neither is a string
  pub plain_equal : IsSound h → AllPairs (λ one later. one ≢ later) names → IsValue h left
      → IsValue h right → IsWithin (birth_at h) names s left → IsWithin (birth_at h) names s right
      → words.as_text (content_in left.0) ≡ None → words.as_text (content_in right.0) ≡ None
      → are_equal s first second ≡ same_words left right
  plain_equal sound distinct held also within inside none neither =
      rw (
        (plain_key s first (as_plain (birth_at h) names left none)).is,
        (plain_key s second (as_plain (birth_at h) names right neither)).is,
      ) (same_keys names distinct h sound s left right held also within inside)

  -- both are
  pub strings_equal : (p q : Part) → words.as_text (content_in left.0) ≡ Some p
      → words.as_text (content_in right.0) ≡ Some q → (order : Ordering)
      → order ≡ slice_cmp nat_cmp (part_bytes s (part_of (birth_at h) p))
      (part_bytes s (part_of (birth_at h) q)) → (equal : Bool)
      → equal ≡ (ordering_index order == 1) → are_equal s first second ≡ equal
  unfolding same_key
  strings_equal p q is also order ordered equal same =
      rw (
        (string_key s first _ (as_part (birth_at h) names left p is)).is,
        (string_key s second _ (as_part (birth_at h) names right q also)).is,
      ) (equal_bytes order equal (part_bytes s (part_of (birth_at h) p))
      (part_bytes s (part_of (birth_at h) q)) ordered same)

-- ---- by a key that was read

module _ (h : Heap) (names : List (List ℕ)) (string : Word) where
  pub name_held : (key : Key) → IsKeyOf h names string key → (w : Word) → Some w ≡ word_in key
      → IsValue h w
  name_held (Met m) is w met = let same : w ≡ m = cc in rw same is.held
  name_held (Unmet text) is w met = absurd (cc)
  name_held TooLong is w met = absurd (cc)

  module _ (sound : IsSound h) (plain : Word) (held : IsValue h plain)
      (none : words.as_text (content_in plain.0) ≡ None) (s : Store) (shows : Shows h names s)
      (distinct : AllPairs (λ one later. one ≢ later) names)
      (within : IsWithin (birth_at h) names s plain)
      (inside : IsWithin (birth_at h) names s string) where
    abbrev IsAnswer : Bool → Type 0
    IsAnswer equal =
        equal ≡ are_equal s (value_of (birth_at h) names plain) (value_of (birth_at h) names string)

    plain_is : key_of s (value_of (birth_at h) names plain) ≡ value_of (birth_at h) names plain
    plain_is = (plain_key s (value_of (birth_at h) names plain)
        (as_plain (birth_at h) names plain none)).is

    -- its name was met
    pub met_equal : (key : Key) → IsKeyOf h names string key → (w : Word) → Some w ≡ word_in key
        → IsAnswer (same_words plain w)
    met_equal (Met m) is w met =
        let same : w ≡ m = cc in
        let shown = is.shown s shows inside in
        rw (same, plain_is, shown.is)
        (sym (same_keys names distinct h sound s plain m held is.held within shown.within))
    met_equal (Unmet text) is w met = absurd (cc)
    met_equal TooLong is w met = absurd (cc)

    -- or not, and then no value that is held is that name
    pub unmet_equal : (key : Key) → IsKeyOf h names string key → None ≡ word_in key
        → IsAnswer false
    unmet_equal (Met m) is unmet = absurd (cc)
    unmet_equal (Unmet text) is unmet =
        let named = (is.shown s shows inside).0 in
        rw (plain_is, named.is)
        (sym (word_apart text.items (birth_at h) names s named.unmet plain within))
    unmet_equal TooLong is unmet =
        let shown = is.shown s shows inside in
        rw (plain_is, shown.1.is)
        (sym (word_apart shown.0 (birth_at h) names s shown.1.unmet plain within))

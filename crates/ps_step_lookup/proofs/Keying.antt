-- Keys by their words: strings become names, and nothing else changes.
use Rattle.std.proofs.Common.{◌≡◌, ℕ, zero, suc, ◌+◌, ◌≤◌, ◌<◌, ◌++◌, ◌||◌, arith, Bool, true, false, List, [], ◌∷◌, map, length, slice_get, Option, Some, None, refl, sym, ap, subst, ◌∙◌, inl, inr, bytes_eq, is_some, Ok, drop, length-drop, ◌-◌}
use Rattle.std.specs.Prelude.{nat_le, slice_range}
use Rattle.std.specs.List.{position_or_len, list_any, AllByRecursion}
use Rattle.std.proofs.lemmas.List.{length-take}
use Rattle.std.proofs.lemmas.Option.{slice_get_within}
use Rattle.std.proofs.lemmas.Slice.Eq.{bytes_eq-Decides}
use Rattle.std.proofs.lemmas.Bool.Decides.{nat_tests}
use Rattle.ps_language.specs.declared.kinds.Kind.TheVariants.{Dictionary as DictionaryKind}
use Rattle.ps_language.specs.Value.{Part as PartValue, What, null_value, mark_value, integer_value, boolean_value, name_value, operator_value, array_value, string_value, dictionary_value, lock_value, condition_value, Value, Store}
use Rattle.ps_language.specs.Access.{bytes, dictionary_at, may_read_text, part_bytes, is_readable}
use Rattle.ps_language.specs.Equality.{same_what, same_key, key_of}
use Rattle.ps_language.specs.Readers.{is_null, null_in, as_string, string_in, literal_name}
use Rattle.ps_language.specs.Limits.{name_limit, names_limit}
use Rattle.ps_language.specs.Dictionaries.{find, meet, texts_of_key, fits_key}
use Rattle.ps_word.specs.declared.words.Word.{Word}
use Rattle.ps_word.specs.declared.values.Part.{Part}
use Rattle.ps_word.specs.declared.values.Content.{Content}
use Rattle.ps_word.specs.declared.values.Content.TheVariants.{Null, Integer, Boolean, Mark, Name, Operator, Array, Text, Dictionary, Lock, Condition, Body}
use Rattle.ps_word.specs.declared.values.Value.{Value as Packed}
use Rattle.ps_word.specs.Format.{content_in, value_in, IsWord, is_body}
use Rattle.ps_word.specs.Readers as words
use Rattle.ps_mem.specs.Heap.{Heap, birth_at}
use Rattle.ps_mem.specs.References.{StandsAs}
use Rattle.ps_mem.specs.Meaning.{value_of, what_of, part_of, text_of_name}
use Rattle.ps_mem.specs.Shows.{IsValue, IsSound, IsWithin, IsWithinContent, Shows, pair_of}
use Rattle.ps_dict.proofs.Shapes.{pairs-shown, pairs-within}
use Rattle.arrayvec.specs.ArrayVec.{ArrayVec}
use Rattle.ps_names.specs.Names.{place_of, AreNames}
use Rattle.ps_names.proofs.Places.{any_position, next_place, meet_new, names_with as names_added, stands_at, known_short, last_found}
use Rattle.ps_step_lookup.specs.declared.keys.Key.{Key}
use Rattle.ps_step_lookup.specs.declared.keys.Key.TheVariants.{Met, Unmet, TooLong}
use Rattle.ps_step_lookup.specs.Keys.{Reads, IsNameOf, IsUnmet, IsTextKey, IsKeyWord, IsFormable, IsKeyOf, IsNamed, Forms}

-- ---- a name that was not met is the key of nothing

symmetric : (a b : List ℕ) → bytes_eq a b ≡ false → bytes_eq b a ≡ false
symmetric a b apart = by (bytes_eq b a) refl
  where
    by : (test : Bool) → bytes_eq b a ≡ test → test ≡ false
    by false is = refl
    by true is = sym ((bytes_eq-Decides a b).1 (sym ((bytes_eq-Decides b a).0 is))) ∙ apart

no_other : (a b : Bool) → (a || b) ≡ false → (a ≡ false) × (b ≡ false)
no_other false b none = (refl, none)
no_other true b none = cc

module _ (text : List ℕ) where
  other_text : (names : List (List ℕ)) (n : ℕ) → n < length names
      → list_any (bytes_eq text) names ≡ false
      → bytes_eq (text_of_name names n) text ≡ false
  other_text [] n within absent = absurd (omega (arith, within))
  other_text (name ∷ names) zero within absent =
      symmetric text name (no_other (bytes_eq text name) _ absent).0
  other_text (name ∷ names) (suc n) within absent =
      other_text names n (omega (arith, within)) (no_other (bytes_eq text name) _ absent).1

  module _ (births : ℕ → ℕ) (names : List (List ℕ)) (s : Store)
      (unmet : place_of text names ≡ None) where
    absent : list_any (bytes_eq text) names ≡ false
    absent = any_position (bytes_eq text) names ∙ ap is_some unmet

    content_apart : (content : Content) → IsWithinContent births names s content
        → same_what (what_of births names content) (name_value text) ≡ false
    content_apart Null within = refl
    content_apart (Integer _) within = refl
    content_apart (Boolean _) within = refl
    content_apart Mark within = refl
    content_apart (Name n) within = other_text names n within absent
    content_apart (Operator _) within = refl
    content_apart (Array _) within = refl
    content_apart (Text _) within = refl
    content_apart (Dictionary _) within = refl
    content_apart (Lock _) within = refl
    content_apart (Condition _) within = refl
    content_apart (Body _) within = refl

    pub word_apart : (w : Word) → IsWithin births names s w
        → same_key (value_of births names w) (literal_name text) ≡ false
    unfolding same_key value_of IsWithin
    word_apart w within = content_apart (content_in w.0) within

    none_found : (pairs : List (Word × Word))
        → AllByRecursion (λ (pair : Word × Word). IsWithin births names s pair.0
        × IsWithin births names s pair.1) pairs
        → find (map (pair_of births names) pairs) (literal_name text) ≡ None
    none_found [] within = refl
    none_found (pair ∷ pairs) within =
        rw (word_apart pair.0 within.0.0) (none_found pairs within.1)

-- no dictionary that is shown has it
pub unmet_missing : (h : Heap) (a : ℕ) → StandsAs h DictionaryKind a 4 → IsSound h
    → (names : List (List ℕ)) (s : Store) → Shows h names s → (text : List ℕ)
    → place_of text names ≡ None
    → find (dictionary_at s (birth_at h a)).pairs (literal_name text) ≡ None
unmet_missing h a known sound names s shows text unmet =
    ap (λ pairs. find pairs (literal_name text)) (pairs-shown h a known sound names s shows)
    ∙ none_found text (birth_at h) names s unmet _ (pairs-within h a known sound names s shows)

-- ---- a value as a key

-- of what is no string
pub record IsPlainKey (s : Store) (v : Value) : Type 0 where
  pub is : key_of s v ≡ v
  pub texts : texts_of_key s v ≡ []
  pub fits : fits_key v ≡ true
  pub readable : may_read_text v ≡ true

-- of a part of a string
pub record IsStringKey (s : Store) (v : Value) (part : PartValue) : Type 0 where
  pub is : key_of s v ≡ literal_name (part_bytes s part)
  pub texts : texts_of_key s v ≡ part_bytes s part ∷ []
  pub fits : fits_key v ≡ nat_le part.count name_limit
  pub readable : may_read_text v ≡ is_readable part.access

module _ (s : Store) (executable : Bool) where
  abbrev value : What → Value
  value what = record { what = what; executable = executable }

  plain_what : (what : What) → string_in what ≡ None → IsPlainKey s (value what)
  unfolding key_of texts_of_key fits_key may_read_text
  plain_what null_value none = record { is = refl; texts = refl; fits = refl; readable = refl }
  plain_what mark_value none = record { is = refl; texts = refl; fits = refl; readable = refl }
  plain_what (integer_value _) none =
      record { is = refl; texts = refl; fits = refl; readable = refl }
  plain_what (boolean_value _) none =
      record { is = refl; texts = refl; fits = refl; readable = refl }
  plain_what (name_value _) none =
      record { is = refl; texts = refl; fits = refl; readable = refl }
  plain_what (operator_value _) none =
      record { is = refl; texts = refl; fits = refl; readable = refl }
  plain_what (array_value _) none =
      record { is = refl; texts = refl; fits = refl; readable = refl }
  plain_what (string_value _) none = absurd (cc)
  plain_what (dictionary_value _) none =
      record { is = refl; texts = refl; fits = refl; readable = refl }
  plain_what (lock_value _) none =
      record { is = refl; texts = refl; fits = refl; readable = refl }
  plain_what (condition_value _) none =
      record { is = refl; texts = refl; fits = refl; readable = refl }

  string_what : (what : What) (part : PartValue) → string_in what ≡ Some part
      → IsStringKey s (value what) part
  unfolding key_of texts_of_key fits_key may_read_text
  string_what (string_value p) part is =
      let same : p ≡ part = cc in
      subst (IsStringKey s (value (string_value p))) same
      (record { is = refl; texts = refl; fits = refl; readable = refl })
  string_what null_value part is = absurd (cc)
  string_what mark_value part is = absurd (cc)
  string_what (integer_value _) part is = absurd (cc)
  string_what (boolean_value _) part is = absurd (cc)
  string_what (name_value _) part is = absurd (cc)
  string_what (operator_value _) part is = absurd (cc)
  string_what (array_value _) part is = absurd (cc)
  string_what (dictionary_value _) part is = absurd (cc)
  string_what (lock_value _) part is = absurd (cc)
  string_what (condition_value _) part is = absurd (cc)

pub plain_key : (s : Store) (v : Value) → as_string v ≡ None → IsPlainKey s v
unfolding as_string
plain_key s v none = plain_what s v.executable v.what none

pub string_key : (s : Store) (v : Value) (part : PartValue) → as_string v ≡ Some part
    → IsStringKey s v part
unfolding as_string
string_key s v part is = string_what s v.executable v.what part is

-- ---- nulls

module _ (births : ℕ → ℕ) (names : List (List ℕ)) where
  null_content : (content : Content) → is_body content ≡ false
      → null_in (what_of births names content) ≡ words.is_null content
  null_content Null visible = refl
  null_content (Integer _) visible = refl
  null_content (Boolean _) visible = refl
  null_content Mark visible = refl
  null_content (Name _) visible = refl
  null_content (Operator _) visible = refl
  null_content (Array _) visible = refl
  null_content (Text _) visible = refl
  null_content (Dictionary _) visible = refl
  null_content (Lock _) visible = refl
  null_content (Condition _) visible = refl
  null_content (Body _) visible = cc

  pub null_is : (h : Heap) (w : Word) → IsValue h w
      → is_null (value_of births names w) ≡ words.is_null (content_in w.0)
  unfolding is_null value_of
  null_is h w held = null_content (content_in w.0) held.visible

-- ---- names that are formed

pub forms_met : (names : List (List ℕ)) (key : Key) (w : Word) → key ≡ Met w → AreNames names
    → Forms names names key (Ok tt)
forms_met names key w is are = record {
  did = rw is tt;
  made = λ _. (rw is refl, are);
  unmade = λ break clash. refl;
}

module _ (names : List (List ℕ)) (key : Key) (text : ArrayVec ℕ) (is : key ≡ Unmet text)
    (are : AreNames names) (unmet : IsUnmet names text.items) where
  pub forms_unmet : (new : List (List ℕ)) → new ≡ meet names text.items → (number : ℕ)
      → number ≡ position_or_len (bytes_eq text.items) names → number < names_limit
      → Forms names new key (Ok tt)
  forms_unmet new met number place below =
      let next = next_place text.items names unmet.unmet in
      let room : length names < 65535 = omega (arith, next, place, below) in
      let same = met ∙ sym (meet_new text.items names unmet.unmet) in
      record {
        did = rw is room;
        made = λ _. (
          rw is same,
          subst AreNames (sym same) (names_added text.items names unmet.unmet are unmet.short room),
        );
        unmade = λ break clash. cc;
      }

-- the literal name of a text that was met last
pub last_named : (names : List (List ℕ)) (text : List ℕ) → IsUnmet names text → AreNames names
    → length names < names_limit → (w : Word)
    → value_in w.0 ≡ record { content = Name (length names); executable = false } → IsWord w.0
    → IsNameOf (names ++ text ∷ []) text w
last_named names text unmet are room w is word = record {
  number = length names;
  is = is;
  word = word;
  met = last_found text names unmet.unmet are unmet.short room;
}

-- ---- what is read of a string

-- the literal name of a text that was met
module _ (names : List (List ℕ)) (text : List ℕ) (w : Word) (named : IsNameOf names text w) where
  stands : slice_get names named.number ≡ Some text
  stands = stands_at text names named.number named.met

  pub named_value : (births : ℕ → ℕ) → value_of births names w ≡ literal_name text
  unfolding value_of
  named_value births =
      ap {B = Value} (λ (packed : Packed).
      record { what = what_of births names packed.content; executable = packed.executable }) named.is
      ∙ rw stands refl

  pub named_within : (births : ℕ → ℕ) (s : Store) → IsWithin births names s w
  unfolding IsWithin
  named_within births s =
      rw (ap (λ (packed : Packed). packed.content) named.is)
      (slice_get_within names named.number text stands)

module _ (h : Heap) (names : List (List ℕ)) (w : Word) (part : Part) (are : AreNames names)
    (is : (births : ℕ → ℕ) (names : List (List ℕ))
    → as_string (value_of births names w) ≡ Some (part_of births part))
    (inside : (births : ℕ → ℕ) (names : List (List ℕ)) (s : Store) → IsWithin births names s w
    → part.offset + part.length ≤ length (bytes s (births part.address))) where
  module _ (s : Store) (shows : Shows h names s) (within : IsWithin (birth_at h) names s w) where
    abbrev key_value : Value
    key_value = value_of (birth_at h) names w

    strings : IsStringKey s key_value (part_of (birth_at h) part)
    strings = string_key s key_value (part_of (birth_at h) part) (is (birth_at h) names)

    -- it is the name of what is read
    named_as : (text : List ℕ) → part_bytes s (part_of (birth_at h) part) ≡ text
        → place_of text names ≡ None → IsNamed names s key_value text
    named_as text same unmet = record {
      is = strings.is ∙ ap literal_name same;
      texts = strings.texts ∙ ap (λ (t : List ℕ). t ∷ []) same;
      unmet = unmet;
    }

    fits_as : part.length ≤ 127 → fits_key key_value ≡ true
    fits_as short = strings.fits ∙ grind (arith, nat_tests, short)

    text_count : length (part_bytes s (part_of (birth_at h) part)) ≡ part.length
    text_count =
        let all = inside (birth_at h) names s within in
        let text = bytes s (birth_at h part.address) in
        let cut = length-take ((part.offset + part.length) - part.offset) (drop part.offset text) in
        let rest = length-drop part.offset text in
        omega (arith, all, cut, rest)

    too_long : 127 < part.length
        → place_of (part_bytes s (part_of (birth_at h) part)) names ≡ None
    too_long long =
        let text = part_bytes s (part_of (birth_at h) part) in
        by (place_of text names) refl
      where
        by : (found : Option ℕ)
            → place_of (part_bytes s (part_of (birth_at h) part)) names ≡ found → found ≡ None
        by None at = refl
        by (Some i) at =
            let short = known_short (part_bytes s (part_of (birth_at h) part)) names i at are in
            let count = text_count in absurd (omega (arith, short, count, long))

  pub text_key_is : (key : Key) → IsKeyWord h names key → IsTextKey h names part key
      → IsKeyOf h names w key
  text_key_is (Met m) held it = record {
    held = held;
    few = are.few;
    shown = λ s shows within.
        let same = it.1.shown s shows (inside (birth_at h) names s within) in
        let count = it.1.count in
        let short = known_short it.0 names it.2.number it.2.met are in
        let read = strings s shows within in
        record {
          is = read.is ∙ (ap literal_name same
              ∙ sym (named_value names it.0 m it.2 (birth_at h)));
          within = named_within names it.0 m it.2 (birth_at h) s;
          fits = fits_as s shows within (omega (arith, count, short));
          texts = inr (
            it.0,
            it.2.number,
            read.texts ∙ ap (λ (t : List ℕ). t ∷ []) same,
            it.2.met,
          );
        };
  }
  text_key_is (Unmet text) held it = record {
    held = held;
    few = are.few;
    shown = λ s shows within.
        let same = it.0.shown s shows (inside (birth_at h) names s within) in
        let count = it.0.count in
        let short = it.1.short in (
          named_as s shows within text.items same it.1.unmet,
          fits_as s shows within (omega (arith, count, short)),
        );
  }
  text_key_is TooLong held it = record {
    held = held;
    few = are.few;
    shown = λ s shows within. (
      part_bytes s (part_of (birth_at h) part),
      named_as s shows within _ refl (too_long s shows within it),
      (strings s shows within).fits ∙ grind (arith, nat_tests, it),
    );
  }

-- of what is no string
pub plain_key_is : (h : Heap) (names : List (List ℕ)) (w : Word) → AreNames names → IsValue h w
    → ((births : ℕ → ℕ) (names : List (List ℕ)) → as_string (value_of births names w) ≡ None)
    → IsKeyOf h names w (Met w)
plain_key_is h names w are held none = record {
  held = held;
  few = are.few;
  shown = λ s shows within.
      let plain = plain_key s (value_of (birth_at h) names w) (none (birth_at h) names) in
      record { is = plain.is; within = within; fits = plain.fits; texts = inl plain.texts };
}

pub formable : (h : Heap) (names : List (List ℕ)) (key : Key) → IsKeyWord h names key
    → IsFormable names key
formable h names (Met w) held = tt
formable h names (Unmet text) held = held
formable h names TooLong held = tt

-- all characters were read
pub read_whole : (h : Heap) (names : List (List ℕ)) (part : Part) (text : List ℕ) (n : ℕ)
    → n ≡ part.length → length text ≡ n
    → ((names : List (List ℕ)) (s : Store) → Shows h names s
    → part.offset + part.length ≤ length (bytes s (birth_at h part.address))
    → text ≡ slice_range (bytes s (birth_at h part.address)) part.offset (part.offset + n))
    → Reads h names part text
read_whole h names part text n is count read = record {
  count = count ∙ is;
  shown = λ s shows inside.
      sym (read names s shows inside
      ∙ ap (λ (m : ℕ). slice_range (bytes s (birth_at h part.address)) part.offset
      (part.offset + m)) is);
}

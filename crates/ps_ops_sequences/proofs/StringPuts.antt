-- What put of a byte asks for, and that its string stays as long.
use Rattle.std.proofs.Common.{◌≡◌, ℕ, ◌+◌, ◌<◌, ◌≤◌, arith, zero-add, List, [], ◌∷◌, length, Some, None, refl, subst, ◌∙◌}
use Rattle.std.proofs.lemmas.Bool.Decides.{nat_tests}
use Rattle.std.specs.Prelude.{zero, suc, ℤ, pos, negsuc, Bool, true, false, nat_lt, slice_get, if◌then◌else◌}
use Rattle.ps_language.specs.declared.errors.ErrorName.TheVariants.{StackUnderflow, InvalidAccess, RangeCheck}
use Rattle.ps_language.specs.Value.{Part as PartValue, Value, Store, Object, array_object, string_object, dictionary_object, lock_object, condition_object}
use Rattle.ps_language.specs.Access.{is_writable, bytes, with_bytes, splice}
use Rattle.ps_language.specs.Objects.{growth_of, made_between, changing}
use Rattle.ps_language.specs.Readers.{as_string, string_in, as_integer, index_below}
use Rattle.ps_language.proofs.AskedLemmas.{made-same}
use Rattle.ps_word.specs.declared.words.Word.{Word}
use Rattle.ps_word.specs.declared.values.Content.{Content}
use Rattle.ps_word.specs.declared.values.Content.TheVariants.{Null, Integer, Boolean, Mark, Name, Operator, Array, Text, Dictionary, Lock, Condition, Body}
use Rattle.ps_word.specs.Format.{content_in}
use Rattle.ps_mem.specs.Heap.{Heap, birth_at}
use Rattle.ps_mem.specs.References.{IsKnown, IsKnownContent}
use Rattle.ps_mem.specs.Meaning.{value_of, what_of}
use Rattle.ps_mem.specs.Shows.{IsValue, AreValues, IsWithin, IsWithinContent, AreWithin, Shows}
use Rattle.ps_mem.proofs.Lists.{length-splice}
use Rattle.ps_seq.proofs.TextLemmas.{text_at}
use Rattle.ps_ops_operands.specs.Changes.{values_in}
use Rattle.ps_ops_state.proofs.Asking.{IsUnasked, Leaving, leaving_error, leaving_given, leaving_given_that}
use Rattle.ps_ops_sequences.specs.StringRows.{string_put_row}
use Rattle.ps_ops_sequences.proofs.StringChanged.{longer}
use Rattle.ps_ops_state.proofs.Changing.{RowLasts, lasts_given, lasts_given_that}

-- ---- other bytes make nothing

growth_same : (o : Object) → growth_of o o ≡ 0
growth_same o = let whole : growth_of o o + 0 ≡ 0 = made-same (o ∷ []) in omega (arith, whole)

pub bytes_unasked : (s : Store) (birth : ℕ) (text : List ℕ)
    → made_between s (with_bytes s birth text) ≡ 0
unfolding with_bytes
bytes_unasked [] birth text = refl
bytes_unasked (array_object old ∷ s) zero text = zero-add (made_between s s) ∙ made-same s
bytes_unasked (string_object old ∷ s) zero text = zero-add (made_between s s) ∙ made-same s
bytes_unasked (dictionary_object old ∷ s) zero text = zero-add (made_between s s) ∙ made-same s
bytes_unasked (lock_object old ∷ s) zero text = zero-add (made_between s s) ∙ made-same s
bytes_unasked (condition_object ∷ s) zero text = zero-add (made_between s s) ∙ made-same s
bytes_unasked (o ∷ s) (suc birth) text =
    grind (arith, growth_same o, bytes_unasked s birth text)

changing_unasked : (s : Store) (operands : List Value) (birth : ℕ) (text : List ℕ)
    → Leaving (IsUnasked s) (changing operands (with_bytes s birth text))
changing_unasked s operands birth text = record { such = bytes_unasked s birth text }

pub string_put_unasked : (s : Store) (operands : List Value)
    → Leaving (IsUnasked s) (string_put_row s operands)
string_put_unasked s [] = leaving_error (IsUnasked s) StackUnderflow
string_put_unasked s (y ∷ []) = leaving_error (IsUnasked s) StackUnderflow
string_put_unasked s (y ∷ k ∷ []) = leaving_error (IsUnasked s) StackUnderflow
string_put_unasked s (y ∷ k ∷ x ∷ rest) =
    leaving_given (IsUnasked s) (as_string x) _ _ λ part.
    leaving_given (IsUnasked s) (as_integer y) _ _ λ code.
    leaving_given (IsUnasked s) (as_integer k) _ _ λ number.
    leaving_given_that (IsUnasked s) (is_writable part.access) InvalidAccess _
    (leaving_given {A = ℕ} (IsUnasked s) (index_below number part.count) RangeCheck _ λ index.
    leaving_given {A = ℕ} (IsUnasked s) (index_below code 256) RangeCheck _ λ byte.
    changing_unasked s rest part.birth _)

-- ---- a string of the store

-- a part lies within its string
pub record LiesInString (s : Store) (part : PartValue) : Type 0 where
  pub there : slice_get s part.birth ≡ Some (string_object (bytes s part.birth))
  pub within : part.offset + part.count ≤ length (bytes s part.birth)

module _ (h : Heap) (names : List (List ℕ)) (s : Store) (shows : Shows h names s) where
  string_content : (content : Content) → IsKnownContent h content
      → IsWithinContent (birth_at h) names s content → (part : PartValue)
      → string_in (what_of (birth_at h) names content) ≡ Some part → LiesInString s part
  string_content (Text p) known within part is =
      let same : record {
        birth = birth_at h p.address;
        offset = p.offset;
        count = p.length;
        access = p.access;
      } ≡ part = cc in
      subst (LiesInString s) same (record {
        there = (text_at h p.address _ known names s shows).there;
        within = within;
      })
  string_content Null known within part is = cc
  string_content (Integer _) known within part is = cc
  string_content (Boolean _) known within part is = cc
  string_content Mark known within part is = cc
  string_content (Name _) known within part is = cc
  string_content (Operator _) known within part is = cc
  string_content (Array _) known within part is = cc
  string_content (Dictionary _) known within part is = cc
  string_content (Lock _) known within part is = cc
  string_content (Condition _) known within part is = cc
  string_content (Body _) known within part is = cc

  pub string_lies : (w : Word) → IsValue h w → IsWithin (birth_at h) names s w
      → (part : PartValue) → as_string (value_of (birth_at h) names w) ≡ Some part
      → LiesInString s part
  unfolding as_string value_of IsKnown IsWithin
  string_lies w value within part is =
      string_content (content_in w.0) value.known within part is

-- as many bytes
pub bytes_last : (s : Store) (part : PartValue) → LiesInString s part → (place : ℕ) (text : List ℕ)
    → place + length text ≤ part.count → (c : ℕ) → length (bytes s c)
    ≤ length (bytes (with_bytes s part.birth (splice (bytes s part.birth) (part.offset + place)
    text)) c)
bytes_last s part lies place text fits =
    let within = lies.within in
    longer s part.birth (splice (bytes s part.birth) (part.offset + place) text) lies.there
    (length-splice (bytes s part.birth) (part.offset + place) text (omega (arith, within, fits)))

index_tested : (n count index : ℕ) (below : Bool) → nat_lt n count ≡ below
    → (if below then Some n else None) ≡ Some index → index < count
index_tested n count index true test is =
    let same : n ≡ index = cc in grind (arith, nat_tests, test, same)
index_tested n count index false test is = cc

index_is_below : (number : ℤ) (count index : ℕ) → index_below number count ≡ Some index
    → index < count
index_is_below (pos n) count index is = index_tested n count index (nat_lt n count) refl is
index_is_below (negsuc n) count index is = cc

module _ (h : Heap) (names : List (List ℕ)) (s : Store) (shows : Shows h names s) where
  pub string_put_lasts : (operands : List Word) → AreValues h operands
      → AreWithin h names s operands → RowLasts s (string_put_row s (values_in h names operands))
  string_put_lasts [] values within = record { lasts = tt }
  string_put_lasts (y ∷ []) values within = record { lasts = tt }
  string_put_lasts (y ∷ k ∷ []) values within = record { lasts = tt }
  string_put_lasts (y ∷ k ∷ x ∷ rest) values within =
      lasts_given s (as_string (value_of (birth_at h) names x)) _ _ λ part is.
      lasts_given s (as_integer (value_of (birth_at h) names y)) _ _ λ code _.
      lasts_given s (as_integer (value_of (birth_at h) names k)) _ _ λ number _.
      lasts_given_that s (is_writable part.access) InvalidAccess _
      (lasts_given {A = ℕ} s (index_below number part.count) RangeCheck _ λ index at.
      lasts_given {A = ℕ} s (index_below code 256) RangeCheck _ λ byte _. record {
        lasts = bytes_last s part (string_lies h names s shows x values.1.1.0 within.1.1.0 part is)
            index (byte ∷ []) (omega (arith, index_is_below number part.count index at));
      })

-- What the operators that read arrays leave.
use Rattle.std.proofs.Common.{◌≡◌, ℕ, suc, ◌+◌, ◌<◌, ◌≤◌, List, ◌∷◌, ◌++◌, drop, length, true, Ok, Err, Some, refl, sym, ap, subst, arith, ◌∙◌}
use Rattle.std.specs.Prelude.{reverse, slice_range}
use Rattle.std.proofs.lemmas.List.{length-map, length-append, length-reverse, map-append}
use Rattle.std.proofs.lemmas.Bool.Decides.{nat_tests}
use Rattle.ps_language.specs.declared.errors.ErrorName.{ErrorName}
use Rattle.ps_language.specs.declared.errors.ErrorName.TheVariants.{StackOverflow}
use Rattle.ps_language.specs.declared.kinds.Kind.TheVariants.{Array as ArrayKind}
use Rattle.ps_language.specs.Value.{Part as PartValue, Value, Store}
use Rattle.ps_language.specs.Outcome.{Outcome, leaves, fails}
use Rattle.ps_language.specs.Readers.{as_array, leaving}
use Rattle.ps_language.specs.Access.{is_readable, part_elements}
use Rattle.ps_language.specs.RowsSequences.{aload_row}
use Rattle.ps_stacks.specs.Tops.{first_of}
use Rattle.ps_word.specs.declared.words.Word.{Word}
use Rattle.ps_word.specs.declared.values.Part.{Part}
use Rattle.ps_mem.specs.Heap.{Heap, birth_at, fields_at}
use Rattle.ps_mem.specs.References.{StandsAs}
use Rattle.ps_mem.specs.Meaning.{value_of, part_of}
use Rattle.ps_mem.specs.Shows.{IsValue, AreValues, IsReady, IsWithin, AreWithin, Shows}
use Rattle.ps_seq.proofs.ArrayLemmas.{length_run, run_values, run_within, run_elements}
use Rattle.ps_ops_operands.specs.Changes.{values_in, ObservesAs, Observes}
use Rattle.ps_ops_operands.proofs.Operands.{first_split, map-reverse}
use Rattle.ps_ops_operands.proofs.Held.{all_append, all_reverse, first_held, rest_held}

-- the row raises this error
pub observes_fails :
    (row : Store → List Value → Outcome (List Value)) (error : ErrorName) (h : Heap) (words : List Word)
    → ((names : List (List ℕ)) (s : Store) → Shows h names s → AreWithin h names s words
    → row s (values_in h names words) ≡ fails error) → Observes row (Err error) h words words
observes_fails row error h words is =
    record {
      meets = λ names s shows within. subst (λ outcome. ObservesAs (Err error) outcome names s h words words)
          (sym (is names s shows within)) (refl, refl);
    }

-- the row leaves what these words stand for
pub observes_leaves : (row : Store → List Value → Outcome (List Value)) (h : Heap) (old new : List Word)
    → ((names : List (List ℕ)) (s : Store) → Shows h names s → AreWithin h names s old
    → (row s (values_in h names old) ≡ leaves (values_in h names new)) × AreWithin h names s new)
    → Observes row (Ok tt) h old new
observes_leaves row h old new is = record {
  meets = λ names s shows within. subst (λ outcome. ObservesAs (Ok tt) outcome names s h old new)
      (sym (is names s shows within).0) (refl, (is names s shows within).1);
}

aload_row-is : (s : Store) (v : Value) (rest : List Value) (p : PartValue) → as_array v ≡ Some p
    → is_readable p.access ≡ true
    → aload_row s (v ∷ rest) ≡ leaving (v ∷ reverse (part_elements s p) ++ rest)
aload_row-is s v rest p array readable = rw (array, readable) refl

leaving_all : (vs : List Value) → length vs ≤ 500 → leaving vs ≡ leaves vs
leaving_all vs h = grind (arith, nat_tests)

leaving_none : (vs : List Value) → 500 < length vs → leaving vs ≡ fails StackOverflow
leaving_none vs h = grind (arith, nat_tests)

module _ (h : Heap) (old : List Word) (ready : IsReady h old) (array : Word) (top : Some array
    ≡ first_of old) (part : Part)
    (reads : (births : ℕ → ℕ) (names : List (List ℕ))
    → as_array (value_of births names array) ≡ Some (part_of births part))
    (readable : is_readable part.access ≡ true) (stands : StandsAs h ArrayKind part.address (part.offset + part.length))
  where
    abbrev pub elements_read : List Word
    elements_read = slice_range (fields_at h part.address) part.offset (part.offset + part.length)

    count_read : length elements_read ≡ part.length
    count_read = length_run h part.address (part.offset + part.length) stands part.offset part.length (omega arith)

    abbrev loaded : List Word
    loaded = array ∷ reverse elements_read ++ drop 1 old

    count_loaded : length loaded ≡ suc (part.length + length (drop 1 old))
    count_loaded =
        omega (arith, length-append (reverse elements_read) (drop 1 old), length-reverse elements_read, count_read)

    module _ (names : List (List ℕ)) (s : Store) (shows : Shows h names s) where
      row_is : aload_row s (values_in h names old) ≡ leaving (values_in h names loaded)
      row_is =
          ap (λ ws. aload_row s (values_in h names ws)) (first_split old array top)
          ∙ (aload_row-is s (value_of (birth_at h) names array) (values_in h names (drop 1 old))
          (part_of (birth_at h) part) (reads (birth_at h) names) readable
          ∙ ap (λ vs. leaving (value_of (birth_at h) names array ∷ vs))
          (ap (λ vs. reverse vs ++ values_in h names (drop 1 old))
          (sym (run_elements h part.address (part.offset + part.length) stands part.offset part.length
          (omega arith) names s shows))
          ∙ (ap (λ vs. vs ++ values_in h names (drop 1 old))
          (sym (map-reverse (value_of (birth_at h) names) elements_read))
          ∙ sym (map-append (value_of (birth_at h) names) (reverse elements_read) (drop 1 old)))))

      within_loaded : AreWithin h names s old → AreWithin h names s loaded
      within_loaded within = (
        first_held (IsWithin (birth_at h) names s) old within array top,
        all_append (IsWithin (birth_at h) names s) (reverse elements_read) (drop 1 old)
            (all_reverse (IsWithin (birth_at h) names s) elements_read
            (run_within h part.address (part.offset + part.length) stands part.offset part.length
            (omega arith) names s shows))
            (rest_held (IsWithin (birth_at h) names s) old within 1),
      )

    pub aload_overflows : 500 < part.length + length old → Observes aload_row (Err StackOverflow) h old old
    aload_overflows many = observes_fails aload_row StackOverflow h old (λ names s shows within.
        row_is names s shows
        ∙ leaving_none (values_in h names loaded)
        (omega (
          arith,
          many,
          count_loaded,
          length-map loaded (value_of (birth_at h) names),
          ap length (first_split old array top),
        )))

    pub aload_done : (new : List Word) → part.length + length old ≤ 500 → new ≡ loaded
        → Observes aload_row (Ok tt) h old new
    aload_done new few is =
        subst (Observes aload_row (Ok tt) h old) (sym is)
        (observes_leaves aload_row h old loaded (λ names s shows within. (
          row_is names s shows
              ∙ leaving_all (values_in h names loaded)
              (omega (
                arith,
                few,
                count_loaded,
                length-map loaded (value_of (birth_at h) names),
                ap length (first_split old array top),
              )),
          within_loaded names s shows within,
        )))

    pub aload_ready : (new : List Word) → new ≡ loaded → IsReady h new
    aload_ready new is = record {
      sound = ready.sound;
      values = subst (AreValues h) (sym is) (
        first_held (IsValue h) old ready.values array top,
        all_append (IsValue h) (reverse elements_read) (drop 1 old)
            (all_reverse (IsValue h) elements_read
            (run_values h part.address (part.offset + part.length) stands part.offset part.length
            (omega arith) ready.sound))
            (rest_held (IsValue h) old ready.values 1),
      );
    }

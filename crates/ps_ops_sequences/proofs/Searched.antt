-- What the operators that search strings leave.
use Rattle.std.proofs.Common.{◌≡◌, ℕ, suc, ◌+◌, ◌-◌, ◌<◌, ◌≤◌, ◌&&◌, List, ◌∷◌, drop, length, Bool, true, false, Ok, Err, Some, refl, sym, ap, subst, arith, ◌∙◌}
use Rattle.std.specs.Prelude.{nat_eq}
use Rattle.std.specs.List.{starts_with}
use Rattle.std.proofs.lemmas.List.{length-map}
use Rattle.std.proofs.lemmas.Bool.Decides.{nat_tests}
use Rattle.ps_language.specs.declared.errors.ErrorName.TheVariants.{StackOverflow}
use Rattle.ps_language.specs.Value.{Part as PartValue, Value, Store}
use Rattle.ps_language.specs.Outcome.{Outcome, leaves, fails}
use Rattle.ps_language.specs.Readers.{as_string, boolean, leaving, part_at, with_part}
use Rattle.ps_language.specs.Access.{is_readable, bytes, part_bytes}
use Rattle.ps_language.specs.RowsSequences.{anchorsearch_row, anchor_result}
use Rattle.ps_stacks.specs.Tops.{first_two_of}
use Rattle.ps_word.specs.declared.words.Word.{Word}
use Rattle.ps_word.specs.declared.values.Part.{Part}
use Rattle.ps_mem.specs.Heap.{Heap, birth_at}
use Rattle.ps_mem.specs.Meaning.{value_of, part_of}
use Rattle.ps_mem.specs.Shows.{IsValue, AreValues, IsReady, IsWithin, AreWithin, Shows}
use Rattle.ps_ops_operands.specs.Plain.{IsPlain}
use Rattle.ps_ops_operands.specs.Changes.{values_in, Observes}
use Rattle.ps_ops_sequences.proofs.ArrayReads.{observes_fails, observes_leaves}
use Rattle.ps_ops_operands.proofs.Operands.{first_two_split}
use Rattle.ps_ops_operands.proofs.Held.{first_of_two_held, second_held, rest_held, ready_with}
use Rattle.ps_ops_operands.proofs.Ready.{plain_value, plain_within}

pub leaving_all : (vs : List Value) → length vs ≤ 500 → leaving vs ≡ leaves vs
leaving_all vs h = grind (arith, nat_tests)

pub leaving_none : (vs : List Value) → 500 < length vs → leaving vs ≡ fails StackOverflow
leaving_none vs h = grind (arith, nat_tests)

-- ---- any search of the second operand for the topmost one

module _ (h : Heap) (old : List Word) (sought string : Word) (tops : Some (sought, string)
    ≡ first_two_of old) where
  pub below_top : drop 1 old ≡ string ∷ drop 2 old
  below_top = ap (drop 1) (first_two_split old sought string tops)

  pub count_old : length old ≡ suc (suc (length (drop 2 old)))
  count_old = ap length (first_two_split old sought string tops)

  -- what the row may say of what is found
  abbrev pub RowIs : (Store → List Value → Outcome (List Value)) → (List (List ℕ) → Store → Outcome
      (List Value)) → Type 0
  RowIs row outcome = (names : List (List ℕ)) (s : Store) → Shows h names s
      → AreWithin h names s old → row s (values_in h names old) ≡ outcome names s

  module _ (row : Store → List Value → Outcome (List Value)) where
    -- not found: false above the string
    pub missing_done : (new : List Word) (denial : Word) → ((births : ℕ → ℕ) (names : List (List ℕ))
        → value_of births names denial ≡ boolean false) → IsPlain denial → new ≡ denial ∷ drop 1 old
        → RowIs row (λ names s. leaves (boolean false ∷ value_of (birth_at h) names string
        ∷ values_in h names (drop 2 old))) → Observes row (Ok tt) h old new
    missing_done new denial denial_is plain is says = observes_leaves row h old new
        (λ names s shows within. (
          says names s shows within
              ∙ ap (λ vs. leaves vs) (sym (ap (values_in h names) is ∙ (ap (λ ws. value_of
              (birth_at h) names denial ∷ values_in h names ws) below_top ∙ ap (λ v. v ∷ value_of
              (birth_at h) names string ∷ values_in h names (drop 2 old)) (denial_is
              (birth_at h) names)))),
          subst (AreWithin h names s) (sym is) (
            plain_within (birth_at h) names s denial plain,
            rest_held (IsWithin (birth_at h) names s) old within 1,
          ),
        ))

    -- found, with too many operands
    pub overflow_done : (vs : List (List ℕ) → List Value) → ((names : List (List ℕ)) → 500 < length
        (vs names)) → RowIs row (λ names s. leaving (vs names)) → Observes row
        (Err StackOverflow) h old old
    overflow_done vs many says = observes_fails row StackOverflow h old
        (λ names s shows within. says names s shows within ∙ leaving_none (vs names) (many names))

    -- found
    pub found_done : (new : List Word) → length new ≤ 500 → ((names : List (List ℕ)) (s : Store)
        → AreWithin h names s old → AreWithin h names s new)
        → RowIs row (λ names s. leaving (values_in h names new)) → Observes row (Ok tt) h old new
    found_done new few kept says = observes_leaves row h old new (λ names s shows within. (
      says names s shows within ∙ leaving_all (values_in h names new) (omega
          (arith, few, length-map new (value_of (birth_at h) names))),
      kept names s within,
    ))

-- ---- anchorsearch

anchor_row-is : (s : Store) (y x : Value) (rest : List Value) (wanted part : PartValue)
    (begins : Bool) → as_string y ≡ Some wanted → as_string x ≡ Some part →
    (is_readable wanted.access && is_readable part.access) ≡ true
    → starts_with nat_eq (part_bytes s part) (part_bytes s wanted) ≡ begins → anchorsearch_row s (y
    ∷ x ∷ rest) ≡ anchor_result x part wanted.count begins rest
anchor_row-is s y x rest wanted part begins sought string readable begin = rw
    (sought, string, readable, begin) refl

module _ (h : Heap) (old : List Word) (sought string : Word) (tops : Some (sought, string)
    ≡ first_two_of old) (wanted part : Part)
    (wanted_is : (births : ℕ → ℕ) (names : List (List ℕ)) → as_string (value_of births names sought)
    ≡ Some (part_of births wanted))
    (part_is : (births : ℕ → ℕ) (names : List (List ℕ)) → as_string (value_of births names string)
    ≡ Some (part_of births part))
    (readable : (is_readable wanted.access && is_readable part.access) ≡ true)
    (wanted_within : (births : ℕ → ℕ) (names : List (List ℕ)) (s : Store)
    → IsWithin births names s sought → wanted.offset + wanted.length ≤ length (bytes s
    (births wanted.address)))
    (part_within : (births : ℕ → ℕ) (names : List (List ℕ)) (s : Store)
    → IsWithin births names s string → part.offset + part.length ≤ length (bytes s
    (births part.address)))
    (begins : Bool)
    (begins_is : (names : List (List ℕ)) (s : Store) → Shows h names s
    → part.offset + part.length ≤ length (bytes s (birth_at h part.address))
    → wanted.offset + wanted.length ≤ length (bytes s (birth_at h wanted.address))
    → begins ≡ starts_with nat_eq (part_bytes s (part_of (birth_at h) part)) (part_bytes s (part_of
    (birth_at h) wanted))) where
  anchor_says : (answer : Bool) → begins ≡ answer → RowIs h old sought string tops anchorsearch_row
      (λ names s. anchor_result (value_of (birth_at h) names string) (part_of
      (birth_at h) part) wanted.length answer (values_in h names (drop 2 old)))
  anchor_says answer is = λ names s shows within.
      ap (λ ws. anchorsearch_row s (values_in h names ws)) (first_two_split old sought string tops)
      ∙ anchor_row-is s (value_of (birth_at h) names sought) (value_of (birth_at h) names string)
      (values_in h names (drop 2 old)) (part_of (birth_at h) wanted) (part_of
      (birth_at h) part) answer
      (wanted_is (birth_at h) names) (part_is (birth_at h) names) readable
      (sym (begins_is names s shows
      (part_within (birth_at h) names s (second_held (IsWithin
      (birth_at h) names s) old within sought string tops))
      (wanted_within (birth_at h) names s (first_of_two_held (IsWithin
      (birth_at h) names s) old within sought string tops))) ∙ is)

  pub anchor_missing : begins ≡ false → (new : List Word) (denial : Word) → ((births : ℕ → ℕ)
      (names : List (List ℕ)) → value_of births names denial ≡ boolean false) → IsPlain denial → new
      ≡ denial ∷ drop 1 old → Observes anchorsearch_row (Ok tt) h old new
  anchor_missing is new denial denial_is plain new_is = missing_done h old sought string tops
      anchorsearch_row new denial denial_is plain new_is (anchor_says false is)

  abbrev anchor_parts : List (List ℕ) → List Value
  anchor_parts names =
      boolean true
      ∷ with_part (value_of (birth_at h) names string) (part_at (part_of
      (birth_at h) part) 0 wanted.length)
      ∷ with_part (value_of (birth_at h) names string) (part_at (part_of
      (birth_at h) part) wanted.length (part.length - wanted.length))
      ∷ values_in h names (drop 2 old)

  pub anchor_overflows : begins ≡ true → 500 ≤ length old → Observes anchorsearch_row
      (Err StackOverflow) h old old
  anchor_overflows is many = overflow_done h old sought string tops anchorsearch_row anchor_parts
      (λ names. omega (
        arith,
        many,
        count_old h old sought string tops,
        length-map (drop 2 old)
            (value_of (birth_at h) names),
      ))
      (anchor_says true is)

  module _ (assent matched behind : Word) (new : List Word) (new_is : new ≡ assent ∷ matched
      ∷ behind ∷ drop 2 old) where
    pub anchor_found : begins ≡ true → length old < 500 → ((births : ℕ → ℕ) (names : List (List ℕ))
        → value_of births names assent ≡ boolean true) → IsPlain assent
        → ((births : ℕ → ℕ) (names : List (List ℕ)) → value_of births names matched ≡ with_part
        (value_of births names string) (part_at (part_of births part) 0 wanted.length))
        → ((births : ℕ → ℕ) (names : List (List ℕ)) → value_of births names behind ≡ with_part
        (value_of births names string) (part_at (part_of births part) wanted.length
        (part.length - wanted.length)))
        → ((births : ℕ → ℕ) (names : List (List ℕ)) (s : Store) → IsWithin births names s string
        → IsWithin births names s matched)
        → ((births : ℕ → ℕ) (names : List (List ℕ)) (s : Store) → IsWithin births names s string
        → IsWithin births names s behind)
        → Observes anchorsearch_row (Ok tt) h old new
    anchor_found is few assent_is plain matched_is behind_is matched_within behind_within =
        found_done h old sought string tops anchorsearch_row new (omega
        (arith, few, count_old h old sought string tops, ap length new_is))
        (λ names s within.
        let held = second_held (IsWithin (birth_at h) names s) old within sought string tops in
        subst (AreWithin h names s) (sym new_is) (
          plain_within (birth_at h) names s assent plain,
          (
            matched_within (birth_at h) names s held,
            (
              behind_within
                  (birth_at h) names s held,
              rest_held (IsWithin (birth_at h) names s) old within 2,
            ),
          ),
        ))
        (λ names s shows within.
        anchor_says true is names s shows within
        ∙ (λ i. leaving (sym (assent_is (birth_at h) names) i ∷ sym (matched_is
        (birth_at h) names) i ∷ sym (behind_is (birth_at h) names) i ∷ values_in h names
        (drop 2 old)))
        ∙ ap (λ ws. leaving (values_in h names ws)) (sym new_is))

-- ---- the memory stays ready

pub missing_ready : (h : Heap) (old new : List Word) → IsReady h old → (denial : Word)
    → IsPlain denial → new ≡ denial ∷ drop 1 old → IsReady h new
missing_ready h old new ready denial plain is = ready_with h old new ready (subst (AreValues h)
    (sym is) (plain_value h denial plain, rest_held (IsValue h) old ready.values 1))

pub found_ready : (h : Heap) (old new : List Word) → IsReady h old → (assent matched behind : Word)
    → IsPlain assent → IsValue h matched → IsValue h behind → new ≡ assent ∷ matched ∷ behind
    ∷ drop 2 old → IsReady h new
found_ready h old new ready assent matched behind plain m b is = ready_with h old new ready (subst
    (AreValues h) (sym is) (
      plain_value h assent plain,
      (
        m,
        (
          b,
          rest_held
              (IsValue h) old ready.values 2,
        ),
      ),
    ))

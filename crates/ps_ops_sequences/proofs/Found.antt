-- What search leaves.
use Rattle.std.proofs.Common.{◌≡◌, ℕ, ◌+◌, ◌<◌, ◌≤◌, ◌&&◌, List, ◌∷◌, drop, length, true, false, Option, Ok, Err, Some, None, refl, sym, ap, subst, arith, ◌∙◌}
use Rattle.std.specs.Prelude.{is_some, ◌⊎◌}
use Rattle.std.proofs.lemmas.List.{length-map}
use Rattle.ps_language.specs.declared.errors.ErrorName.{ErrorName}
use Rattle.ps_language.specs.declared.errors.ErrorName.TheVariants.{StackOverflow}
use Rattle.ps_language.specs.Value.{Part as PartValue, Value, Store}
use Rattle.ps_language.specs.Outcome.{Outcome, fails}
use Rattle.ps_language.specs.Readers.{as_string, boolean, leaving}
use Rattle.ps_language.specs.Access.{is_readable, bytes, part_bytes}
use Rattle.ps_language.specs.RowsSequences.{place_of, search_row, search_result, search_parts}
use Rattle.ps_stacks.specs.Tops.{first_two_of}
use Rattle.ps_word.specs.declared.words.Word.{Word}
use Rattle.ps_word.specs.declared.values.Part.{Part}
use Rattle.ps_mem.specs.Heap.{Heap, birth_at}
use Rattle.ps_mem.specs.Meaning.{value_of, part_of}
use Rattle.ps_mem.specs.Shows.{IsValue, AreValues, IsReady, IsWithin, AreWithin, Shows}
use Rattle.ps_ops_operands.specs.Plain.{IsPlain}
use Rattle.ps_ops_operands.specs.declared.failure.NotMade.TheVariants.{Memory}
use Rattle.ps_ops_operands.specs.declared.failure.Failure.TheVariants.{Error, NotMade}
use Rattle.ps_ops_operands.specs.Changes.{values_in, Observes}
use Rattle.ps_ops_sequences.proofs.ArrayReads.{observes_fails}
use Rattle.ps_ops_operands.proofs.Operands.{first_two_split}
use Rattle.ps_ops_operands.proofs.Held.{first_of_two_held, second_held, rest_held, ready_with}
use Rattle.ps_ops_operands.proofs.Ready.{plain_value, plain_within}
use Rattle.ps_ops_sequences.specs.Searches.{LacksRoom, SearchesAs, Searches, IsFound}
use Rattle.ps_ops_sequences.proofs.Searched.{RowIs, count_old, leaving_all, leaving_none, missing_done, found_done}

-- what only reads is a search that lacked no memory
searches_done : (row : Store → List Value → Outcome (List Value)) (room sought_room : ℕ) (h : Heap)
    (old new : List Word) → Observes row (Ok tt) h old new → Searches row room sought_room
    (Ok tt) h old new
searches_done row room sought_room h old new o = record {
  meets =
      λ names s shows within. o.meets names s shows within;
}

searches_fails : (row : Store → List Value → Outcome (List Value)) (room sought_room : ℕ)
    (error : ErrorName) (h : Heap) (old new : List Word) → Observes row (Err error) h old new
    → Searches row room sought_room (Err (Error error)) h old new
searches_fails row room sought_room error h old new o = record {
  meets =
      λ names s shows within. o.meets names s shows within;
}

search_row-is : (s : Store) (y x : Value) (rest : List Value) (wanted part : PartValue)
    (place : Option ℕ) → as_string y ≡ Some wanted → as_string x ≡ Some part →
    (is_readable wanted.access && is_readable part.access) ≡ true
    → place_of (part_bytes s wanted) (part_bytes s part) ≡ place → search_row s (y ∷ x ∷ rest)
    ≡ search_result x part wanted.count place rest
search_row-is s y x rest wanted part place sought string readable is = rw
    (sought, string, readable, is) refl

module _ (h : Heap) (old : List Word) (sought string : Word) (tops : Some (sought, string)
    ≡ first_two_of old) (wanted part : Part)
    (wanted_is : (births : ℕ → ℕ) (names : List (List ℕ)) → as_string (value_of births names sought)
    ≡ Some (part_of births wanted))
    (part_is : (births : ℕ → ℕ) (names : List (List ℕ)) → as_string (value_of births names string)
    ≡ Some (part_of births part))
    (readable : (is_readable wanted.access && is_readable part.access) ≡ true)
    (wanted_within : (births : ℕ → ℕ) (names : List (List ℕ)) (s : Store)
    → IsWithin births names s sought → wanted.offset + wanted.length ≤ length (bytes s
    (births wanted.address)))
    (part_within : (births : ℕ → ℕ) (names : List (List ℕ)) (s : Store)
    → IsWithin births names s string → part.offset + part.length ≤ length (bytes s
    (births part.address)))
    (room sought_room : ℕ) where
  abbrev placed : List (List ℕ) → Store → Option ℕ
  placed names s = place_of (part_bytes s (part_of (birth_at h) wanted))
      (part_bytes s (part_of (birth_at h) part))

  abbrev result_of : List (List ℕ) → Option ℕ → Outcome (List Value)
  result_of names place = search_result (value_of (birth_at h) names string)
      (part_of (birth_at h) part) wanted.length place (values_in h names (drop 2 old))

  -- what holds of the first place, for every store that is shown
  abbrev Placed : (Option ℕ → Type 0) → Type 0
  Placed P = (names : List (List ℕ)) (s : Store) → Shows h names s
      → part.offset + part.length ≤ length (bytes s (birth_at h part.address))
      → wanted.offset + wanted.length ≤ length (bytes s (birth_at h wanted.address))
      → P (placed names s)

  search_here : RowIs h old sought string tops search_row
      (λ names s. result_of names (placed names s))
  search_here = λ names s shows within.
      ap (λ ws. search_row s (values_in h names ws)) (first_two_split old sought string tops)
      ∙ search_row-is s (value_of (birth_at h) names sought) (value_of (birth_at h) names string)
      (values_in h names (drop 2 old)) (part_of (birth_at h) wanted) (part_of (birth_at h) part) _
      (wanted_is (birth_at h) names) (part_is (birth_at h) names) readable refl

  place_known : (P : Option ℕ → Type 0) → Placed P → (names : List (List ℕ)) (s : Store)
      → Shows h names s → AreWithin h names s old → P (placed names s)
  place_known P known names s shows within = known names s shows
      (part_within (birth_at h) names s
      (second_held (IsWithin (birth_at h) names s) old within sought string tops))
      (wanted_within (birth_at h) names s
      (first_of_two_held (IsWithin (birth_at h) names s) old within sought string tops))

  abbrev parts_at : List (List ℕ) → ℕ → List Value
  parts_at names place = search_parts (value_of (birth_at h) names string)
      (part_of (birth_at h) part) place wanted.length (values_in h names (drop 2 old))

  -- ---- looked for in place

  overflows : 500 < length old + 2 → (names : List (List ℕ)) (o : Option ℕ) → true ≡ is_some o
      → result_of names o ≡ fails StackOverflow
  overflows many names (Some place) is = leaving_none (parts_at names place) (omega (
    arith,
    many,
    count_old h old sought string tops,
    length-map (drop 2 old) (value_of (birth_at h) names),
  ))
  overflows many names None is = cc

  pub contained_overflows : Placed (λ place. true ≡ is_some place) → 500 < length old + 2
      → Searches search_row room sought_room (Err (Error StackOverflow)) h old old
  contained_overflows has many =
      searches_fails search_row room sought_room StackOverflow h old old
      (observes_fails search_row StackOverflow h old λ names s shows within.
      search_here names s shows within
      ∙ overflows many names (placed names s)
      (place_known (λ place. true ≡ is_some place) has names s shows within))

  absent : (o : Option ℕ) → false ≡ is_some o → o ≡ None
  absent (Some place) is = cc
  absent None is = refl

  pub uncontained_missing : Placed (λ place. false ≡ is_some place) → (new : List Word)
      (denial : Word) → ((births : ℕ → ℕ) (names : List (List ℕ))
      → value_of births names denial ≡ boolean false) → IsPlain denial → new ≡ denial ∷ drop 1 old
      → Searches search_row room sought_room (Ok tt) h old new
  uncontained_missing has new denial denial_is plain new_is =
      searches_done search_row room sought_room h old new
      (missing_done h old sought string tops search_row new denial denial_is plain new_is
      λ names s shows within. search_here names s shows within
      ∙ ap (result_of names) (absent (placed names s)
      (place_known (λ place. false ≡ is_some place) has names s shows within)))

  -- ---- no room for what is read

  wants : (names : List (List ℕ)) (s : Store) → length old + 2 ≤ 500
      → LacksRoom room sought_room (values_in h names old) → (o : Option ℕ)
      → SearchesAs (LacksRoom room sought_room (values_in h names old)) (Err (NotMade Memory))
      (result_of names o) names s h old old
  wants names s few lacks None = (lacks, refl)
  wants names s few lacks (Some place) =
      subst (λ outcome. SearchesAs (LacksRoom room sought_room (values_in h names old))
      (Err (NotMade Memory)) outcome names s h old old)
      (sym (leaving_all (parts_at names place) (omega (
        arith,
        few,
        count_old h old sought string tops,
        length-map (drop 2 old) (value_of (birth_at h) names),
      )))) (lacks, refl)

  pub search_wants : length old + 2 ≤ 500
      → (room < part.length) ⊎ (sought_room < wanted.length)
      → Searches search_row room sought_room (Err (NotMade Memory)) h old old
  search_wants few lacks = record {
    meets = λ names s shows within.
        let lacking : LacksRoom room sought_room (values_in h names old) = rw (
          first_two_split old sought string tops,
          part_is (birth_at h) names,
          wanted_is (birth_at h) names,
        ) lacks in
        subst (λ outcome. SearchesAs (LacksRoom room sought_room (values_in h names old))
        (Err (NotMade Memory)) outcome names s h old old)
        (sym (search_here names s shows within))
        (wants names s few lacking (placed names s));
  }

  -- ---- what was found

  module _ (found : Option ℕ) (found_is : Placed (λ place. found ≡ place)) where
    search_says : (answer : Option ℕ) → found ≡ answer → RowIs h old sought string tops search_row
        (λ names s. result_of names answer)
    search_says answer is = λ names s shows within.
        search_here names s shows within
        ∙ ap (result_of names)
        (sym (place_known (λ place. found ≡ place) found_is names s shows within) ∙ is)

    pub search_missing : found ≡ None → (new : List Word) (denial : Word) → ((births : ℕ → ℕ)
        (names : List (List ℕ)) → value_of births names denial ≡ boolean false) → IsPlain denial → new
        ≡ denial ∷ drop 1 old → Searches search_row room sought_room (Ok tt) h old new
    search_missing is new denial denial_is plain new_is = searches_done search_row room sought_room h
        old new (missing_done h old sought string tops search_row new denial denial_is plain new_is
        (search_says None is))

    module _ (place : ℕ) (is : found ≡ Some place) where
      abbrev parts : List (List ℕ) → List Value
      parts names = search_parts (value_of (birth_at h) names string) (part_of
          (birth_at h) part) place wanted.length (values_in h names (drop 2 old))

      pub search_found : (new : List Word) → length old + 2 ≤ 500
          → IsFound old string part place wanted.length new → Searches search_row room sought_room
          (Ok tt) h old new
      search_found new few f =
          searches_done search_row room sought_room h old new
          (found_done h old sought string tops search_row new (omega
          (arith, few, count_old h old sought string tops, ap length f.are))
          (λ names s within.
          let held = second_held (IsWithin (birth_at h) names s) old within sought string tops in
          subst (AreWithin h names s) (sym f.are) (
            plain_within (birth_at h) names s f.truth f.plain,
            (
              f.front_is.within (birth_at h) names s held,
              (
                f.matched_is.within
                    (birth_at h) names s held,
                (
                  f.behind_is.within (birth_at h) names s held,
                  rest_held
                      (IsWithin (birth_at h) names s) old within 2,
                ),
              ),
            ),
          ))
          (λ names s shows within.
          search_says (Some place) is names s shows within
          ∙ (λ i. leaving (sym (f.is_true (birth_at h) names) i ∷ sym (f.front_is.value
          (birth_at h) names) i ∷ sym (f.matched_is.value (birth_at h) names) i ∷ sym
          (f.behind_is.value (birth_at h) names) i ∷ values_in h names (drop 2 old)))
          ∙ ap (λ ws. leaving (values_in h names ws)) (sym f.are)))

pub parts_ready : (h : Heap) (old new : List Word) → IsReady h old → (string : Word) (part : Part)
    (place count : ℕ) → IsValue h string → IsFound old string part place count new → IsReady h new
parts_ready h old new ready string part place count held f =
    ready_with h old new ready (subst (AreValues h) (sym f.are) (
      plain_value h f.truth f.plain,
      (
        f.front_is.held h held,
        (
          f.matched_is.held h held,
          (
            f.behind_is.held h held,
            rest_held
                (IsValue h) old ready.values 2,
          ),
        ),
      ),
    ))

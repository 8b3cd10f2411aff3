-- Where bind replaces nothing the elements are as they were, and storing them changes nothing.
use Rattle.std.proofs.Common.{◌≡◌, ℕ, zero, suc, ◌+◌, ◌-◌, ◌≤◌, arith, Bool, true, false, List, [], ◌∷◌, ◌++◌, length, take, drop, map, Option, Some, None, refl, sym, ap, ◌∙◌, ◌⊎◌, inl, inr}
use Rattle.std.specs.Prelude.{◌||◌, slice_get, slice_set, if◌then◌else◌}
use Rattle.std.proofs.lemmas.List.{drop-drop, drop-take, take-append-drop}
use Rattle.ps_language.specs.Value.{Part, Value, Store, array_object}
use Rattle.ps_language.specs.Access.{elements, with_elements, with_part_elements, splice}
use Rattle.ps_language.specs.Control.{as_procedure}
use Rattle.ps_language.specs.StepValues.{LookedUp, known, unknown, unreadable, is_executable_name}
use Rattle.ps_language.specs.StepBind as language
use Rattle.ps_language.specs.StepBind.{at_end, at_inner, no_access, with_first, operator_in, bound_name, bound_element, bound}
use Rattle.ps_word.specs.declared.values.Part.{Part as PartHere}
use Rattle.ps_mem.specs.Heap.{Heap, birth_at}
use Rattle.ps_mem.specs.Meaning.{value_of, part_of}
use Rattle.ps_mem.specs.Shows.{Shows}
use Rattle.ps_mem.proofs.StoreShows.{array-shown, elements-shown}
use Rattle.ps_seq.proofs.ArrayLemmas.{birth-array, set_same}
use Rattle.ps_ops_control.specs.Frames.{IsHeld}
use Rattle.ps_step_frames.specs.Binds.{element_bound, is_operator, is_entered, is_replaced, replaces, ends_at, values_from}

-- an element that is not replaced stays, or can't be read
module _ (value : Value) (later : language.Bound) where
  name_stays : (found : LookedUp) → is_operator found ≡ false
      → (bound_name value found later ≡ with_first value later)
      ⊎ (bound_name value found later ≡ no_access)
  name_stays (known v) is = inl (ap (λ b. with_first (if b then v else value) later) is)
  name_stays unknown is = inl refl
  name_stays unreadable is = inr refl

  other_stays : (part : Option Part) → is_entered part ≡ false
      → bound_element value part later ≡ with_first value later
  other_stays None is = refl
  other_stays (Some part) is = rw is refl

  element_stays : (look : Value → LookedUp) → is_replaced look value ≡ false
      → (element_bound look value later ≡ with_first value later)
      ⊎ (element_bound look value later ≡ no_access)
  element_stays look = by (is_executable_name value)
    where
      by : (b : Bool)
          → (if b then is_operator (look value) else is_entered (as_procedure value)) ≡ false
          → ((if b then bound_name value (look value) later
          else bound_element value (as_procedure value) later) ≡ with_first value later)
          ⊎ ((if b then bound_name value (look value) later
          else bound_element value (as_procedure value) later) ≡ no_access)
      by true is = name_stays (look value) is
      by false is = inl (other_stays (as_procedure value) is)

first_false : (a b : Bool) → (a || b) ≡ false → a ≡ false
first_false false b is = refl
first_false true b is = cc

second_false : (a b : Bool) → (a || b) ≡ false → b ≡ false
second_false false b is = is
second_false true b is = cc

-- all stay, or one can't be read
pub nothing_replaced : (look : Value → LookedUp) (values : List Value)
    → replaces look values ≡ false
    → (bound look values ≡ at_end values) ⊎ (bound look values ≡ no_access)
nothing_replaced look [] is = inl refl
nothing_replaced look (value ∷ values) is =
    with_rest (element_stays value (bound look values) look
    (first_false (is_replaced look value) (replaces look values) is))
    (nothing_replaced look values
    (second_false (is_replaced look value) (replaces look values) is))
  where
    with_rest : (element_bound look value (bound look values)
        ≡ with_first value (bound look values))
        ⊎ (element_bound look value (bound look values) ≡ no_access)
        → (bound look values ≡ at_end values) ⊎ (bound look values ≡ no_access)
        → (element_bound look value (bound look values) ≡ at_end (value ∷ values))
        ⊎ (element_bound look value (bound look values) ≡ no_access)
    with_rest (inr none) rest = inr none
    with_rest (inl stays) (inl rest) = inl (stays ∙ ap (with_first value) rest)
    with_rest (inl stays) (inr none) = inr (stays ∙ ap (with_first value) none)

-- and so what is left of them is what they were
pub nothing_new : (look : Value → LookedUp) (values left : List Value) (births : ℕ → ℕ)
    (inner : Option PartHere) → replaces look values ≡ false
    → bound look values ≡ ends_at births left inner → left ≡ values
nothing_new look values left births inner none is = by inner (nothing_replaced look values none) is
  where
    by : (inner : Option PartHere) → (bound look values ≡ at_end values)
        ⊎ (bound look values ≡ no_access) → bound look values ≡ ends_at births left inner
        → left ≡ values
    by None (inl stays) is = cc
    by None (inr closed) is = cc
    by (Some part) (inl stays) is = cc
    by (Some part) (inr closed) is = cc

-- ---- a run is spliced onto itself

run_rest : {A : Type 0} (count : ℕ) (xs : List A)
    → take count xs ++ drop (length (take count xs)) xs ≡ xs
run_rest zero xs = refl
run_rest (suc count) [] = refl
run_rest (suc count) (x ∷ xs) = ap (λ ys. x ∷ ys) (run_rest count xs)

splice_same : {A : Type 0} (xs : List A) (place count : ℕ)
    → splice xs place (take count (drop place xs)) ≡ xs
unfolding splice
splice_same xs place count =
    ap (λ ys. take place xs ++ (take count (drop place xs) ++ ys))
    (sym (drop-drop (length (take count (drop place xs))) place xs))
    ∙ (ap (λ ys. take place xs ++ ys) (run_rest count (drop place xs))
    ∙ take-append-drop place xs)

module _ (h : Heap) (over : PartHere) (held : IsHeld h over) (at : ℕ) (few : at ≤ over.length)
    (names : List (List ℕ)) (s : Store) (shows : Shows h names s) where
  abbrev here : List Value
  here = elements s (birth_at h over.address)

  from_is : values_from h over at s
      ≡ take (over.length - at) (drop (over.offset + at) here)
  from_is =
      let size : (over.offset + over.length) - over.offset ≡ at + (over.length - at) =
      omega (arith, few) in
      ap (λ n. drop at (take n (drop over.offset here))) size
      ∙ (drop-take at (over.length - at) (drop over.offset here)
      ∙ ap (take (over.length - at)) (drop-drop at over.offset here))

  -- the values of a part that are stored where they stand
  pub stored_same : with_part_elements s (part_of (birth_at h) over) at (values_from h over at s)
      ≡ s
  unfolding with_elements
  stored_same =
      let n = over.offset + over.length in
      let birth = birth-array h over.address n held.stands in
      let object = held.stands.object in
      let there : slice_get s (birth_at h over.address)
      ≡ Some (array_object (map (value_of (birth_at h) names) object.fields)) =
      ap (slice_get s) birth ∙ array-shown h names s shows over.address object held.stands.at
      held.stands.kind_is in
      let elements_are : here ≡ map (value_of (birth_at h) names) object.fields =
      ap (elements s) birth ∙ elements-shown h names s shows over.address object held.stands.at
      held.stands.kind_is in
      ap (λ vs. slice_set s (birth_at h over.address) (array_object
      (splice here (over.offset + at) vs))) from_is
      ∙ (ap (λ vs. slice_set s (birth_at h over.address) (array_object vs))
      (splice_same here (over.offset + at) (over.length - at))
      ∙ (ap (λ vs. slice_set s (birth_at h over.address) (array_object vs)) elements_are
      ∙ set_same s (birth_at h over.address) _ there))

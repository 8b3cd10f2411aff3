-- The elements that bind has gone over.
use Rattle.std.proofs.Common.{◌≡◌, ℕ, zero, suc, ◌+◌, ◌-◌, ◌<◌, ◌≤◌, arith, Bool, true, false, IsTrue, List, [], ◌∷◌, ◌++◌, length, length-append, take, drop, Some, None, refl, sym, ap, subst, ◌∙◌}
use Rattle.std.specs.Prelude.{◌||◌, slice_get}
use Rattle.std.proofs.lemmas.List.{map-append}
use Rattle.ps_language.specs.Value.{Part as PartValue, Value, Store}
use Rattle.ps_language.specs.Access.{elements, part_elements}
use Rattle.ps_language.specs.StepBind as language
use Rattle.ps_language.specs.StepBind.{at_end, at_inner, no_access, with_first, bound}
use Rattle.ps_word.specs.declared.values.Part.{Part}
use Rattle.ps_word.specs.declared.words.Word.{Word}
use Rattle.ps_mem.specs.Heap.{Heap, birth_at}
use Rattle.ps_mem.specs.Meaning.{value_of, part_of}
use Rattle.ps_mem.specs.Shows.{IsValue, AreValues, IsWithin, AreWithin, Shows}
use Rattle.ps_ops_operands.specs.Changes.{values_in}
use Rattle.ps_ops_operands.proofs.Held.{all_append}
use Rattle.ps_ops_operands.proofs.Operands.{slice_get-drop}
use Rattle.ps_ops_control.proofs.FramesLeft.{drop_at, drop_all}
use Rattle.ps_step_frames.specs.declared.binds.Bound.{Bound}
use Rattle.ps_step_frames.specs.declared.binds.Bound.TheVariants.{Kept, Replaced, Entered}
use Rattle.ps_step_frames.specs.Binds.{IsHere, IsThere, look_in, Binds, BindsAll, values_from, element_bound, is_replaced, replaces, word_left, inner_of, changed_by}

-- ---- elements in front of others

abbrev pub before : List Value → language.Bound → language.Bound
before [] later = later
before (value ∷ values) later = with_first value (before values later)

before_more : (values : List Value) (value : Value) (later : language.Bound)
    → before (values ++ value ∷ []) later ≡ before values (with_first value later)
before_more [] value later = refl
before_more (v ∷ values) value later = ap (with_first v) (before_more values value later)

before_end : (values : List Value) → before values (at_end []) ≡ at_end values
before_end [] = refl
before_end (v ∷ values) = ap (with_first v) (before_end values)

before_none : (values : List Value) → before values no_access ≡ no_access
before_none [] = refl
before_none (v ∷ values) = ap (with_first v) (before_none values)

before_inner : (values : List Value) (value : Value) (inner : PartValue)
    → before values (at_inner (value ∷ []) inner) ≡ at_inner (values ++ value ∷ []) inner
before_inner [] value inner = refl
before_inner (v ∷ values) value inner = ap (with_first v) (before_inner values value inner)

or_true : (b c : Bool) → (b || (true || c)) ≡ true
or_true true c = refl
or_true false c = refl

-- ---- runs

get-take : {A : Type 0} (xs : List A) (n i : ℕ) → i < n → slice_get (take n xs) i ≡ slice_get xs i
get-take [] zero i few = refl
get-take [] (suc n) i few = refl
get-take (x ∷ xs) zero i few = absurd (omega (arith, few))
get-take (x ∷ xs) (suc n) zero few = refl
get-take (x ∷ xs) (suc n) (suc i) few = get-take xs n i (omega (arith, few))

take_few : {A : Type 0} (n : ℕ) (xs : List A) → length (take n xs) ≤ n
take_few zero xs = omega arith
take_few (suc n) [] = omega arith
take_few (suc n) (x ∷ xs) = let few = take_few n xs in omega (arith, few)

-- ---- as far as a place

module _ (h : Heap) (dictionaries : List Word) (over : Part) (at : ℕ) where
  pub record IsBoundTo (place : ℕ) (changed : Bool) (words : List Word) : Type 0 where
    pub binds : (names : List (List ℕ)) (s : Store) → IsThere h dictionaries names s
        → bound (look_in h dictionaries names s) (values_from h over at s)
        ≡ before (values_in h names words)
        (bound (look_in h dictionaries names s) (values_from h over place s))
    pub replaced : (names : List (List ℕ)) (s : Store) → IsThere h dictionaries names s
        → replaces (look_in h dictionaries names s) (values_from h over at s)
        ≡ (changed || replaces (look_in h dictionaries names s) (values_from h over place s))
    pub some : IsTrue changed → 1 ≤ length words
    pub held : AreValues h words
    pub within : (names : List (List ℕ)) (s : Store) → IsThere h dictionaries names s
        → AreWithin h names s words

  pub bound_start : IsBoundTo at false []
  bound_start = record {
    binds = λ names s there. refl;
    replaced = λ names s there. refl;
    some = λ changed. cc;
    held = tt;
    within = λ names s there. tt;
  }

  element_read : (place : ℕ) (names : List (List ℕ)) (s : Store) (value : Value)
      → place < over.length
      → slice_get (elements s (birth_at h over.address)) (over.offset + place) ≡ Some value
      → values_from h over place s ≡ value ∷ values_from h over (place + 1) s
  element_read place names s value few reads =
      let xs = elements s (birth_at h over.address) in
      let size : (over.offset + over.length) - over.offset ≡ over.length = omega arith in
      drop_at (part_elements s (part_of (birth_at h) over)) place value
      (sym (ap (λ n. slice_get (take n (drop over.offset xs)) place) size
      ∙ (get-take (drop over.offset xs) over.length place few
      ∙ (slice_get-drop xs over.offset place ∙ reads))))

  none_left : (s : Store) → values_from h over over.length s ≡ []
  none_left s =
      let size : (over.offset + over.length) - over.offset ≡ over.length = omega arith in
      let few = take_few ((over.offset + over.length) - over.offset)
      (drop over.offset (elements s (birth_at h over.address))) in
      drop_all (part_elements s (part_of (birth_at h) over)) over.length (omega (arith, size, few))

  -- at the end
  pub bound_end : (place : ℕ) (changed : Bool) (words : List Word) → place ≡ over.length
      → at + length words ≤ over.length → IsBoundTo place changed words
      → BindsAll h dictionaries over at (Some (record { inner = None; changed = changed })) words
  bound_end place changed words last count is =
      let so = subst (λ n. IsBoundTo n changed words) last is in record {
        binds = λ names s there.
            so.binds names s there
            ∙ (ap (λ vs. before (values_in h names words)
            (bound (look_in h dictionaries names s) vs)) (none_left s)
            ∙ before_end (values_in h names words));
        replaced = λ names s there.
            so.replaced names s there
            ∙ (ap (λ vs. changed || replaces (look_in h dictionaries names s) vs) (none_left s)
            ∙ or_nothing changed);
        count = count;
        some = so.some;
        held = so.held;
        inner = tt;
        within = so.within;
      }
    where
      or_nothing : (b : Bool) → (b || false) ≡ b
      or_nothing true = refl
      or_nothing false = refl

  -- ---- one element more

  module _ (place : ℕ) (changed : Bool) (words : List Word)
      (is : IsBoundTo place changed words) (few : place < over.length)
      (word : Word) (held : IsValue h word)
      (within : (names : List (List ℕ)) (s : Store) → Shows h names s
      → IsWithin (birth_at h) names s word)
      (reads : (names : List (List ℕ)) (s : Store) → Shows h names s
      → slice_get (elements s (birth_at h over.address)) (over.offset + place)
      ≡ Some (value_of (birth_at h) names word)) where
    here : (names : List (List ℕ)) (s : Store) → IsThere h dictionaries names s
        → IsHere h dictionaries word names s
    here names s there = record {
      shows = there.shows;
      dictionaries_within = there.dictionaries_within;
      apart = there.apart;
      word_within = within names s there.shows;
    }

    read : (names : List (List ℕ)) (s : Store) → IsThere h dictionaries names s
        → values_from h over place s
        ≡ value_of (birth_at h) names word ∷ values_from h over (place + 1) s
    read names s there =
        element_read place names s (value_of (birth_at h) names word) few
        (reads names s there.shows)

    -- a dictionary on the way can't be read
    pub bound_closed : at + length words ≤ over.length → Binds h dictionaries word None
        → BindsAll h dictionaries over at None words
    bound_closed count none = record {
      binds = λ names s there.
          is.binds names s there
          ∙ (ap (λ vs. before (values_in h names words)
          (bound (look_in h dictionaries names s) vs)) (read names s there)
          ∙ (ap (before (values_in h names words)) (none.binds names s (here names s there) _)
          ∙ before_none (values_in h names words)));
      replaced = λ names s there. tt;
      count = count;
      some = tt;
      held = is.held;
      inner = tt;
      within = is.within;
    }

    on_by : (left : Word) (is_new after : Bool) → IsValue h left
        → ((names : List (List ℕ)) (s : Store) → IsThere h dictionaries names s
        → IsWithin (birth_at h) names s left)
        → ((names : List (List ℕ)) (s : Store) → IsThere h dictionaries names s
        → (later : language.Bound)
        → element_bound (look_in h dictionaries names s) (value_of (birth_at h) names word) later
        ≡ with_first (value_of (birth_at h) names left) later)
        → ((names : List (List ℕ)) (s : Store) → IsThere h dictionaries names s
        → is_replaced (look_in h dictionaries names s) (value_of (birth_at h) names word) ≡ is_new)
        → ((b : Bool) → (changed || (is_new || b)) ≡ (after || b))
        → IsBoundTo (place + 1) after (words ++ left ∷ [])
    on_by left is_new after left_held inside element new joined = record {
      binds = λ names s there.
          is.binds names s there
          ∙ (ap (λ vs. before (values_in h names words)
          (bound (look_in h dictionaries names s) vs)) (read names s there)
          ∙ (ap (before (values_in h names words)) (element names s there
          (bound (look_in h dictionaries names s) (values_from h over (place + 1) s)))
          ∙ (sym (before_more (values_in h names words) (value_of (birth_at h) names left)
          (bound (look_in h dictionaries names s) (values_from h over (place + 1) s)))
          ∙ ap (λ vs. before vs
          (bound (look_in h dictionaries names s) (values_from h over (place + 1) s)))
          (sym (map-append (value_of (birth_at h) names) words (left ∷ []))))));
      replaced = λ names s there.
          is.replaced names s there
          ∙ (ap (λ vs. changed || replaces (look_in h dictionaries names s) vs)
          (read names s there)
          ∙ (ap (λ b. changed || (b
          || replaces (look_in h dictionaries names s) (values_from h over (place + 1) s)))
          (new names s there)
          ∙ joined (replaces (look_in h dictionaries names s) (values_from h over (place + 1) s))));
      some = λ changed. let more = length-append words (left ∷ []) in omega (arith, more);
      held = all_append (IsValue h) words (left ∷ []) is.held (left_held, tt);
      within = λ names s there.
          all_append (IsWithin (birth_at h) names s) words (left ∷ []) (is.within names s there)
          (inside names s there, tt);
    }

    -- it stays or is replaced
    pub bound_on : (b : Bound) → None ≡ inner_of b → Binds h dictionaries word (Some b)
        → IsBoundTo (place + 1) (changed_by changed b) (words ++ word_left word b ∷ [])
    bound_on Kept none by =
        on_by word false changed held (λ names s there. within names s there.shows)
        (λ names s there. by.binds names s (here names s there))
        (λ names s there. by.replaced names s (here names s there)) (λ b. refl)
    bound_on (Replaced operator) none by =
        on_by operator true true by.held (λ names s there. by.within names s (here names s there))
        (λ names s there. by.binds names s (here names s there))
        (λ names s there. by.replaced names s (here names s there)) (λ b. or_true changed b)
    bound_on (Entered procedure inner) none by = cc

    -- it is gone into
    pub bound_entered : (b : Bound) (inner : Part) → Some inner ≡ inner_of b
        → Binds h dictionaries word (Some b)
        → at + length (words ++ word_left word b ∷ []) ≤ over.length
        → BindsAll h dictionaries over at
        (Some (record { inner = Some inner; changed = changed_by changed b }))
        (words ++ word_left word b ∷ [])
    bound_entered Kept inner some by count = cc
    bound_entered (Replaced operator) inner some by count = cc
    bound_entered (Entered procedure part) inner some by count =
        let same : part ≡ inner = cc in
        subst (λ (i : Part). BindsAll h dictionaries over at
        (Some (record { inner = Some i; changed = true })) (words ++ procedure ∷ [])) same
        (record {
          binds = λ names s there.
              is.binds names s there
              ∙ (ap (λ vs. before (values_in h names words)
              (bound (look_in h dictionaries names s) vs)) (read names s there)
              ∙ (ap (before (values_in h names words)) (by.binds names s (here names s there)
              (bound (look_in h dictionaries names s) (values_from h over (place + 1) s)))
              ∙ (before_inner (values_in h names words) (value_of (birth_at h) names procedure)
              (part_of (birth_at h) part)
              ∙ ap (λ vs. at_inner vs (part_of (birth_at h) part))
              (sym (map-append (value_of (birth_at h) names) words (procedure ∷ []))))));
          replaced = λ names s there.
              is.replaced names s there
              ∙ (ap (λ vs. changed || replaces (look_in h dictionaries names s) vs)
              (read names s there)
              ∙ (ap (λ b. changed || (b
              || replaces (look_in h dictionaries names s) (values_from h over (place + 1) s)))
              (by.replaced names s (here names s there))
              ∙ or_true changed
              (replaces (look_in h dictionaries names s) (values_from h over (place + 1) s))));
          count = count;
          some = λ changed.
              let more = length-append words (procedure ∷ []) in omega (arith, more);
          held = all_append (IsValue h) words (procedure ∷ []) is.held (by.held.0, tt);
          inner = by.held.1;
          within = λ names s there.
              all_append (IsWithin (birth_at h) names s) words (procedure ∷ [])
              (is.within names s there) (by.within names s (here names s there), tt);
        })

-- The rows of the operators that count operands, from what was tested.
use Rattle.std.proofs.Common.{◌≡◌, ℕ, zero, suc, ℤ, pos, ◌+◌, ◌-◌, ◌≤◌, ◌<◌, true, false, Option, Some, None, List, []}
use Rattle.std.proofs.Common.{◌∷◌, ◌++◌, length, take, drop, map, Ok, Err, Result, refl, subst, sym, ◌∙◌, ap, arith}
use Rattle.std.proofs.Common.{add-one}
use Rattle.std.specs.Prelude.{slice_get, option_map, nat_le, unsigned_abs}
use Rattle.std.specs.Int.{int_rem_euclid}
use Rattle.std.proofs.lemmas.List.{take-map, drop-map, map-append, length-map, length-append, length-take-le}
use Rattle.std.proofs.lemmas.List.{length-drop}
use Rattle.std.proofs.lemmas.Option.{slice_get-map}
use Rattle.std.proofs.lemmas.Bool.Decides.{nat_tests}
use Rattle.ps_language.specs.declared.errors.ErrorName.{ErrorName}
use Rattle.ps_language.specs.declared.errors.ErrorName.TheVariants.{TypeCheck, RangeCheck, StackUnderflow}
use Rattle.ps_language.specs.declared.errors.ErrorName.TheVariants.{StackOverflow}
use Rattle.ps_language.specs.Value.{Value}
use Rattle.ps_language.specs.Outcome.{leaves, fails, given}
use Rattle.ps_language.specs.Readers.{as_integer, as_count, room_for, is_full, push, natural}
use Rattle.ps_language.specs.RowsStack.{copy_count, dup_row, count_row, index_row, rotated, roll_row}
use Rattle.ps_stacks.specs.Tops as tops
use Rattle.ps_word.specs.declared.words.Word.{Word}
use Rattle.ps_word.specs.Format.{content_in}
use Rattle.ps_word.specs.Readers as words
use Rattle.ps_mem.specs.Meaning.{value_of}
use Rattle.ps_ops_operands.specs.Does.{values_of, DoesAs, Does, Pushes, copy_number_row}
use Rattle.ps_ops_operands.proofs.Meanings.{as_integer-word}
use Rattle.ps_ops_operands.proofs.Doing.{does_leaves, does_fails, does_same}

module _ (births : ℕ → ℕ) (names : List (List ℕ)) where
  abbrev meaning : Word → Value
  meaning = value_of births names

  abbrev meanings : List Word → List Value
  meanings = values_of births names

  -- ---- copy

  -- it is copied what a number says
  copy_number : (operands : List Word) (top : Word) → Some top ≡ tops.first_of operands
      → copy_number_row (meanings operands)
      ≡ given (as_integer (meaning top)) TypeCheck (λ i. copy_count i (meanings (drop 1 operands)))
  copy_number [] top first = cc
  copy_number (x ∷ below) top first =
      let same : top ≡ x = cc in
      rw same refl

  map_takes : (n : ℕ) (below : List Word) → take n (meanings below) ++ meanings below ≡ meanings (take n below ++ below)
  map_takes n below = ap (λ front. front ++ meanings below) (take-map meaning n below)
      ∙ sym (map-append meaning (take n below) below)

  -- there are as many, and there is room
  copy_fits : (below : List Word) (i : ℤ) (n : ℕ) → Some n ≡ as_count i → n ≤ length below → n + length below ≤ 500
      → copy_count i (meanings below) ≡ leaves (meanings (take n below ++ below))
  copy_fits below i n count few room =
      let same = length-map below meaning in
      let all : length (take n (meanings below) ++ meanings below) ≡ n + length below =
      length-append (take n (meanings below)) (meanings below)
      ∙ (ap (λ m. m + length (meanings below)) (length-take-le n (meanings below) (omega (arith, same)))
      ∙ ap (λ m. n + m) same) in
      let enough : nat_le n (length (meanings below)) ≡ true = grind (arith, nat_tests) in
      let roomy : room_for (take n (meanings below) ++ meanings below) ≡ true = grind (arith, nat_tests) in
      rw (sym count, enough, roomy) (ap leaves (map_takes n below))

  -- there are fewer
  copy_lacks : (below : List Word) (i : ℤ) (n : ℕ) → Some n ≡ as_count i → length below < n
      → copy_count i (meanings below) ≡ fails StackUnderflow
  copy_lacks below i n count few =
      let same = length-map below meaning in
      let lacking : nat_le n (length (meanings below)) ≡ false = grind (arith, nat_tests) in
      rw (sym count, lacking) refl

  -- there is no room
  copy_overflows : (below : List Word) (i : ℤ) (n : ℕ) → Some n ≡ as_count i → n ≤ length below → 500 < n + length below
      → copy_count i (meanings below) ≡ fails StackOverflow
  copy_overflows below i n count few room =
      let same = length-map below meaning in
      let all : length (take n (meanings below) ++ meanings below) ≡ n + length below =
      length-append (take n (meanings below)) (meanings below)
      ∙ (ap (λ m. m + length (meanings below)) (length-take-le n (meanings below) (omega (arith, same)))
      ∙ ap (λ m. n + m) same) in
      let enough : nat_le n (length (meanings below)) ≡ true = grind (arith, nat_tests) in
      let full : room_for (take n (meanings below) ++ meanings below) ≡ false = grind (arith, nat_tests) in
      rw (sym count, enough, full) refl

  -- ---- index

  -- the operand that a number says
  index_found : (operands : List Word) (top found : Word) (i : ℤ) (n : ℕ)
      → Some top ≡ tops.first_of operands → Some i ≡ as_integer (meaning top) → Some n ≡ as_count i
      → Some found ≡ slice_get operands (n + 1)
      → index_row (meanings operands) ≡ leaves (meanings (found ∷ drop 1 operands))
  index_found [] top found i n first number count at = cc
  index_found (x ∷ below) top found i n first number count at =
      let same : top ≡ x = cc in
      let here : slice_get (meanings below) n ≡ Some (meaning found) = slice_get-map meaning below n
      ∙ ap (option_map meaning) (sym (rw add-one at at)) in
      rw (← same, sym number, sym count, here) refl

  -- there are fewer
  index_lacks : (operands : List Word) (top : Word) (i : ℤ) (n : ℕ)
      → Some top ≡ tops.first_of operands → Some i ≡ as_integer (meaning top) → Some n ≡ as_count i
      → None ≡ slice_get operands (n + 1)
      → index_row (meanings operands) ≡ fails StackUnderflow
  index_lacks [] top i n first number count at = cc
  index_lacks (x ∷ below) top i n first number count at =
      let same : top ≡ x = cc in
      let here : slice_get (meanings below) n ≡ None = slice_get-map meaning below n
      ∙ ap (option_map meaning) (sym (rw add-one at at)) in
      rw (← same, sym number, sym count, here) refl

  -- ---- roll

  -- a group of scalars is rotated as its values are
  rotated_values : (places n : ℕ) (below : List Word)
      → meanings (tops.rotated places (take n below) ++ drop n below)
      ≡ rotated places (take n (meanings below)) ++ drop n (meanings below)
  rotated_values places n below =
      map-append meaning (drop places (take n below) ++ take places (take n below)) (drop n below)
      ∙ ap {B = List Value} (λ group. group ++ map meaning (drop n below))
      (map-append meaning (drop places (take n below)) (take places (take n below)))
      ∙ sym (simp (take-map, drop-map))

  -- as many operands as there are
  roll_fits : (operands : List Word) (right left : Word) (j i : ℤ) (n : ℕ)
      → Some (right, left) ≡ tops.first_two_of operands → Some j ≡ as_integer (meaning right)
      → Some i ≡ as_integer (meaning left) → Some n ≡ as_count i → n + 2 ≤ length operands
      → roll_row (meanings operands)
      ≡ leaves (meanings (tops.rotated (unsigned_abs (int_rem_euclid j (pos n))) (take n (drop 2 operands))
      ++ drop n (drop 2 operands)))
  roll_fits [] right left j i n two rightmost leftmost count few = cc
  roll_fits (x ∷ []) right left j i n two rightmost leftmost count few = cc
  roll_fits (x ∷ y ∷ below) right left j i n two rightmost leftmost count few =
      let same = length-map below meaning in
      let enough : nat_le n (length (meanings below)) ≡ true = grind (arith, nat_tests) in
      let pair : (right, left) ≡ (x, y) = cc in
      let first : right ≡ x = ap (λ (p : Word × Word). p.0) pair in
      let second : left ≡ y = ap (λ (p : Word × Word). p.1) pair in
      rw (← first, ← second, sym rightmost, sym leftmost, sym count, enough)
      (ap leaves (sym (rotated_values (unsigned_abs (int_rem_euclid j (pos n))) n below)))

-- ---- what the operators did

below_length : (operands : List Word) → length (drop 1 operands) ≡ length operands - 1
below_length operands = length-drop 1 operands

-- the number of a word is its value's
abbrev IsNumber : Option ℤ → Word → Type 0
IsNumber number w = number ≡ words.as_integer (content_in w.0)

meant : (births : ℕ → ℕ) (names : List (List ℕ)) (number : Option ℤ) (w : Word) → IsNumber number w
    → number ≡ as_integer (value_of births names w)
meant births names number w is = is ∙ sym (as_integer-word births names w)

module _ (old : List Word) (top : Word) (first : Some top ≡ tops.first_of old) where
  pub copy_typecheck : IsNumber None top → Does copy_number_row (Err TypeCheck) old old
  copy_typecheck number =
      does_fails copy_number_row TypeCheck old old
      (λ births names. copy_number births names old top first
      ∙ ap (λ (n : Option ℤ). given n TypeCheck (λ i. copy_count i (values_of births names (drop 1 old))))
      (sym (meant births names None top number))) refl

  module _ (i : ℤ) (number : IsNumber (Some i) top) where
    pub copy_rangecheck : None ≡ as_count i → Does copy_number_row (Err RangeCheck) old old
    copy_rangecheck count =
        does_fails copy_number_row RangeCheck old old
        (λ births names. copy_number births names old top first
        ∙ rw (sym (meant births names (Some i) top number), sym count) refl) refl

    module _ (n : ℕ) (count : Some n ≡ as_count i) where
      pub copy_underflow : length old - 1 < n → Does copy_number_row (Err StackUnderflow) old old
      copy_underflow few =
          does_fails copy_number_row StackUnderflow old old
          (λ births names. copy_number births names old top first
          ∙ rw (sym (meant births names (Some i) top number))
          (copy_lacks births names (drop 1 old) i n count (omega (arith, below_length old, few)))) refl

      pub copy_overflow : n ≤ length old - 1 → 500 - (length old - 1) < n
          → Does copy_number_row (Err StackOverflow) old old
      copy_overflow few room =
          does_fails copy_number_row StackOverflow old old
          (λ births names. copy_number births names old top first
          ∙ rw (sym (meant births names (Some i) top number))
          (copy_overflows births names (drop 1 old) i n count (omega (arith, below_length old, few))
          (omega (arith, below_length old, few, room)))) refl

      pub copy_done : (new : List Word) → n ≤ length old - 1 → n ≤ 500 - (length old - 1) → length old ≤ 500
          → new ≡ take n (drop 1 old) ++ drop 1 old → Does copy_number_row (Ok tt) old new
      copy_done new few room within is =
          does_leaves copy_number_row old new
          (λ births names. copy_number births names old top first
          ∙ rw (sym (meant births names (Some i) top number), is)
          (copy_fits births names (drop 1 old) i n count (omega (arith, below_length old, few))
          (omega (arith, below_length old, few, room, within))))

      pub index_done : (new : List Word) (found : Word) → Some found ≡ slice_get old (n + 1) → new ≡ found ∷ drop 1 old
          → Does index_row (Ok tt) old new
      index_done new found at is =
          does_leaves index_row old new
          (λ births names. rw is (index_found births names old top found i n first
          (meant births names (Some i) top number) count at))

      pub index_underflow : None ≡ slice_get old (n + 1) → Does index_row (Err StackUnderflow) old old
      index_underflow at =
          does_fails index_row StackUnderflow old old
          (λ births names. index_lacks births names old top i n first
          (meant births names (Some i) top number) count at) refl

pub roll_done : (old new : List Word) (right left : Word) (j i : ℤ) (n places : ℕ)
    → Some (right, left) ≡ tops.first_two_of old → IsNumber (Some j) right → IsNumber (Some i) left
    → Some n ≡ as_count i → n + 2 ≤ length old
    → places ≡ unsigned_abs (int_rem_euclid j (pos n))
    → new ≡ tops.rotated places (take n (drop 2 old)) ++ drop n (drop 2 old) → Does roll_row (Ok tt) old new
roll_done old new right left j i n places two rightmost leftmost count few by is =
    does_leaves roll_row old new
    (λ births names. rw (is, by) (roll_fits births names old right left j i n two
    (meant births names (Some j) right rightmost) (meant births names (Some i) left leftmost) count few))

roll_underflow_of : (births : ℕ → ℕ) (names : List (List ℕ)) (old : List Word) (right left : Word) (j i : ℤ) (n : ℕ)
    → Some (right, left) ≡ tops.first_two_of old → Some j ≡ as_integer (value_of births names right)
    → Some i ≡ as_integer (value_of births names left) → Some n ≡ as_count i → length old - 2 < n
    → roll_row (values_of births names old) ≡ fails StackUnderflow
roll_underflow_of births names [] right left j i n two rightmost leftmost count few = cc
roll_underflow_of births names (x ∷ []) right left j i n two rightmost leftmost count few = cc
roll_underflow_of births names (x ∷ y ∷ below) right left j i n two rightmost leftmost count few =
    let same = length-map below (value_of births names) in
    let lacking : nat_le n (length (values_of births names below)) ≡ false = grind (arith, nat_tests) in
    let pair : (right, left) ≡ (x, y) = cc in
    let first : right ≡ x = ap (λ (p : Word × Word). p.0) pair in
    let second : left ≡ y = ap (λ (p : Word × Word). p.1) pair in
    rw (← first, ← second, sym rightmost, sym leftmost, sym count, lacking) refl

pub roll_underflow : (old : List Word) (right left : Word) (j i : ℤ) (n : ℕ)
    → Some (right, left) ≡ tops.first_two_of old → IsNumber (Some j) right → IsNumber (Some i) left
    → Some n ≡ as_count i → length old - 2 < n → Does roll_row (Err StackUnderflow) old old
roll_underflow old right left j i n two rightmost leftmost count few =
    does_fails roll_row StackUnderflow old old
    (λ births names. roll_underflow_of births names old right left j i n two
    (meant births names (Some j) right rightmost) (meant births names (Some i) left leftmost) count few) refl

rotated_none : (places : ℕ) → tops.rotated {A = Word} places [] ≡ []
rotated_none zero = refl
rotated_none (suc places) = refl

two_at_least : (old : List Word) (right left : Word) → Some (right, left) ≡ tops.first_two_of old → 2 ≤ length old
two_at_least [] right left two = cc
two_at_least (x ∷ []) right left two = cc
two_at_least (x ∷ y ∷ below) right left two = omega arith

-- no operand is moved
pub roll_none : (old new : List Word) (right left : Word) (j i : ℤ) (n : ℕ)
    → Some (right, left) ≡ tops.first_two_of old → IsNumber (Some j) right → IsNumber (Some i) left
    → Some n ≡ as_count i → n ≡ 0 → new ≡ drop 2 old → Does roll_row (Ok tt) old new
roll_none old new right left j i n two rightmost leftmost count none is =
    let some : Some 0 ≡ as_count i = subst (λ m. Some m ≡ as_count i) none count in
    roll_done old new right left j i 0 (unsigned_abs (int_rem_euclid j (pos 0))) two rightmost leftmost some
    (two_at_least old right left two) refl
    (is ∙ ap (λ front. front ++ drop 2 old) (sym (rotated_none (unsigned_abs (int_rem_euclid j (pos 0))))))

-- ---- a word is pushed

-- there is room for another
pub not_full : (operands : List Word) (births : ℕ → ℕ) (names : List (List ℕ)) → length operands < 500
    → is_full (values_of births names operands) ≡ false
unfolding is_full
not_full operands births names h = let same = length-map operands (value_of births names) in grind (arith, nat_tests)

-- or there is none
pub full : (operands : List Word) (births : ℕ → ℕ) (names : List (List ℕ)) → 500 ≤ length operands
    → is_full (values_of births names operands) ≡ true
unfolding is_full
full operands births names h = let same = length-map operands (value_of births names) in grind (arith, nat_tests)

-- a word of a value that is the same in every memory
pub push_value : (value : Value) (w : Word) (result : Result Unit ErrorName) (old new : List Word)
    → ((births : ℕ → ℕ) (names : List (List ℕ)) → value_of births names w ≡ value) → Pushes w result old new
    → Does (push value) result old new
push_value value w result old new is pushes = record {
  agrees =
      λ births names. subst (λ (v : Value). DoesAs result (push v (values_of births names old)) births names old new)
      (is births names) (pushes.agrees births names);
}

pub dup_done : (w : Word) (result : Result Unit ErrorName) (old new : List Word) → Some w ≡ tops.first_of old
    → Pushes w result old new → Does dup_row result old new
dup_done w result [] new first pushes = cc
dup_done w result (x ∷ below) new first pushes =
    let same : w ≡ x = cc in
    record { agrees = (subst (λ (v : Word). Pushes v result (x ∷ below) new) same pushes).agrees }

pub count_done : (number : ℕ) (w : Word) (result : Result Unit ErrorName) (old new : List Word) → number ≡ length old
    → ((births : ℕ → ℕ) (names : List (List ℕ)) → value_of births names w ≡ natural number) → Pushes w result old new
    → Does count_row result old new
count_done number w result old new is value pushes =
    does_same (push (natural number)) count_row result old new
    (λ births names. ap (λ n. push (natural n) (values_of births names old)) (length-map old (value_of births names)
    ∙ sym is))
    (push_value (natural number) w result old new value pushes)

pub ruleset push_lemmas = (not_full, full)

pub ruleset row_lemmas = (dup_done, push_value, count_done)

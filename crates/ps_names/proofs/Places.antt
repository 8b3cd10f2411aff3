-- Where texts stand, and what becomes of that with one more.
use Rattle.std.specs.Prelude.{unwrap_or, option_map}
use Rattle.std.proofs.Common.{◌≡◌, ℕ, suc, ◌+◌, ◌<◌, ◌≤◌, ◌≢◌, Bool, true, false, not, cond, ◌||◌, List, [], ◌∷◌, ◌++◌}
use Rattle.std.proofs.Common.{map, take, length, slice_get, get_or, position, Option, None, Some, IsSome, is_some}
use Rattle.std.proofs.Common.{nat_lt, bytes_eq, Vec, refl, sym, ap, subst, ◌∙◌, arith}
use Rattle.std.specs.List.{position_or_len, list_any}
use Rattle.std.proofs.lemmas.Bool.{true≢false}
use Rattle.std.proofs.lemmas.Bool.Decides.{nat_tests}
use Rattle.std.proofs.lemmas.List.{length-map, map-append, length-take, get_or-take, length_push, get_or_push}
use Rattle.std.proofs.lemmas.List.{get_or_append_left}
use Rattle.std.proofs.lemmas.List.Elements.{All-nil, All-take, All-get_or, All-push}
use Rattle.std.proofs.lemmas.List.Folds.{list_any_at}
use Rattle.std.proofs.lemmas.List.Sums.{prefix_len-le-length, position_or_len_is}
use Rattle.std.proofs.lemmas.List.Quantifiers.{position-Some, all_pairs_push}
use Rattle.std.proofs.lemmas.Option.{slice_get-get_or, unwrap_or-slice_get, slice_get-map}
use Rattle.std.proofs.lemmas.Slice.Eq.{bytes_eq-Decides}
use Rattle.ps_language.specs.Dictionaries.{meet}
use Rattle.ps_language.specs.Limits.{name_limit, names_limit}
use Rattle.indexmap.specs.IndexSet.{insert_key}
use Rattle.ps_names.specs.Names.{place_of, texts_of, AreNames}

-- ---- places

module _ {X : Type 0} (f : X → List ℕ) (p : List ℕ → Bool) where
  first-map : (xs : List X) → position_or_len p (map f xs) ≡ position_or_len (λ x. p (f x)) xs
  first-map [] = refl
  first-map (x ∷ xs) = ap (λ n. cond (not (p (f x))) (1 + n) 0) (first-map xs)

  -- a place among buffers is one among their texts
  pub position-map : (xs : List X) → position p (map f xs) ≡ position (λ x. p (f x)) xs
  position-map xs = λ j. cond (nat_lt (first-map xs j) (length-map xs f j)) (Some (first-map xs j)) None

above_zero : (n : ℕ) → true ≡ nat_lt 0 (suc n)
above_zero n = grind (arith, nat_tests)

shift : (n m : ℕ) → nat_lt n m ≡ nat_lt (1 + n) (suc m)
shift n m = grind (arith, nat_tests)

module _ {X : Type 0} (p : X → Bool) where
  any_first : (xs : List X) → list_any p xs ≡ nat_lt (position_or_len p xs) (length xs)
  any_first [] = refl
  any_first (x ∷ xs) = by (p x) (any_first xs)
    where
      by : (b : Bool) → list_any p xs ≡ nat_lt (position_or_len p xs) (length xs)
          → (b || list_any p xs) ≡ nat_lt (cond (not b) (1 + position_or_len p xs) 0) (suc (length xs))
      by true h = above_zero (length xs)
      by false h = h ∙ shift (position_or_len p xs) (length xs)

  some_cond : (b : Bool) (n : ℕ) → b ≡ is_some (cond b (Some n) None)
  some_cond true n = refl
  some_cond false n = refl

  -- one passes where there is a first
  pub any_position : (xs : List X) → list_any p xs ≡ is_some (position p xs)
  any_position xs = any_first xs ∙ some_cond (nat_lt (position_or_len p xs) (length xs)) (position_or_len p xs)

  none_cond : (b : Bool) (n : ℕ) → cond b (Some n) None ≡ None → b ≡ false
  none_cond true n h = absurd (cc)
  none_cond false n h = refl

  -- where none passes, the first place is the length
  pub no_position : (xs : List X) → position p xs ≡ None → length xs ≡ position_or_len p xs
  no_position xs h =
      let past : nat_lt (position_or_len p xs) (length xs) ≡ false =
      none_cond (nat_lt (position_or_len p xs) (length xs)) (position_or_len p xs) h in
      let within : position_or_len p xs ≤ length xs = prefix_len-le-length (λ x. not (p x)) xs in
      grind (arith, nat_tests)

-- ---- a text that stands

module _ (text : List ℕ) (names : List (List ℕ)) (i : ℕ) (at : place_of text names ≡ Some i) where
  there : (i < length names) × (text ≡ get_or names i [])
  there =
      let h = position-Some (bytes_eq text) names i [] at in
      (h.0, (bytes_eq-Decides text (get_or names i [])).0 h.1)

  pub stands_at : slice_get names i ≡ Some text
  stands_at = slice_get-get_or names i [] there.0 ∙ ap Some (sym there.1)

  pub meet_known : names ≡ meet names text
  meet_known = ap (λ b. cond b names (names ++ text ∷ [])) (sym (any_position (bytes_eq text) names ∙ ap is_some at))

  -- so it isn't too long
  pub known_short : AreNames names → length text ≤ name_limit
  known_short names_are =
      subst (λ t. length t ≤ name_limit) (sym there.1)
      (All-get_or (λ t. length t ≤ name_limit) names i [] there.0 names_are.short)

-- what is too long doesn't stand
pub long_new : (text : List ℕ) (names : List (List ℕ)) → AreNames names → name_limit < length text
    → IsSome (place_of text names) → false ≡ true
long_new text names are long = by (place_of text names) refl
  where
    by : (found : Option ℕ) → place_of text names ≡ found → IsSome found → false ≡ true
    by (Some i) at some = absurd (omega (arith, known_short text names i at are))
    by None at none = none

-- ---- a new text

module _ (text : List ℕ) (names : List (List ℕ)) (new : place_of text names ≡ None) where
  absent : list_any (bytes_eq text) names ≡ false
  absent = any_position (bytes_eq text) names ∙ ap is_some new

  pub meet_new : names ++ text ∷ [] ≡ meet names text
  meet_new = ap (λ b. cond b names (names ++ text ∷ [])) (sym absent)

  pub next_place : length names ≡ position_or_len (bytes_eq text) names
  next_place = no_position (bytes_eq text) names new

  pub last_stands : slice_get (names ++ text ∷ []) (length names) ≡ Some text
  last_stands =
      slice_get-get_or (names ++ text ∷ []) (length names) [] (omega (arith, length_push names text))
      ∙ ap Some (get_or_push names text [] (length names) refl)

  other : (k : ℕ) (d : List ℕ) → k < length names → get_or names k d ≢ text
  other k d within same =
      absurd (true≢false
      (sym (list_any_at (bytes_eq text) names k d within ((bytes_eq-Decides text (get_or names k d)).1 (sym same)))
      ∙ absent))

  pub names_with : AreNames names → length text ≤ name_limit → length names < names_limit
      → AreNames (names ++ text ∷ [])
  names_with are short room = record {
    different = all_pairs_push (λ first later. first ≢ later) names text are.different other;
    short = All-push (λ t. length t ≤ name_limit) names text are.short short;
    few = omega (arith, length_push names text);
  }

pub no_names : AreNames []
no_names =
    record {
      different = λ i j d before within. absurd (omega arith);
      short = All-nil (λ t. length t ≤ name_limit);
      few = omega arith;
    }

-- ---- the text of a number

unequal : (xs ys : List ℕ) → xs ≢ ys → bytes_eq xs ys ≡ false
unequal xs ys apart = by (bytes_eq xs ys) refl
  where
    by : (b : Bool) → bytes_eq xs ys ≡ b → b ≡ false
    by true same = absurd (apart ((bytes_eq-Decides xs ys).0 same))
    by false _ = refl

-- it stands at that number alone
pub own_place : (names : List (List ℕ)) (i : ℕ) → AreNames names → i < length names
    → place_of (unwrap_or (slice_get names i) []) names ≡ Some i
own_place names i are within =
    let text : List ℕ = get_or names i [] in
    let here : bytes_eq text text ≡ true = (bytes_eq-Decides text text).1 refl in
    let first : position_or_len (bytes_eq text) names ≡ i =
    position_or_len_is (bytes_eq text) names i [] (omega arith)
    (λ k before. unequal text (get_or names k []) (λ same. are.different k i [] before within (sym same)))
    (λ _. here) in
    let inside : nat_lt i (length names) ≡ true = grind (arith, nat_tests) in
    ap (λ t. place_of t names) (unwrap_or-slice_get names i [])
    ∙ (ap (λ n. cond (nat_lt n (length names)) (Some n) None) first
    ∙ ap (λ b. cond b (Some i) None) inside)

-- a new one is found where it was put
pub last_found : (text : List ℕ) (names : List (List ℕ)) → place_of text names ≡ None → AreNames names
    → length text ≤ name_limit → length names < names_limit
    → place_of text (names ++ text ∷ []) ≡ Some (length names)
last_found text names new are short room =
    let more : List (List ℕ) = names ++ text ∷ [] in
    sym (ap (λ found. place_of (unwrap_or found []) more) (last_stands text names new))
    ∙ own_place more (length names) (names_with text names new are short room) (omega (arith, length_push names text))

-- the other numbers keep their texts
pub kept_number : (names : List (List ℕ)) (text : List ℕ) (number : ℕ) → number < length names
    → slice_get (names ++ text ∷ []) number ≡ slice_get names number
kept_number names text number within =
    slice_get-get_or (names ++ text ∷ []) number [] (omega (arith, length_push names text))
    ∙ (ap Some (get_or_append_left names (text ∷ []) [] number within)
    ∙ sym (slice_get-get_or names number [] within))

-- ---- texts in buffers

-- the text of a number, by the buffer at that place
pub text_of_buffer : {A : Type 0} (buffers : List (Vec ℕ A)) (names : List (List ℕ)) → texts_of buffers ≡ names
    → (i : ℕ) (found : Option (Vec ℕ A)) → found ≡ slice_get buffers i
    → unwrap_or (option_map (λ buffer. buffer.items) found) [] ≡ unwrap_or (slice_get names i) []
text_of_buffer buffers names are i found is =
    ap (λ o. unwrap_or (option_map (λ buffer. buffer.items) o) []) is
    ∙ (ap (λ o. unwrap_or o []) (sym (slice_get-map (λ buffer. buffer.items) buffers i))
    ∙ ap (λ xs. unwrap_or (slice_get xs i) []) are)

-- the place of a text, by that of its buffer
pub place_of_buffer : {A : Type 0} (buffers : List (Vec ℕ A)) (names : List (List ℕ)) (text : List ℕ)
    → texts_of buffers ≡ names
    → (found : Option ℕ) → found ≡ position (λ buffer. bytes_eq text buffer.items) buffers → found ≡ place_of text names
place_of_buffer buffers names text are found is =
    is ∙ (sym (position-map (λ buffer. buffer.items) (bytes_eq text) buffers) ∙ ap (place_of text) are)

-- a new text in a buffer
module _ {A : Type 0} (buffers : List (Vec ℕ A)) (buffer : Vec ℕ A) (text : List ℕ) (names : List (List ℕ))
    (are : texts_of buffers ≡ names) (holds : buffer.items ≡ text) (new : place_of text names ≡ None) where
  same_items : Vec ℕ A → Vec ℕ A → Bool
  same_items a b = bytes_eq a.items b.items

  no_buffer : list_any (same_items buffer) buffers ≡ false
  unfolding same_items
  no_buffer =
      let place : place_of buffer.items names ≡ None = rw holds new in
      any_position (same_items buffer) buffers
      ∙ ap is_some (place_of_buffer buffers names buffer.items are (position (same_items buffer) buffers) refl ∙ place)

  pub inserted : (after : List (Vec ℕ A)) → after ≡ insert_key (λ a b. bytes_eq a.items b.items) buffers buffer
      → texts_of after ≡ names ++ text ∷ []
  unfolding same_items
  inserted after is =
      ap texts_of (is ∙ ap (λ b. cond b buffers (buffers ++ buffer ∷ [])) no_buffer)
      ∙ (map-append (λ b. b.items) buffers (buffer ∷ [])
      ∙ (λ j. are j ++ holds j ∷ []))

  pub names_inserted : AreNames (texts_of buffers) → length text ≤ name_limit → length names < names_limit
      → (after : List (Vec ℕ A)) → after ≡ insert_key (λ a b. bytes_eq a.items b.items) buffers buffer
      → AreNames (texts_of after)
  names_inserted are_names short room after is =
      subst AreNames (sym (inserted after is)) (names_with text names new (subst AreNames are are_names) short room)

-- ---- the first ones

module _ (names : List (List ℕ)) (count : ℕ) where
  within_taken : (i : ℕ) → i < length (take count names) → (i < count) × (i < length names)
  within_taken i within =
      let long = length-take count names in
      (grind (arith, within, long), grind (arith, within, long))

  pub names_taken : AreNames names → AreNames (take count names)
  names_taken are = record {
    different = λ i j d before within.
        let last = within_taken j within in
        λ same. are.different i j d before last.1
        (sym (get_or-take count names i d (omega (arith, before, last.0)))
        ∙ same ∙ get_or-take count names j d last.0);
    short = All-take (λ t. length t ≤ name_limit) count names are.short;
    few = let fewer = length-take count names in let all = are.few in grind (arith, fewer, all);
  }

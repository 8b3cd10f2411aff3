-- What stands in a dictionary once entries were put that never make it grow (PLRM2, 3.10).
use Rattle.std.proofs.Common.{◌≡◌, ℕ, suc, ◌+◌, ◌-◌, arith, Bool, true, false, List, [], ◌∷◌, length, Option, Some}
use Rattle.std.proofs.Common.{None, refl, sym, ap, subst, ◌∙◌, true≢false}
use Rattle.std.specs.Prelude.{◌||◌, is_some, nat_lt, if◌then◌else◌, option_map}
use Rattle.std.specs.Str.{bytes_eq}
use Rattle.std.proofs.lemmas.Slice.Eq.{bytes_eq-Decides}
use Rattle.ps_language.specs.Value.{What, null_value, mark_value, integer_value, boolean_value, name_value}
use Rattle.ps_language.specs.Value.{operator_value, array_value, string_value, dictionary_value, lock_value}
use Rattle.ps_language.specs.Value.{condition_value, Value, Dictionary}
use Rattle.ps_language.specs.Equality.{same_what, same_key}
use Rattle.ps_language.specs.Readers.{literal_name}
use Rattle.ps_language.specs.Dictionaries.{find, put_pair}
use Rattle.ps_language.specs.StepErrors.{with_entry}
use Rattle.ps_language.proofs.DictionaryLaws.{find-put_pair, find-put_pair-other}
use Rattle.ps_dict.specs.Places.{first_place}

abbrev Pairs : Type 0
Pairs = List (Value × Value)

-- ---- keys that are not the same

-- what is the same as one key is not the same as the other
pub record AreKeysApart (one other : Value) : Type 0 where
  pub unlike : same_key one other ≡ false
  pub like : (key : Value) → same_key key one ≡ true → same_key key other ≡ false

apart_whats : (one other : List ℕ) → bytes_eq one other ≡ false → (what : What)
    → same_what what (name_value one) ≡ true → same_what what (name_value other) ≡ false
apart_whats one other differ (name_value text) same =
    subst (λ t. bytes_eq t other ≡ false) (sym ((bytes_eq-Decides text one).0 same)) differ
apart_whats one other differ null_value same = refl
apart_whats one other differ mark_value same = refl
apart_whats one other differ (integer_value _) same = refl
apart_whats one other differ (boolean_value _) same = refl
apart_whats one other differ (operator_value _) same = refl
apart_whats one other differ (array_value _) same = refl
apart_whats one other differ (string_value _) same = refl
apart_whats one other differ (dictionary_value _) same = refl
apart_whats one other differ (lock_value _) same = refl
apart_whats one other differ (condition_value _) same = refl

pub names_apart : (one other : List ℕ) → bytes_eq one other ≡ false
    → AreKeysApart (literal_name one) (literal_name other)
unfolding same_key
names_apart one other differ =
    record { unlike = differ; like = λ key same. apart_whats one other differ key.what same }

pub name_same : (text : List ℕ) → same_key (literal_name text) (literal_name text) ≡ true
unfolding same_key
name_same text = (bytes_eq-Decides text text).1 refl

-- ---- pairs

-- 1 where the key is absent
abbrev pub lacking : Option Value → ℕ
lacking (Some value) = 0
lacking None = 1

pub put-length : (pairs : Pairs) (key value : Value)
    → length (put_pair pairs (key, value)) ≡ length pairs + lacking (find pairs key)
put-length [] key value = refl
put-length (pair ∷ pairs) key value =
    by (same_key pair.0 key) refl (put-length pairs key value)
  where
    by : (b : Bool) → same_key pair.0 key ≡ b
        → length (put_pair pairs (key, value)) ≡ length pairs + lacking (find pairs key)
        → length (put_pair (pair ∷ pairs) (key, value))
        ≡ length (pair ∷ pairs) + lacking (find (pair ∷ pairs) key)
    by true is deeper = rw is (omega arith)
    by false is deeper = rw is (omega (arith, deeper))

pub put-twice : (pairs : Pairs) (key one other : Value) → same_key key key ≡ true
    → put_pair (put_pair pairs (key, one)) (key, other) ≡ put_pair pairs (key, other)
put-twice [] key one other same = rw same refl
put-twice (pair ∷ pairs) key one other same =
    by (same_key pair.0 key) refl (put-twice pairs key one other same)
  where
    by : (b : Bool) → same_key pair.0 key ≡ b
        → put_pair (put_pair pairs (key, one)) (key, other) ≡ put_pair pairs (key, other)
        → put_pair (put_pair (pair ∷ pairs) (key, one)) (key, other)
        ≡ put_pair (pair ∷ pairs) (key, other)
    by true is deeper = simp is
    by false is deeper = simp (is, deeper)

-- a key that is there is put before or after another
pub put-swapped : (pairs : Pairs) (key value other else_ : Value) → AreKeysApart key other
    → AreKeysApart other key → is_some (find pairs other) ≡ true
    → put_pair (put_pair pairs (key, value)) (other, else_)
    ≡ put_pair (put_pair pairs (other, else_)) (key, value)
put-swapped [] key value other else_ apart turned there = absurd (true≢false (sym there))
put-swapped (pair ∷ pairs) key value other else_ apart turned there =
    by (put-swapped pairs key value other else_ apart turned) (same_key pair.0 key) refl
    (same_key pair.0 other) refl
  where
    by : (is_some (find pairs other) ≡ true
        → put_pair (put_pair pairs (key, value)) (other, else_)
        ≡ put_pair (put_pair pairs (other, else_)) (key, value))
        → (a : Bool) → same_key pair.0 key ≡ a → (b : Bool) → same_key pair.0 other ≡ b
        → put_pair (put_pair (pair ∷ pairs) (key, value)) (other, else_)
        ≡ put_pair (put_pair (pair ∷ pairs) (other, else_)) (key, value)
    by deeper true is b that = simp (is, apart.like pair.0 is)
    by deeper false is true that = simp (is, that)
    by deeper false is false that = simp (is, that, deeper (rw (that) at there))

-- ---- an entry

-- the pairs for which there is room
abbrev pub room_in : Dictionary → ℕ
room_in d = d.capacity - length d.pairs

-- whether an entry is put
abbrev pub enters : Value → Dictionary → Bool
enters key d = is_some (find d.pairs key) || nat_lt 0 (room_in d)

-- with room for more pairs or without
has_room : (d : Dictionary) → nat_lt (length d.pairs) d.capacity ≡ nat_lt 0 (room_in d)
has_room d = grind arith

module _ (key value : Value) (d : Dictionary) where
  pub put_in : enters key d ≡ true
      → with_entry key value d ≡ record d { pairs = put_pair d.pairs (key, value) }
  unfolding with_entry
  put_in in_it =
      ap (λ b. if is_some (find d.pairs key) || b then record d
      { pairs = put_pair d.pairs (key, value) } else d) (has_room d)
      ∙ ap (λ b. if b then record d { pairs = put_pair d.pairs (key, value) } else d) in_it

  pub left_out : enters key d ≡ false → with_entry key value d ≡ d
  unfolding with_entry
  left_out out_of_it =
      ap (λ b. if is_some (find d.pairs key) || b then record d
      { pairs = put_pair d.pairs (key, value) } else d) (has_room d)
      ∙ ap (λ b. if b then record d { pairs = put_pair d.pairs (key, value) } else d) out_of_it

  -- it is found where it was put
  pub entry_found : same_key key key ≡ true
      → find (with_entry key value d).pairs key ≡ (if enters key d then Some value else None)
  entry_found same = by (enters key d) refl
    where
      none : (found : Option Value) → is_some found || nat_lt 0 (room_in d) ≡ false → found ≡ None
      none None out_of_it = refl
      none (Some v) out_of_it = absurd (true≢false out_of_it)

      by : (b : Bool) → enters key d ≡ b
          → find (with_entry key value d).pairs key ≡ (if b then Some value else None)
      by true in_it = rw (put_in in_it) (find-put_pair d.pairs key value same)
      by false out_of_it = rw (left_out out_of_it) (none (find d.pairs key) out_of_it)

  -- what stands under other keys stays
  pub entry_other : (other : Value) → AreKeysApart key other
      → find (with_entry key value d).pairs other ≡ find d.pairs other
  entry_other other apart = by (enters key d) refl
    where
      by : (b : Bool) → enters key d ≡ b
          → find (with_entry key value d).pairs other ≡ find d.pairs other
      by true in_it =
          rw (put_in in_it) (find-put_pair-other d.pairs key value other apart.unlike apart.like)
      by false out_of_it = rw (left_out out_of_it) refl

  -- the room is one less where the key is new
  pub entry_room : room_in (with_entry key value d) ≡ room_in d - lacking (find d.pairs key)
  entry_room = by (enters key d) refl
    where
      none : (found : Option Value) (room : ℕ) → is_some found || nat_lt 0 room ≡ false
          → room ≡ room - lacking found
      none None room out_of_it = grind arith
      none (Some v) room out_of_it = absurd (true≢false out_of_it)

      by : (b : Bool) → enters key d ≡ b
          → room_in (with_entry key value d) ≡ room_in d - lacking (find d.pairs key)
      by true in_it =
          let long = put-length d.pairs key value in
          rw (put_in in_it) (omega (arith, long))
      by false out_of_it = rw (left_out out_of_it) (none (find d.pairs key) (room_in d) out_of_it)

-- whether another entry is put then
pub enters_after : (key value other : Value) (d : Dictionary) → AreKeysApart key other
    → enters other (with_entry key value d)
    ≡ is_some (find d.pairs other) || nat_lt (lacking (find d.pairs key)) (room_in d)
enters_after key value other d apart =
    (λ i. is_some (entry_other key value d other apart i)
    || nat_lt 0 (entry_room key value d i))
    ∙ ap (λ b. is_some (find d.pairs other) || b) (less (lacking (find d.pairs key)) (room_in d))
  where
    less : (few room : ℕ) → nat_lt 0 (room - few) ≡ nat_lt few room
    less few room = grind arith

-- ---- another value for a key that is there

abbrev pub changed : Value → Value → Dictionary → Dictionary
changed key value d = record d { pairs = put_pair d.pairs (key, value) }

pub changed-twice : (key one other : Value) (d : Dictionary) → same_key key key ≡ true
    → enters key d ≡ true → changed key other (with_entry key one d) ≡ with_entry key other d
changed-twice key one other d same in_it =
    ap (changed key other) (put_in key one d in_it)
    ∙ (ap (λ pairs. record d { pairs = pairs }) (put-twice d.pairs key one other same)
    ∙ sym (put_in key other d in_it))

-- it may be changed before other entries are put
pub changed-before : (key value other else_ : Value) (d : Dictionary) → AreKeysApart key other
    → AreKeysApart other key → is_some (find d.pairs other) ≡ true
    → changed other else_ (with_entry key value d) ≡ with_entry key value (changed other else_ d)
changed-before key value other else_ d apart turned there = by (enters key d) refl
  where
    long : length (changed other else_ d).pairs ≡ length d.pairs
    long = by_length (find d.pairs other) refl
      where
        by_length : (found : Option Value) → find d.pairs other ≡ found
            → length (changed other else_ d).pairs ≡ length d.pairs
        by_length (Some v) is =
            put-length d.pairs other else_ ∙ ap (λ f. length d.pairs + lacking f) is ∙ omega arith
        by_length None is = absurd (true≢false (sym (rw is at there)))

    same : enters key (changed other else_ d) ≡ enters key d
    same = λ i. is_some
        (find-put_pair-other d.pairs other else_ key turned.unlike turned.like i)
        || nat_lt 0 (d.capacity - long i)

    by : (b : Bool) → enters key d ≡ b
        → changed other else_ (with_entry key value d)
        ≡ with_entry key value (changed other else_ d)
    by true in_it =
        ap (changed other else_) (put_in key value d in_it)
        ∙ (ap (λ pairs. record d { pairs = pairs })
        (put-swapped d.pairs key value other else_ apart turned there)
        ∙ sym (put_in key value (changed other else_ d) (same ∙ in_it)))
    by false out_of_it =
        ap (changed other else_) (left_out key value d out_of_it)
        ∙ sym (left_out key value (changed other else_ d) (same ∙ out_of_it))

-- ---- by places

pub place_found : (pairs : Pairs) (key : Value)
    → is_some (first_place pairs key) ≡ is_some (find pairs key)
unfolding first_place
place_found [] key = refl
place_found (pair ∷ pairs) key = by (same_key pair.0 key) refl (first_place pairs key)
    (place_found pairs key)
  where
    by : (b : Bool) → same_key pair.0 key ≡ b → (place : Option ℕ)
        → is_some (first_place pairs key) ≡ is_some (find pairs key)
        → is_some (first_place (pair ∷ pairs) key) ≡ is_some (find (pair ∷ pairs) key)
    by true is place deeper = rw is refl
    by false is place deeper = rw is (some_more (first_place pairs key) ∙ deeper)
      where
        some_more : (p : Option ℕ) → is_some (option_map suc p) ≡ is_some p
        some_more (Some n) = refl
        some_more None = refl

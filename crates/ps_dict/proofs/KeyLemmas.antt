-- Two words of a memory are the same key exactly where their values are, and where their bits are.
use Rattle.std.proofs.Common.{◌≡◌, ◌≢◌, ◌⊎◌, true≢false, ℕ, zero, suc, ◌+◌, ◌*◌, ◌/◌, ◌%◌, ◌^◌, ◌<◌, Bool, true, false, ◌&&◌, List, [], ◌∷◌, length, None, refl, sym, ap, ◌∙◌, arith, rules, inl, inr, nat_eq, w32, slice_index_or}
use Rattle.std.specs.Prelude.{ℤ, ◌==◌, FitsSigned, option_map, IsSome}
use Rattle.std.specs.Int.{cast_signed, cast_unsigned}
use Rattle.std.specs.Ordering.{int_eq}
use Rattle.std.specs.List.{AllPairs}
use Rattle.std.specs.Str.{bytes_eq}
use Rattle.std.proofs.lemmas.Int.{to_z-of_z}
use Rattle.std.proofs.lemmas.Bool.{cases_lt}
use Rattle.std.proofs.lemmas.Bool.Decides.{same_from_decides, Decides-eqb, Decides-and, Decides-int_eq}
use Rattle.std.proofs.lemmas.Slice.Eq.{bytes_eq-Decides}
use denote.Enum.Bare.{same_true, true_same}
use Rattle.ps_language.specs.declared.kinds.Kind.{Kind}
use Rattle.ps_language.specs.declared.kinds.Kind.TheVariants.{Array as ArrayKind, Dictionary as DictionaryKind, Lock as LockKind, Condition as ConditionKind, Body as BodyKind}
use Rattle.ps_language.specs.declared.operators.Operator.{Operator as OperatorName}
use Rattle.ps_language.specs.declared.operators.Operator.TheVariants.{Pop}
use Rattle.ps_language.specs.contracts.operators.Operator as the_operator
use Rattle.ps_language.specs.Operators.{every_operator}
use Rattle.ps_language.specs.Value.{Store}
use Rattle.ps_language.specs.Equality.{same_truth, same_operator, same_what, same_key}
use Rattle.ps_word.specs.declared.words.Word.{Word}
use Rattle.ps_word.specs.declared.values.Part.{Part}
use Rattle.ps_word.specs.declared.values.Content.{Content}
use Rattle.ps_word.specs.declared.values.Content.TheVariants.{Null, Integer, Boolean, Mark, Name, Operator, Array, Text, Dictionary, Lock, Condition, Body}
use Rattle.ps_language.specs.Operators.{operator_number}
use Rattle.ps_word.specs.Readers.{as_text}
use Rattle.ps_word.specs.Format.{type_number, part_bits, content_bits, content_in, is_body, IsPart, IsContent, IsWord}
use Rattle.ps_language.proofs.Numbers.{operator_at-number, operator_number-below}
use Rattle.ps_word.proofs.Packing.{access_number-below}
use Rattle.ps_word.proofs.Places.{IsContent-of_word, type-of_word, low-of_word}
use Rattle.ps_mem.specs.Heap.{Heap, birth_of, birth_at}
use Rattle.ps_mem.specs.References.{StandsAs, IsKnown, IsKnownContent}
use Rattle.ps_mem.specs.Meaning.{what_of, value_of, text_of_name}
use Rattle.ps_mem.specs.Shows.{IsValue, IsSound, IsWithin, IsWithinContent}
use Rattle.ps_dict.specs.Keys.{same_place, same_content, same_words}
use Rattle.ps_dict.specs.Places.{place_of}

same_test : (a b m n : ℕ) → (a ≡ b → m ≡ n) → (m ≡ n → a ≡ b) → nat_eq m n ≡ nat_eq a b
same_test a b m n there back = same_from_decides (nat_eq m n) (nat_eq a b) (Decides-eqb m n) (
  (λ e. there ((Decides-eqb a b).0 e)),
  λ e. (Decides-eqb a b).1 (back e),
)

like_test : (m n : ℕ) → m ≡ n → nat_eq m n ≡ true
like_test m n is = (Decides-eqb m n).1 is

unlike_test : (m n : ℕ) → m ≢ n → nat_eq m n ≡ false
unlike_test m n other = by (nat_eq m n) (Decides-eqb m n).0
  where
    by : (b : Bool) → (b ≡ true → m ≡ n) → b ≡ false
    by true there = absurd (other (there refl))
    by false there = refl

test_cases : (m n : ℕ) → (m ≡ n) ⊎ (m ≢ n)
test_cases m n = by (nat_eq m n) (Decides-eqb m n)
  where
    by : (b : Bool) → (b ≡ true → m ≡ n) × (m ≡ n → b ≡ true) → (m ≡ n) ⊎ (m ≢ n)
    by true there = inl (there.0 refl)
    by false there = inr (λ is. true≢false (sym (there.1 is)))

-- ---- by the bits

operators_same : (a b : OperatorName) → nat_eq (operator_number a) (operator_number b) ≡ same_operator a b
operators_same a b =
    same_from_decides (nat_eq (operator_number a) (operator_number b)) (same_operator a b) (
      (λ e. sym (operator_at-number a)
          ∙ (ap (λ n. slice_index_or every_operator n Pop) ((Decides-eqb (operator_number a) (operator_number b)).0 e)
          ∙ operator_at-number b)),
      λ e. (Decides-eqb (operator_number a) (operator_number b)).1 (ap operator_number e),
    )
    (same_true the_operator.the_type (search rules) a b, true_same the_operator.the_type a b)

cast_unsigned-below : (i : ℤ) → FitsSigned w32 i → cast_unsigned w32 i < 2 ^ 32
cast_unsigned-below i h = search rules

integers_same : (i j : ℤ) → FitsSigned w32 i → FitsSigned w32 j
    → nat_eq (cast_unsigned w32 i % 2 ^ 57) (cast_unsigned w32 j % 2 ^ 57) ≡ int_eq i j
integers_same i j f g =
    let x = cast_unsigned-below i f in
    let y = cast_unsigned-below j g in
    let low : cast_unsigned w32 i % 2 ^ 57 ≡ cast_unsigned w32 i = omega arith in
    let low' : cast_unsigned w32 j % 2 ^ 57 ≡ cast_unsigned w32 j = omega arith in
    rw (low, low')
    (same_from_decides (nat_eq (cast_unsigned w32 i) (cast_unsigned w32 j)) (int_eq i j) (
      (λ e. sym (to_z-of_z w32 i f)
          ∙ (ap (cast_signed w32) ((Decides-eqb (cast_unsigned w32 i) (cast_unsigned w32 j)).0 e) ∙ to_z-of_z w32 j g)),
      λ e. (Decides-eqb (cast_unsigned w32 i) (cast_unsigned w32 j)).1 (ap (cast_unsigned w32) e),
    )
    (Decides-int_eq i j))

parts_same : (p q : Part) → IsPart p → IsPart q → nat_eq (part_bits p % 2 ^ 57) (part_bits q % 2 ^ 57) ≡ same_place p q
parts_same p q f g =
    let m = part_bits p % 2 ^ 57 in
    let n = part_bits q % 2 ^ 57 in
    let a = access_number-below p.access in
    let b = access_number-below q.access in
    let fa = f.address in
    let ga = g.address in
    let fw = f.within in
    let gw = g.within in
    let first : part_bits p % 2 ^ 57 ≡ p.address * 2 ^ 32 + p.offset * 2 ^ 16 + p.length = omega arith in
    let second : part_bits q % 2 ^ 57 ≡ q.address * 2 ^ 32 + q.offset * 2 ^ 16 + q.length = omega arith in
    same_from_decides (nat_eq m n) (same_place p q) (
      (λ e.
          let same : p.address * 2 ^ 32 + p.offset * 2 ^ 16 + p.length
          ≡ q.address * 2 ^ 32 + q.offset * 2 ^ 16 + q.length = sym first ∙ ((Decides-eqb m n).0 e ∙ second) in (
            (omega (arith, same, fa, ga, fw, gw), omega (arith, same, fa, ga, fw, gw)),
            omega (arith, same, fa, ga, fw, gw),
          )),
      λ (e : ((p.address ≡ q.address) × (p.offset ≡ q.offset)) × (p.length ≡ q.length)).
          (Decides-eqb m n).1 (first ∙ ((let x = e.0.0 in let y = e.0.1 in let z = e.1 in omega (arith, x, y, z))
          ∙ sym second)),
    )
    (Decides-and (p.address == q.address && p.offset == q.offset) (p.length == q.length)
    (Decides-and (p.address == q.address) (p.offset == q.offset) (Decides-eqb p.address q.address)
    (Decides-eqb p.offset q.offset))
    (Decides-eqb p.length q.length))

addresses_same : (a b : ℕ) → a < 2 ^ 24 → b < 2 ^ 24
    → nat_eq ((a * 2 ^ 32) % 2 ^ 57) ((b * 2 ^ 32) % 2 ^ 57) ≡ nat_eq a b
addresses_same a b f g =
    same_test a b ((a * 2 ^ 32) % 2 ^ 57) ((b * 2 ^ 32) % 2 ^ 57) (λ e. omega (arith, e)) (λ e. omega (arith, e, f, g))

operators_low : (a b : OperatorName)
    → nat_eq (operator_number a % 2 ^ 57) (operator_number b % 2 ^ 57) ≡ same_operator a b
operators_low a b =
    let x = operator_number-below a in
    let y = operator_number-below b in
    let low : operator_number a % 2 ^ 57 ≡ operator_number a = omega arith in
    let low' : operator_number b % 2 ^ 57 ≡ operator_number b = omega arith in
    rw (low, low') (operators_same a b)

names_low : (m n : ℕ) → m < 65535 → n < 65535 → nat_eq (m % 2 ^ 57) (n % 2 ^ 57) ≡ nat_eq m n
names_low m n f g = same_test m n (m % 2 ^ 57) (n % 2 ^ 57) (λ e. ap (λ k. k % 2 ^ 57) e) (λ e. omega (arith, e, f, g))

other_types : (c d : Content) → type_number c ≢ type_number d → false ≡ same_content c d
other_types Null Null h = absurd (h refl)
other_types (Integer _) (Integer _) h = absurd (h refl)
other_types (Boolean _) (Boolean _) h = absurd (h refl)
other_types Mark Mark h = absurd (h refl)
other_types (Name _) (Name _) h = absurd (h refl)
other_types (Operator _) (Operator _) h = absurd (h refl)
other_types (Array _) (Array _) h = absurd (h refl)
other_types (Dictionary _) (Dictionary _) h = absurd (h refl)
other_types (Lock _) (Lock _) h = absurd (h refl)
other_types (Condition _) (Condition _) h = absurd (h refl)
other_types c d h = refl

strings : (c d : Content) → type_number c ≡ 7 → false ≡ same_content c d
strings (Text p) d h = refl
strings (Body a) d h = refl
strings Null d h = absurd (omega (arith, h))
strings (Integer _) d h = absurd (omega (arith, h))
strings (Boolean _) d h = absurd (omega (arith, h))
strings Mark d h = absurd (omega (arith, h))
strings (Name _) d h = absurd (omega (arith, h))
strings (Operator _) d h = absurd (omega (arith, h))
strings (Array _) d h = absurd (omega (arith, h))
strings (Dictionary _) d h = absurd (omega (arith, h))
strings (Lock _) d h = absurd (omega (arith, h))
strings (Condition _) d h = absurd (omega (arith, h))

other_type : (c : Content) → as_text c ≡ None → type_number c ≢ 7
other_type (Text part) none = λ is. cc
other_type c none = λ is. omega (arith, is)

not_text : (c : Content) → type_number c ≢ 7 → as_text c ≡ None
not_text (Text part) other = absurd (other refl)
not_text c other = refl

truths_same : (a b : Bool)
    → nat_eq (content_bits (Boolean a) % 2 ^ 57) (content_bits (Boolean b) % 2 ^ 57) ≡ same_truth a b
truths_same true true = refl
truths_same true false = refl
truths_same false true = refl
truths_same false false = refl

same_low : (c d : Content) → IsContent c → IsContent d → type_number c ≡ type_number d → type_number c ≢ 7
    → is_body c ≡ false → nat_eq (content_bits c % 2 ^ 57) (content_bits d % 2 ^ 57) ≡ same_content c d
same_low Null Null f g same plain visible = refl
same_low Mark Mark f g same plain visible = refl
same_low (Integer i) (Integer j) f g same plain visible = integers_same i j f g
same_low (Boolean a) (Boolean b) f g same plain visible = truths_same a b
same_low (Name m) (Name n) f g same plain visible = names_low m n f g
same_low (Operator a) (Operator b) f g same plain visible = operators_low a b
same_low (Array p) (Array q) f g same plain visible = parts_same p q f g
same_low (Dictionary a) (Dictionary b) f g same plain visible = addresses_same a b f g
same_low (Lock a) (Lock b) f g same plain visible = addresses_same a b f g
same_low (Condition a) (Condition b) f g same plain visible = addresses_same a b f g
same_low (Text p) d f g same plain visible = absurd (plain refl)
same_low (Body a) d f g same plain visible = cc
same_low c d f g same plain visible = absurd (omega (arith, same))

module _ (left right : Word) (first : IsWord left.0) (second : IsWord right.0) where
  pub unlike-types : left.0 / 2 ^ 60 ≢ right.0 / 2 ^ 60 → false ≡ same_words left right
  unfolding same_words
  unlike-types h = other_types (content_in left.0) (content_in right.0)
      (λ e. h (type-of_word left.0 first ∙ (e ∙ sym (type-of_word right.0 second))))

  pub unlike-string : left.0 / 2 ^ 60 ≡ 7 → false ≡ same_words left right
  unfolding same_words
  unlike-string h = strings (content_in left.0) (content_in right.0) (sym (type-of_word left.0 first) ∙ h)

  low-of : (w : ℕ) → IsWord w → w % 2 ^ 57 ≡ content_bits (content_in w) % 2 ^ 57
  low-of w word = let low : w % 2 ^ 59 ≡ content_bits (content_in w) = low-of_word w word in
      let cut : w % 2 ^ 57 ≡ (w % 2 ^ 59) % 2 ^ 57 = omega arith in cut ∙ ap (λ n. n % 2 ^ 57) low

  pub like-bits : is_body (content_in left.0) ≡ false → left.0 / 2 ^ 60 ≡ right.0 / 2 ^ 60 → left.0 / 2 ^ 60 ≢ 7
      → nat_eq (left.0 % 2 ^ 57) (right.0 % 2 ^ 57) ≡ same_words left right
  unfolding same_words
  like-bits visible same plain =
      rw (low-of left.0 first, low-of right.0 second)
      (same_low (content_in left.0) (content_in right.0) (IsContent-of_word left.0 first)
      (IsContent-of_word right.0 second)
      (sym (type-of_word left.0 first) ∙ (same ∙ type-of_word right.0 second))
      (λ e. plain (type-of_word left.0 first ∙ e)) visible)

  pub of_string : right.0 / 2 ^ 60 ≡ 7 → false ≡ same_words left right
  of_string is = elim (test_cases (left.0 / 2 ^ 60) (right.0 / 2 ^ 60)) [
    | inl same ↦ unlike-string (same ∙ is)
    | inr other ↦ unlike-types other
  ]

  pub of_other : right.0 / 2 ^ 60 ≢ 7 → as_text (content_in right.0) ≡ None
  of_other other = not_text (content_in right.0) (λ is. other (type-of_word right.0 second ∙ is))

  -- where the second is no string, the bits tell
  pub by_bits : is_body (content_in left.0) ≡ false → as_text (content_in right.0) ≡ None
      → nat_eq (left.0 / 2 ^ 60 * 2 ^ 60 + left.0 % 2 ^ 57)
      (right.0 / 2 ^ 60 * 2 ^ 60 + right.0 % 2 ^ 57) ≡ same_words left right
  by_bits visible none =
      let l : ℕ = left.0 / 2 ^ 60 * 2 ^ 60 + left.0 % 2 ^ 57 in
      let r : ℕ = right.0 / 2 ^ 60 * 2 ^ 60 + right.0 % 2 ^ 57 in
      elim (test_cases (left.0 / 2 ^ 60) (right.0 / 2 ^ 60)) [
        | inl same ↦
            same_test (left.0 % 2 ^ 57) (right.0 % 2 ^ 57) l r
            (λ bits. ap (λ t. t * 2 ^ 60 + left.0 % 2 ^ 57) same
            ∙ ap (λ b. right.0 / 2 ^ 60 * 2 ^ 60 + b) bits)
            (λ equal. omega (arith, equal, same))
            ∙ like-bits visible same
            (λ is. other_type (content_in right.0) none
            (sym (type-of_word right.0 second) ∙ (sym same ∙ is)))
        | inr other ↦
            unlike_test l r (λ equal. other (omega (arith, equal)))
            ∙ unlike-types other
      ]

-- a string is the same as nothing
text_last : (c d : Content) → IsSome (as_text d) → same_content c d ≡ false
text_last Null (Text part) some = refl
text_last c (Text part) some = refl
text_last c d some = cc

pub string_absent : (key : Word) → IsSome (as_text (content_in key.0))
    → (pairs : List (Word × Word)) → place_of pairs key ≡ None
unfolding place_of same_words
string_absent key some [] = refl
string_absent key some (pair ∷ pairs) =
    rw (text_last (content_in pair.0.0) (content_in key.0) some)
    (ap (option_map suc) (string_absent key some pairs))

-- ---- by the values

text_at : (names : List (List ℕ)) (n : ℕ) → slice_index_or names n [] ≡ text_of_name names n
text_at [] n = refl
text_at (text ∷ names) zero = refl
text_at (text ∷ names) (suc n) = text_at names n

module _ (names : List (List ℕ)) (distinct : AllPairs (λ first later. first ≢ later) names) where
  later_name : (m n : ℕ) → m < n → n < length names → text_of_name names m ≢ text_of_name names n
  later_name m n before below same = distinct m n [] before below (text_at names m ∙ (same ∙ sym (text_at names n)))

  one_name : (m n : ℕ) → m < length names → n < length names → text_of_name names m ≡ text_of_name names n → m ≡ n
  one_name m n f g same = elim (cases_lt m n) [
    | inl before ↦ absurd (later_name m n before g same)
    | inr past ↦ elim (cases_lt n m) [
      | inl after ↦ absurd (later_name n m after f (sym same))
      | inr also ↦ omega (arith, past, also)
    ]
  ]

  same_name : (m n : ℕ) → m < length names → n < length names
      → bytes_eq (text_of_name names m) (text_of_name names n) ≡ nat_eq m n
  same_name m n f g =
      same_from_decides (bytes_eq (text_of_name names m) (text_of_name names n)) (nat_eq m n)
      (bytes_eq-Decides (text_of_name names m) (text_of_name names n))
      ((λ e. ap (text_of_name names) ((Decides-eqb m n).0 e)), λ e. (Decides-eqb m n).1 (one_name m n f g e))

  module _ (h : Heap) (sound : IsSound h) where
    -- one birth number is of one object
    equal_births : (kind also : Kind) (a b m n : ℕ) → kind ≢ BodyKind → also ≢ BodyKind → StandsAs h kind a m
        → StandsAs h also b n → nat_eq (birth_at h a) (birth_at h b) ≡ nat_eq a b
    unfolding birth_at
    equal_births kind also a b m n bodiless nor first second =
        let one : birth_at h a ≡ first.object.birth = ap birth_of first.at in
        let two : birth_at h b ≡ second.object.birth = ap birth_of second.at in
        same_test a b (birth_at h a) (birth_at h b) (λ same. ap (birth_at h) same)
        (λ same. sound.single a b first.object second.object first.at second.at
        (λ is. bodiless (sym first.kind_is ∙ is)) (λ is. nor (sym second.kind_is ∙ is)) (sym one ∙ (same ∙ two)))

    module _ (store : Store) where
      same_contents : (c d : Content) → IsKnownContent h c → IsKnownContent h d → is_body c ≡ false → is_body d ≡ false
          → IsWithinContent (birth_at h) names store c → IsWithinContent (birth_at h) names store d
          → same_what (what_of (birth_at h) names c) (what_of (birth_at h) names d) ≡ same_content c d
      same_contents (Name a) (Name b) known also visible seen within inside = same_name a b within inside
      same_contents (Array p) (Array q) known also visible seen within inside =
          rw (equal_births ArrayKind ArrayKind p.address q.address (p.offset + p.length) (q.offset + q.length)
          (λ is. cc) (λ is. cc) known also) refl
      same_contents (Dictionary a) (Dictionary b) known also visible seen within inside =
          equal_births DictionaryKind DictionaryKind a b 4 4 (λ is. cc) (λ is. cc) known also
      same_contents (Lock a) (Lock b) known also visible seen within inside =
          equal_births LockKind LockKind a b 1 1 (λ is. cc) (λ is. cc) known also
      same_contents (Condition a) (Condition b) known also visible seen within inside =
          equal_births ConditionKind ConditionKind a b 1 1 (λ is. cc) (λ is. cc) known also
      same_contents (Body a) d known also visible seen within inside = cc
      same_contents c (Body b) known also visible seen within inside = cc
      same_contents c d known also visible seen within inside = refl

      -- of words that are held
      pub same_keys : (left right : Word) → IsValue h left → IsValue h right → IsWithin (birth_at h) names store left
          → IsWithin (birth_at h) names store right
          → same_key (value_of (birth_at h) names left) (value_of (birth_at h) names right) ≡ same_words left right
      unfolding value_of same_key same_words IsWithin IsKnown
      same_keys left right held also within inside =
          same_contents (content_in left.0) (content_in right.0) held.known also.known held.visible also.visible within
          inside

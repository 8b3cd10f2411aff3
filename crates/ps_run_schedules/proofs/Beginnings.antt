-- Bytes that begin with a field.
use Rattle.std.proofs.Common.{◌≡◌, ◌≢◌, ◌+◌, ◌-◌, ◌*◌, ◌<◌, ◌≤◌, ◌^◌, ℕ, zero, suc, List, [], ◌∷◌, ◌++◌, take, drop}
use Rattle.std.proofs.Common.{length, get_or, true, false, arith, refl, sym, ap, ◌∙◌, subst, length-append}
use Rattle.std.proofs.Common.{append_assoc}
use Rattle.std.specs.Char.{is_ascii_digit}
use Rattle.std.specs.Int.{IsInRange}
use Rattle.std.specs.Fmt.{decimal}
use Rattle.std.specs.Str.Parse.{AllDigits, digits_value}
use Rattle.std.proofs.lemmas.Fmt.{decimal_is_IsNumeral, decimal_nonempty, first_decimal, decimal-digits_value}
use Rattle.std.proofs.lemmas.Fmt.{decimal_injective}
use Rattle.std.proofs.lemmas.Int.Digits.{digits_value_more, digits_more}
use Rattle.std.proofs.lemmas.List.{append_cancel_left, take-append-drop, take-append-le, take_at, take_rest}
use Rattle.std.proofs.lemmas.List.{get_or-take, length-take-le, drop_more, take-take, get_or_append_left}
use Rattle.std.proofs.lemmas.Str.{digit_value_digit}
use Rattle.std.proofs.lemmas.Str.Parse.{digit_at, digits_value-take-le, numerals_by_value, tells_digits}
use Rattle.std.proofs.Math.Seq.{get_or-append_seam, take-length}
use Rattle.ps_run_schedules.specs.Texts.{IsUpTo, field_of}

-- a byte that is no digit
no_digit : (b : ℕ) → is_ascii_digit b ≡ false → IsInRange 48 57 b → ⊥
no_digit b test range = grind arith

-- the bytes begin with digits and then with a byte that is none
pub record BeginsWith (bytes digits : List ℕ) (ending : ℕ) : Type 0 where
  pub all : AllDigits 10 digits
  pub other : is_ascii_digit ending ≡ false
  pub rest : List ℕ
  pub is : bytes ≡ digits ++ ending ∷ rest

module _ (bytes digits : List ℕ) (ending : ℕ) (begins : BeginsWith bytes digits ending) where
  -- the byte behind the digits
  byte_behind : get_or bytes (length digits) 0 ≡ ending
  byte_behind = ap (λ bs. get_or bs (length digits) 0) begins.is
      ∙ get_or-append_seam digits ending begins.rest 0

  length_more : length digits + 1 ≤ length bytes
  length_more =
      let e = ap {B = ℕ} (λ (bs : List ℕ). length bs) begins.is in
      let l = length-append digits (ending ∷ begins.rest) in
      omega (arith, e, l)

  -- no more digits than those
  few_digits : (n : ℕ) → n ≤ length bytes → AllDigits 10 (take n bytes)
      → length digits < n → ⊥
  few_digits n within all more =
      let long = length-take-le n bytes within in
      let in_front : length digits < length (take n bytes) = omega (arith, long, more) in
      let digit = digit_at (take n bytes) (length digits) all in_front in
      let byte = get_or-take n bytes (length digits) 0 more ∙ byte_behind in
      no_digit ending begins.other (subst (IsInRange 48 57) byte digit)

  -- a byte that is none stands behind them, or is the ending
  few_others : (n : ℕ) → n < length digits → is_ascii_digit (get_or bytes n 0) ≡ false → ⊥
  few_others n few test =
      let byte : get_or bytes n 0 ≡ get_or digits n 0 =
      ap (λ bs. get_or bs n 0) begins.is
      ∙ get_or_append_left digits (ending ∷ begins.rest) 0 n few in
      no_digit (get_or digits n 0) (subst (λ b. is_ascii_digit b ≡ false) byte test)
      (digit_at digits n begins.all few)

  first_digits : (n : ℕ) → n ≤ length digits → take n bytes ≡ take n digits
  first_digits n few = ap (take n) begins.is ∙ take-append-le n digits (ending ∷ begins.rest) few

-- the bytes of a field
pub begins_with : (bytes : List ℕ) (most number ending : ℕ) (rest : List ℕ) → most < 2 ^ 64
    → IsUpTo most number → is_ascii_digit ending ≡ false → bytes ≡ field_of ending number ++ rest
    → BeginsWith bytes (decimal number) ending
begins_with bytes most number ending rest small up test is = record {
  all = (decimal_is_IsNumeral number (omega (arith, up.high))).0.1;
  other = test;
  rest = rest;
  is = is ∙ append_assoc (decimal number) (ending ∷ []) rest;
}

-- ---- two fields

-- the digits of one are not fewer than those of the other
not_fewer : (bytes first second : List ℕ) (one other : ℕ) → BeginsWith bytes first one
    → BeginsWith bytes second other → length second < length first → ⊥
not_fewer bytes first second one other a b fewer =
    let more = length_more bytes first one a in
    let same : take (length first) bytes ≡ first =
    first_digits bytes first one a (length first) (omega arith) ∙ take-length first in
    few_digits bytes second other b (length first) (omega (arith, more))
    (subst (AllDigits 10) (sym same) a.all) fewer

-- bytes begin with one field alone, and one thing stands behind it
pub field_once : (bytes : List ℕ) (most first second ending : ℕ) (behind rest : List ℕ)
    → most < 2 ^ 64 → IsUpTo most first → IsUpTo most second → is_ascii_digit ending ≡ false
    → bytes ≡ field_of ending first ++ behind → bytes ≡ field_of ending second ++ rest
    → (first ≡ second) × (behind ≡ rest)
unfolding begins_with
field_once bytes most first second ending behind rest small one two test is also =
    let a = begins_with bytes most first ending behind small one test is in
    let b = begins_with bytes most second ending rest small two test also in
    let long : length (decimal first) ≡ length (decimal second) = (
    let not_less = not_fewer bytes (decimal first) (decimal second) ending ending a b in
    let not_more = not_fewer bytes (decimal second) (decimal first) ending ending b a in
    omega (arith, not_less, not_more)
    ) in
    let texts : decimal first ≡ decimal second =
    sym (take_at (decimal first) (ending ∷ behind) (length (decimal first)) refl)
    ∙ ap (take (length (decimal first))) (sym a.is ∙ b.is)
    ∙ take_at (decimal second) (ending ∷ rest) (length (decimal first)) (sym long) in
    let same : first ≡ second = decimal_injective first second (omega (arith, one.high))
    (omega (arith, two.high)) texts in (
      same,
      append_cancel_left (field_of ending first) behind rest
          (sym is ∙ also ∙ ap (λ n. field_of ending n ++ rest) (sym same)),
    )

-- ---- as far as bytes were read

-- the bytes in front of a place are digits
pub record AreDigits (bytes : List ℕ) (place : ℕ) : Type 0 where
  pub within : place ≤ length bytes
  pub digits : AllDigits 10 (take place bytes)

module _ (bytes : List ℕ) (most number ending : ℕ) (rest : List ℕ) (small : most < 2 ^ 64)
    (up : IsUpTo most number) (test : is_ascii_digit ending ≡ false)
    (is : bytes ≡ field_of ending number ++ rest) (place : ℕ) (read : AreDigits bytes place) where
  begun : BeginsWith bytes (decimal number) ending
  begun = begins_with bytes most number ending rest small up test is

  -- no more than the field has
  few : place ≤ length (decimal number)
  few =
      let not_more = few_digits bytes (decimal number) ending begun place read.within read.digits in
      omega (arith, not_more)

  front : take place bytes ≡ take place (decimal number)
  front = first_digits bytes (decimal number) ending begun place few

  -- a byte behind them that is no digit is the ending, and there are some
  pub ended : place < length bytes → is_ascii_digit (get_or bytes place 0) ≡ false
      → (get_or bytes place 0 ≡ ending) × (0 < place)
  ended inside none =
      let not_less : place < length (decimal number) → ⊥ =
      λ less. few_others bytes (decimal number) ending begun place less none in
      let long : place ≡ length (decimal number) = omega (arith, not_less, few) in
      let some = decimal_nonempty number (omega (arith, up.high)) in (
        ap (λ n. get_or bytes n 0) long ∙ byte_behind bytes (decimal number) ending begun,
        omega (arith, some, long),
      )

  -- something stands behind them
  pub goes_on : place < length bytes
  goes_on =
      let more = length_more bytes (decimal number) ending begun in omega (arith, few, more)

  value_of_number : digits_value 10 (decimal number) ≡ number
  value_of_number = (decimal_is_IsNumeral number (omega (arith, up.high))).1

  -- what they write is no greater than the number
  pub not_greater : digits_value 10 (take place bytes) ≤ most
  not_greater =
      let less = digits_value-take-le 10 (decimal number) place (omega arith) in
      let same = ap (digits_value 10) front in
      omega (arith, less, same, value_of_number, up.high)

  -- nor is it 0
  pub not_zero : 0 < place → 0 < digits_value 10 (take place bytes)
  not_zero some =
      let digits = decimal number in
      let less = digits_value-take-le 10 (take place digits) 1 (omega arith) in
      let one = ap (digits_value 10) (take-take 1 place digits some) in
      let same = ap (digits_value 10) front in
      let long = decimal_nonempty number (omega (arith, up.high)) in
      let first = digits_value_more 10 digits 0 long in
      let large = first_decimal number up.low (omega (arith, up.high)) in
      let digit = digit_at digits 0 begun.all long in
      let value = digit_value_digit (get_or digits 0 0) digit in
      omega (arith, less, one, same, first, large, value)

-- bytes that were read, and the ending behind them
pub field_read : (bytes : List ℕ) (number ending place : ℕ) → AreDigits bytes place
    → number ≡ digits_value 10 (take place bytes) → number < 2 ^ 64 → 0 < place
    → 48 < get_or bytes 0 0 → place < length bytes → get_or bytes place 0 ≡ ending
    → bytes ≡ field_of ending number ++ take (length bytes - (place + 1)) (drop (place + 1) bytes)
field_read bytes number ending place read value small some first inside byte =
    let long = length-take-le place bytes read.within in
    let head : get_or (take place bytes) 0 0 ≡ get_or bytes 0 0 =
    get_or-take place bytes 0 0 some in
    let digits : decimal number ≡ take place bytes =
    ap decimal value ∙ decimal-digits_value (numerals_by_value (AllDigits 10) tells_digits)
    (take place bytes) read.digits (omega (arith, long, some))
    (λ zero_first. absurd (omega (arith, zero_first, head, first))) (omega (arith, value, small)) in
    sym (take-append-drop place bytes)
    ∙ ap (λ bs. take place bytes ++ bs) (drop_more bytes place 0 inside)
    ∙ sym (append_assoc (take place bytes) (get_or bytes place 0 ∷ []) (drop (place + 1) bytes))
    ∙ (λ i. (sym digits i ++ byte i ∷ []) ++ sym (take_rest bytes (place + 1)) i)

-- one digit more
pub digit_read : (bytes : List ℕ) (place : ℕ) → AreDigits bytes place → place < length bytes
    → is_ascii_digit (get_or bytes place 0) ≡ true → AreDigits bytes (place + 1)
digit_read bytes place read inside test =
    let range : IsInRange 48 57 (get_or bytes place 0) = grind (arith, test) in
    let value = digit_value_digit (get_or bytes place 0) range in
    record {
      within = omega (arith, inside);
      digits =
          digits_more 10 bytes place inside read.digits (omega (arith, value, range));
    }

pub value_read : (bytes : List ℕ) (place number digit : ℕ) → place < length bytes
    → is_ascii_digit (get_or bytes place 0) ≡ true → digit ≡ get_or bytes place 0 - 48
    → number ≡ digits_value 10 (take place bytes)
    → number * 10 + digit ≡ digits_value 10 (take (place + 1) bytes)
value_read bytes place number digit inside test is value =
    let range : IsInRange 48 57 (get_or bytes place 0) = grind (arith, test) in
    let worth = digit_value_digit (get_or bytes place 0) range in
    let more = digits_value_more 10 bytes place inside in
    omega (arith, more, worth, is, value, range)

-- the first digit of a number isn't 0
pub first_read : (bytes : List ℕ) (place number digit : ℕ)
    → number ≡ digits_value 10 (take place bytes) → digit ≡ get_or bytes place 0 - 48
    → number * 10 + digit ≢ 0 → (0 < place → 48 < get_or bytes 0 0) → 48 < get_or bytes 0 0
first_read bytes zero number digit value is some before = omega (arith, value, is, some)
first_read bytes (suc place) number digit value is some before = before (omega arith)

-- The text of a definition is read back, token by token.
use Rattle.std.proofs.Common.{◌≡◌, ℕ, suc, ◌+◌, ◌-◌, ◌*◌, ◌/◌, ◌%◌, ◌^◌, ◌≤◌, ◌<◌, ◌==◌, ◌&&◌, Bool, true, false, not, List, [], ◌∷◌, ◌++◌, length, refl, sym, ap, ◌∙◌, subst, arith, inl, inr}
use Rattle.std.specs.Prelude.{◌⊎◌, ℤ, pos, negsuc, neg_ℤ, nat_lt, nat_le, codes, filter}
use Rattle.std.specs.List.{AllByRecursion, list_all}
use Rattle.std.specs.Fmt.{decimal, signed_decimal}
use Rattle.std.proofs.lemmas.Bool.{and_parts, and_from, cond-true, cond-false, eqb-true, leb-true, ltb-true, ne_eqb, le-leb, lt-ltb, le-ltb, cases_lt, false≢true, not-true}
use Rattle.std.proofs.lemmas.Fmt.{decimal_is_IsNumeral, digits_decimal, digits_value-decimal}
use Rattle.std.proofs.lemmas.Str.Parse.{FoldsDigits, IsDigitsTest, IsNumeralModel, numerals_by_fold}
use Rattle.std.proofs.lemmas.List.{append_assoc, length-append}
use Rattle.ps_language.specs.Bytes.{digit_of, is_digit, is_digit_in, is_hex, is_hex_or_white, is_regular, is_special, is_white, value_in}
use Rattle.ps_language.specs.Limits.{name_limit, nesting_limit, sequence_limit}
use Rattle.ps_language.specs.Reading.{token_then, fits_integer, integer_word, name_word, pairs, sized_name, sized_string, Word, word_reading}
use Rattle.ps_language.specs.Scan.{after_hex_start, after_slash, as_scan, beyond, further_on, hex_reading, leading, scan, simple_by, start_of, text_scan, token_here, word_of, word_by, unsigned, is_real_tail}
use Rattle.ps_language.specs.Syntax.{bare_integer, EachIs, IsDigits, IsInteger, IsNonEmpty, minus_integer, StopsAt}
use Rattle.ps_language.specs.Token.{Token, executable_name_token, found, literal_name_token, number_token, string_token}
use Rattle.ps_language.proofs.Blanks.{behind_none, behind_white}
use Rattle.ps_language.proofs.ScanSteps.{scan_shifted}
use Rattle.ps_language.proofs.Simples.{regular_is_start}
use Rattle.ps_language.proofs.Spans.{beyond_front, leading_front}
use Rattle.ps_language.proofs.Words.{integer_complete}
use Rattle.ps_prologues.specs.Prologues.{definition_text, FitsLimit, value_text, value_token, HasTokens, hex_digit, hex_text, IsDefinable, IsNameText}
use Rattle.ps_prologues.specs.declared.definitions.DefinedValue.{DefinedValue}
use Rattle.ps_prologues.specs.declared.definitions.DefinedValue.TheVariants.{Integer, Boolean, Text}

-- ---- a token in front of a text, and behind a space

simple_here : (b : ℕ) (bs : List ℕ) → (b == 123) ≡ false
    → token_here nesting_limit b bs ≡ simple_by (start_of b) b bs
unfolding token_here
simple_here b bs other = rw (other, token_here) refl

first_scan : (b : ℕ) (bs rest : List ℕ) (token : Token) → is_white b ≡ false → (b == 37) ≡ false
    → token_here nesting_limit b bs ≡ token_then token rest
    → scan (b ∷ bs) 0 ≡ found token (length (b ∷ bs) - length rest)
unfolding scan text_scan as_scan
first_scan b bs rest token white percent is =
    ap (text_scan (length (b ∷ bs))) (behind_none b bs white percent)
    ∙ ap (as_scan (length (b ∷ bs))) is

spaced_scan : (b : ℕ) (bs rest : List ℕ) (token : Token) → is_white b ≡ false
    → (b == 37) ≡ false → token_here nesting_limit b bs ≡ token_then token rest
    → scan (32 ∷ b ∷ bs) 0 ≡ found token (length (32 ∷ b ∷ bs) - length rest)
unfolding scan text_scan as_scan
spaced_scan b bs rest token white percent is =
    ap (text_scan (length (32 ∷ b ∷ bs))) (behind_white 32 (b ∷ bs) refl
    ∙ behind_none b bs white percent)
    ∙ ap (as_scan (length (32 ∷ b ∷ bs))) is

-- wherever the text stands
scan_there : (front text rest : List ℕ) (token : Token)
    → scan text 0 ≡ found token (length text - length rest) → length rest ≤ length text
    → scan (front ++ text) (length front)
    ≡ found token (length (front ++ text) - length rest)
scan_there front text rest token is fits =
    let here : length front ≡ length front + 0 = omega arith in
    let end : length front + (length text - length rest) ≡ length (front ++ text) - length rest =
    omega (arith, fits, length-append front text) in
    ap (scan (front ++ text)) here ∙ scan_shifted front text 0 ∙ ap (further_on (length front)) is
    ∙ ap (found token) end

-- ---- runs of regular bytes

regular_not : (b : ℕ) → is_regular b ≡ true → (k : ℕ) → is_regular k ≡ false → (b == k) ≡ false
regular_not b regular k other = by (b == k) refl
  where
    by : (same : Bool) → (b == k) ≡ same → (b == k) ≡ false
    by true is = absurd (false≢true (sym other ∙ ap is_regular (sym (eqb-true b k is)) ∙ regular))
    by false is = is

-- a run of regular bytes, and what doesn't go on with it
run_read : (b : ℕ) (bs after : List ℕ) (word : Word) (token : Token)
    → EachIs is_regular (b ∷ bs) → StopsAt is_regular after → word_of (b ∷ bs) ≡ word
    → word_reading (b ∷ bs) after word ≡ token_then token after
    → token_here nesting_limit b (bs ++ after) ≡ token_then token after
unfolding simple_by
run_read b bs after word token each stops is reads =
    let regular : is_regular b ≡ true = (and_parts (is_regular b) (list_all is_regular bs) each).0 in
    simple_here b (bs ++ after) (regular_not b regular 123 refl)
    ∙ ap (λ start. simple_by start b (bs ++ after)) (regular_is_start b regular)
    ∙ (λ i. word_reading (leading_front is_regular (b ∷ bs) after each stops i)
    (beyond_front is_regular (b ∷ bs) after each stops i)
    (word_of (leading_front is_regular (b ∷ bs) after each stops i)))
    ∙ ap (word_reading (b ∷ bs) after) is ∙ reads

regular_white : (b : ℕ) → is_regular b ≡ true → is_white b ≡ false
regular_white b regular =
    not-true (is_white b) (and_parts (not (is_white b)) (not (is_special b)) regular).0

-- behind a space
run_scan : (run after : List ℕ) (word : Word) (token : Token) → IsNonEmpty run
    → EachIs is_regular run → StopsAt is_regular after → word_of run ≡ word
    → word_reading run after word ≡ token_then token after
    → scan (32 ∷ (run ++ after)) 0 ≡ found token (length (32 ∷ (run ++ after)) - length after)
run_scan [] after word token some each stops is reads = absurd some
run_scan (b ∷ bs) after word token some each stops is reads =
    let regular : is_regular b ≡ true = (and_parts (is_regular b) (list_all is_regular bs) each).0 in
    spaced_scan b (bs ++ after) after token (regular_white b regular)
    (regular_not b regular 37 refl) (run_read b bs after word token each stops is reads)

-- ---- the name

name_first : (name more : List ℕ) → EachIs is_regular name
    → after_slash (name ++ 32 ∷ more) ≡ sized_name literal_name_token
    (leading is_regular (name ++ 32 ∷ more)) (beyond is_regular (name ++ 32 ∷ more))
unfolding after_slash
name_first [] more each = refl
name_first (b ∷ bs) more each =
    let regular : is_regular b ≡ true = (and_parts (is_regular b) (list_all is_regular bs) each).0 in
    rw (regular_not b regular 47 refl, after_slash) refl

name_read : (name more : List ℕ) → IsNameText name
    → token_here nesting_limit 47 (name ++ 32 ∷ more)
    ≡ token_then (literal_name_token name) (32 ∷ more)
unfolding simple_by start_of sized_name
name_read name more is =
    simple_here 47 (name ++ 32 ∷ more) refl
    ∙ name_first name more is.each
    ∙ (λ i. sized_name literal_name_token (leading_front is_regular name (32 ∷ more) is.each refl i)
    (beyond_front is_regular name (32 ∷ more) is.each refl i))
    ∙ cond-true (nat_le (length name) name_limit) _ _ (le-leb (length name) name_limit is.short)

-- ---- digits

and_none : (a : Bool) → (a && false) ≡ false
and_none true = refl
and_none false = refl

-- from 0 to 9
low_digit : (b : ℕ) → 48 ≤ b → b < 58 → digit_of b ≡ b - 48
low_digit b low high =
    cond-true (nat_le 48 b && nat_lt b 58) _ _
    (and_from (nat_le 48 b) (nat_lt b 58) (le-leb 48 b low) (lt-ltb b 58 high))

-- from a to f
high_digit : (b : ℕ) → 97 ≤ b → b < 123 → digit_of b ≡ b - 87
high_digit b low high =
    let first : (nat_le 48 b && nat_lt b 58) ≡ false =
    ap (λ t. nat_le 48 b && t) (le-ltb b 58 (omega (arith, low))) ∙ and_none (nat_le 48 b) in
    let second : (nat_le 65 b && nat_lt b 91) ≡ false =
    ap (λ t. nat_le 65 b && t) (le-ltb b 91 (omega (arith, low))) ∙ and_none (nat_le 65 b) in
    cond-false (nat_le 48 b && nat_lt b 58) _ _ first
    ∙ cond-false (nat_le 65 b && nat_lt b 91) _ _ second
    ∙ cond-true (nat_le 97 b && nat_lt b 123) _ _
    (and_from (nat_le 97 b) (nat_lt b 123) (le-leb 97 b low) (lt-ltb b 123 high))

digit_in : (b : ℕ) → 48 ≤ b → b < 58 → is_digit b ≡ true
digit_in b low high =
    ap (λ (n : ℕ). nat_lt n 10) (low_digit b low high) ∙ lt-ltb (b - 48) 10 (omega (arith, low, high))

-- nothing else is a digit in base ten
digit_range : (b : ℕ) → is_digit b ≡ true → (48 ≤ b) × (b < 58)
digit_range b is = by (nat_le 48 b && nat_lt b 58) refl
  where
    letters : (second third : Bool) → (nat_le 65 b && nat_lt b 91) ≡ second
        → (nat_le 97 b && nat_lt b 123) ≡ third → (nat_le 48 b && nat_lt b 58) ≡ false
        → digit_of b < 10 → ⊥
    letters true third upper lower first less =
        let low = leb-true 65 b (and_parts (nat_le 65 b) (nat_lt b 91) upper).0 in
        let same : digit_of b ≡ b - 55 = cond-false _ _ _ first ∙ cond-true _ _ _ upper in
        omega (arith, low, same, less)
    letters false true upper lower first less =
        let low = leb-true 97 b (and_parts (nat_le 97 b) (nat_lt b 123) lower).0 in
        let same : digit_of b ≡ b - 87 =
        cond-false _ _ _ first ∙ cond-false _ _ _ upper ∙ cond-true _ _ _ lower in
        omega (arith, low, same, less)
    letters false false upper lower first less =
        let same : digit_of b ≡ 36 =
        cond-false _ _ _ first ∙ cond-false _ _ _ upper ∙ cond-false _ _ _ lower in
        omega (arith, same, less)

    by : (first : Bool) → (nat_le 48 b && nat_lt b 58) ≡ first → (48 ≤ b) × (b < 58)
    by true first =
        let both = and_parts (nat_le 48 b) (nat_lt b 58) first in
        (leb-true 48 b both.0, ltb-true b 58 both.1)
    by false first =
        absurd (letters (nat_le 65 b && nat_lt b 91) (nat_le 97 b && nat_lt b 123) refl refl first
        (ltb-true (digit_of b) 10 is))

digit_regular : (b : ℕ) → is_digit b ≡ true → is_regular b ≡ true
digit_regular b is =
    let range = digit_range b is in
    let other : (k : ℕ) → ((k < 48) ⊎ (58 ≤ k)) → (b == k) ≡ false = λ k apart.
    ne_eqb b k (elim apart [
      | inl below ↦ λ e. omega (arith, below, e, range.0)
      | inr above ↦ λ e. omega (arith, above, e, range.1)
    ]) in
    rw (
      other 0 (inl (omega arith)),
      other 9 (inl (omega arith)),
      other 10 (inl (omega arith)),
      other 12 (inl (omega arith)),
      other 13 (inl (omega arith)),
      other 32 (inl (omega arith)),
      other 40 (inl (omega arith)),
      other 41 (inl (omega arith)),
      other 60 (inr (omega arith)),
      other 62 (inr (omega arith)),
      other 91 (inr (omega arith)),
      other 93 (inr (omega arith)),
      other 123 (inr (omega arith)),
      other 125 (inr (omega arith)),
      other 47 (inl (omega arith)),
      other 37 (inl (omega arith)),
    ) refl

digits_regular : (ds : List ℕ) → EachIs (is_digit_in 10) ds → EachIs is_regular ds
digits_regular [] each = refl
digits_regular (d ∷ ds) each =
    let both = and_parts (is_digit d) (list_all is_digit ds) each in
    and_from (is_regular d) (list_all is_regular ds) (digit_regular d both.0)
    (digits_regular ds both.1)

-- ---- the value: an integer

digits_model : IsDigitsTest (EachIs (is_digit_in 10))
digits_model = record {
  empty = refl;
  parts = λ c cs each.
      let both = and_parts (is_digit c) (list_all is_digit cs) each in
      let range = digit_range c both.0 in
      ((range.0, omega (arith, range.1)), both.1);
  more = λ c cs range each.
      and_from (is_digit c) (list_all is_digit cs)
      (digit_in c range.0 (omega (arith, range.1))) each;
}

folds : FoldsDigits (value_in 10)
unfolding value_in
folds = record {
  empty = λ n. refl;
  more = λ n c cs range.
      ap (λ (d : ℕ). value_in 10 (n * 10 + d) cs)
      (low_digit c range.0 (omega (arith, range.1)));
}

own : IsNumeralModel (EachIs (is_digit_in 10)) (value_in 10 0)
own = numerals_by_fold (EachIs (is_digit_in 10)) digits_model (value_in 10) folds

some_digits : (ds : List ℕ) → 0 < length ds → IsNonEmpty ds
some_digits [] some = absurd (omega (arith, some))
some_digits (d ∷ ds) some = tt

decimal_digits : (n : ℕ) → n < 2 ^ 64 → IsDigits 10 (decimal n)
decimal_digits n small =
    (some_digits (decimal n) (decimal_is_IsNumeral n small).0.0, digits_decimal own n small)

integer_is : (number : ℤ) → fits_integer number ≡ true → IsInteger (signed_decimal number) number
unfolding fits_integer
integer_is (pos n) fits =
    let small : n < 2 ^ 64 = omega (arith, ltb-true n (2 ^ 31) fits) in
    subst (λ (k : ℕ). IsInteger (decimal n) (pos k)) (digits_value-decimal own n small)
    (bare_integer (decimal_digits n small))
integer_is (negsuc n) fits =
    let small : suc n < 2 ^ 64 = omega (arith, ltb-true n (2 ^ 31) fits) in
    subst (λ (k : ℕ). IsInteger (45 ∷ decimal (suc n)) (neg_ℤ (pos k)))
    (digits_value-decimal own (suc n) small) (minus_integer (decimal_digits (suc n) small))

integer_regular : (number : ℤ) → fits_integer number ≡ true
    → EachIs is_regular (signed_decimal number)
unfolding fits_integer
integer_regular (pos n) fits =
    digits_regular (decimal n)
    (decimal_digits n (omega (arith, ltb-true n (2 ^ 31) fits))).1
integer_regular (negsuc n) fits =
    digits_regular (decimal (suc n))
    (decimal_digits (suc n) (omega (arith, ltb-true n (2 ^ 31) fits))).1

-- ---- the value: a string

hex_low : (n : ℕ) → n < 10 → hex_digit n ≡ 48 + n
hex_low n low = cond-true (nat_lt n 10) _ _ (lt-ltb n 10 low)

hex_high : (n : ℕ) → 10 ≤ n → hex_digit n ≡ 87 + n
hex_high n high = cond-false (nat_lt n 10) _ _ (le-ltb n 10 high)

hex_back : (n : ℕ) → n < 16 → digit_of (hex_digit n) ≡ n
hex_back n small = elim (cases_lt n 10) [
  | inl low ↦ ap digit_of (hex_low n low) ∙ low_digit (48 + n) (omega arith) (omega (arith, low))
      ∙ omega arith
  | inr high ↦ ap digit_of (hex_high n high)
      ∙ high_digit (87 + n) (omega (arith, high)) (omega (arith, small)) ∙ omega arith
]

hex_is : (n : ℕ) → n < 16 → is_hex (hex_digit n) ≡ true
hex_is n small = ap (λ (d : ℕ). nat_lt d 16) (hex_back n small) ∙ lt-ltb n 16 small

hex_each : (bytes : List ℕ) → AllByRecursion (λ b. b < 2 ^ 8) bytes
    → EachIs is_hex_or_white (hex_text bytes)
hex_each [] all = refl
hex_each (b ∷ bs) all =
    let high : b / 16 < 16 = omega (arith, all.0) in
    let low : b % 16 < 16 = omega arith in
    rw (hex_is (b / 16) high, hex_is (b % 16) low) (hex_each bs all.1)

hex_filter : (bytes : List ℕ) → AllByRecursion (λ b. b < 2 ^ 8) bytes
    → filter is_hex (hex_text bytes) ≡ hex_text bytes
hex_filter [] all = refl
hex_filter (b ∷ bs) all =
    let high : b / 16 < 16 = omega (arith, all.0) in
    let low : b % 16 < 16 = omega arith in
    rw (hex_is (b / 16) high, hex_is (b % 16) low)
    (ap (λ (ds : List ℕ). hex_digit (b / 16) ∷ hex_digit (b % 16) ∷ ds) (hex_filter bs all.1))

hex_pairs : (bytes : List ℕ) → AllByRecursion (λ b. b < 2 ^ 8) bytes
    → pairs (hex_text bytes) ≡ bytes
unfolding pairs
hex_pairs [] all = refl
hex_pairs (b ∷ bs) all =
    let high = hex_back (b / 16) (omega (arith, all.0)) in
    let low = hex_back (b % 16) (omega arith) in
    let whole : digit_of (hex_digit (b / 16)) * 16 + digit_of (hex_digit (b % 16)) ≡ b =
    omega (arith, high, low) in
    λ i. whole i ∷ hex_pairs bs all.1 i

hex_first : (bytes more : List ℕ) → AllByRecursion (λ b. b < 2 ^ 8) bytes
    → after_hex_start (hex_text bytes ++ 62 ∷ more)
    ≡ hex_reading (leading is_hex_or_white (hex_text bytes ++ 62 ∷ more))
    (beyond is_hex_or_white (hex_text bytes ++ 62 ∷ more))
unfolding after_hex_start
hex_first [] more all = refl
hex_first (b ∷ bs) more all =
    let angle : (hex_digit (b / 16) == 60) ≡ false = ne_eqb (hex_digit (b / 16)) 60
    (λ e. false≢true (ap is_hex (sym e) ∙ hex_is (b / 16) (omega (arith, all.0)))) in
    rw (angle, after_hex_start) refl

string_read : (bytes more : List ℕ) → AllByRecursion (λ b. b < 2 ^ 8) bytes
    → length bytes ≤ sequence_limit
    → token_here nesting_limit 60 (hex_text bytes ++ 62 ∷ more)
    ≡ token_then (string_token bytes) more
unfolding simple_by start_of hex_reading sized_string
string_read bytes more all short =
    simple_here 60 (hex_text bytes ++ 62 ∷ more) refl
    ∙ hex_first bytes more all
    ∙ (λ i. hex_reading
    (leading_front is_hex_or_white (hex_text bytes) (62 ∷ more) (hex_each bytes all) refl i)
    (beyond_front is_hex_or_white (hex_text bytes) (62 ∷ more) (hex_each bytes all) refl i))
    ∙ ap (λ (ds : List ℕ). sized_string (pairs ds) more) (hex_filter bytes all)
    ∙ ap (λ (text : List ℕ). sized_string text more) (hex_pairs bytes all)
    ∙ cond-true (nat_le (length bytes) sequence_limit) _ _
    (le-leb (length bytes) sequence_limit short)

-- ---- the value

true_word : word_of (codes "true") ≡ name_word
unfolding word_of word_by unsigned leading beyond is_real_tail
true_word = refl

false_word : word_of (codes "false") ≡ name_word
unfolding word_of word_by unsigned leading beyond is_real_tail
false_word = refl

def_word : word_of (codes "def") ≡ name_word
unfolding word_of word_by unsigned leading beyond is_real_tail
def_word = refl

signed_some : (number : ℤ) → fits_integer number ≡ true → IsNonEmpty (signed_decimal number)
unfolding fits_integer
signed_some (pos n) fits =
    (decimal_digits n (omega (arith, ltb-true n (2 ^ 31) fits))).0
signed_some (negsuc n) fits = tt

value_read : (value : DefinedValue) (more : List ℕ) → IsDefinable value → FitsLimit value
    → scan (32 ∷ (value_text value ++ 32 ∷ more)) 0
    ≡ found (value_token value)
    (length (32 ∷ (value_text value ++ 32 ∷ more)) - length (32 ∷ more))
unfolding word_of sized_name word_reading
value_read (Integer number) more fits short =
    run_scan (signed_decimal number) (32 ∷ more) (integer_word number) (number_token number)
    (signed_some number fits) (integer_regular number fits) refl
    (integer_complete (signed_decimal number) number (integer_is number fits))
    (cond-true (fits_integer number) _ _ fits)
value_read (Boolean true) more fits short =
    run_scan (codes "true") (32 ∷ more) name_word (executable_name_token (codes "true")) tt refl
    refl true_word refl
value_read (Boolean false) more fits short =
    run_scan (codes "false") (32 ∷ more) name_word (executable_name_token (codes "false")) tt refl
    refl false_word refl
value_read (Text bytes) more all short =
    let text : List ℕ = hex_text bytes.now in
    let joined : (60 ∷ (text ++ 62 ∷ [])) ++ 32 ∷ more ≡ 60 ∷ (text ++ 62 ∷ 32 ∷ more) =
    ap (λ (t : List ℕ). 60 ∷ t) (append_assoc text (62 ∷ []) (32 ∷ more)) in
    subst (λ (t : List ℕ). scan (32 ∷ t) 0
    ≡ found (string_token bytes.now) (length (32 ∷ t) - length (32 ∷ more))) (sym joined)
    (spaced_scan 60 (text ++ 62 ∷ 32 ∷ more) (32 ∷ more) (string_token bytes.now) refl refl
    (string_read bytes.now (32 ∷ more) all short))

-- ---- all of it

next_at : (whole front text after : List ℕ) (token : Token) → front ++ text ≡ whole
    → scan text 0 ≡ found token (length text - length after) → length after ≤ length text
    → scan whole (length front) ≡ found token (length whole - length after)
next_at whole front text after token same is fits =
    subst (λ (w : List ℕ). scan w (length front) ≡ found token (length w - length after)) same
    (scan_there front text after token is fits)

before : (whole front text : List ℕ) → front ++ text ≡ whole
    → length whole - length text ≡ length front
before whole front text same =
    let long = ap {B = ℕ} length same in omega (arith, long, length-append front text)

pub definition_read : (front rest name : List ℕ) (value : DefinedValue) → IsNameText name
    → IsDefinable value → FitsLimit value
    → HasTokens (front ++ (definition_text name value ++ rest)) (length front)
    (literal_name_token name ∷ value_token value ∷ executable_name_token (codes "def") ∷ [])
    (length front + (length (definition_text name value) - 1))
unfolding word_of sized_name word_reading
definition_read front rest name value is definable fits =
    let third : List ℕ = 32 ∷ (codes "def" ++ 10 ∷ rest) in
    let second : List ℕ = 32 ∷ (value_text value ++ third) in
    let first : List ℕ = 47 ∷ (name ++ second) in
    let text : List ℕ = definition_text name value in
    let whole : List ℕ = front ++ (text ++ rest) in
    let joined : text ++ rest ≡ first =
    ap (λ (t : List ℕ). 47 ∷ t) (append_assoc name (32 ∷ (value_text value ++ codes " def\n")) rest)
    ∙ ap (λ (t : List ℕ). 47 ∷ (name ++ 32 ∷ t))
    (append_assoc (value_text value) (codes " def\n") rest) in
    let one : front ++ first ≡ whole = ap (λ (t : List ℕ). front ++ t) (sym joined) in
    let two : (front ++ 47 ∷ name) ++ second ≡ whole =
    append_assoc front (47 ∷ name) second ∙ one in
    let three : ((front ++ 47 ∷ name) ++ 32 ∷ value_text value) ++ third ≡ whole =
    append_assoc (front ++ 47 ∷ name) (32 ∷ value_text value) third ∙ two in
    let name_long = length-append name second in
    let value_long = length-append (value_text value) third in
    let at_value = ap (scan whole) (before whole (front ++ 47 ∷ name) second two)
    ∙ next_at whole (front ++ 47 ∷ name) second third (value_token value) two
    (value_read value (codes "def" ++ 10 ∷ rest) definable fits) (omega (arith, value_long)) in
    let behind : List ℕ = (front ++ 47 ∷ name) ++ 32 ∷ value_text value in
    let at_def = ap (scan whole) (before whole behind third three)
    ∙ next_at whole behind third (10 ∷ rest) (executable_name_token (codes "def")) three
    (run_scan (codes "def") (10 ∷ rest) name_word (executable_name_token (codes "def")) tt refl
    refl def_word refl) (omega arith) in (
      length whole - length second,
      next_at whole front first second (literal_name_token name) one
          (first_scan 47 (name ++ second) second (literal_name_token name) refl refl
          (name_read name (value_text value ++ third) is)) (omega (arith, name_long)),
      (
        length whole - length third,
        at_value,
        (
          length whole - length (10 ∷ rest),
          at_def,
          ending (name ++ 32 ∷ (value_text value ++ codes " def\n")),
        ),
      ),
    )
  where
    ending : (behind : List ℕ)
        → length (front ++ ((47 ∷ behind) ++ rest)) - length (10 ∷ rest)
        ≡ length front + (length (47 ∷ behind) - 1)
    ending behind =
        omega (arith, length-append front ((47 ∷ behind) ++ rest), length-append behind rest)

-- Runs of regular bytes by their first byte, and the numbers that fit.
use Rattle.std.proofs.Common.{◌≡◌, refl, sym, ap, ◌∙◌, ℕ, suc, zero, ◌+◌, ◌-◌, ◌<◌, ◌≤◌, ◌^◌, ℤ, pos, negsuc, neg_ℤ}
use Rattle.std.proofs.Common.{◌≤ℤ◌, ◌<ℤ◌, Bool, true, false, not, ◌&&◌, ◌||◌, List, [], ◌∷◌, length, drop, take, get_or}
use Rattle.std.proofs.Common.{arith, nat_le, nat_eq, ◌⊎◌, to_z, w32, if◌then◌else◌}
use Rattle.std.proofs.lemmas.Bool.{lt-ltb, le-ltb, eq-eqb, ne_eqb, cases_lt, cases_eq, le-leb, lt-leb, cond-true}
use Rattle.std.proofs.lemmas.Bool.{cond-false}
use Rattle.std.proofs.lemmas.Int.{ints}
use Rattle.std.proofs.lemmas.List.{length-append, length-drop, take_all}
use Rattle.std.specs.List.{list_all}
use Rattle.std.proofs.Common.{inl, inr}
use Rattle.ps_language.specs.Bytes.{is_digit, is_digit_in, is_sign, is_exponent_mark, value_in}
use Rattle.ps_language.specs.Reading.{fits_integer, as_signed, integer_word, radix_word, real_word, name_word}
use Rattle.ps_language.specs.Scan.{is_empty, unsigned, is_signed, is_negative, signed_value, are_digits, is_exponent}
use Rattle.ps_language.specs.Scan.{is_real_tail, are_radix_digits, leading, beyond, word_by, word_of}
use Rattle.ps_language.proofs.Words.{unsigned_true, unsigned_false}
use Rattle.ps_language.proofs.Places.{leading_slice}
use Rattle.ps_language.proofs.Spans.{leading_false, beyond_false, front_beyond}

-- the first byte of a run
abbrev pub first_of : List ℕ → ℕ
first_of xs = get_or xs 0 0

-- all that is left from a place on
pub tail_is : (xs : List ℕ) (i : ℕ) → take (length xs - i) (drop i xs) ≡ drop i xs
tail_is xs i = ap (λ n. take n (drop i xs)) (sym (length-drop i xs))
    ∙ take_all (length (drop i xs)) (drop i xs) (omega arith)

-- ---- signs

pub is_empty_at : (xs : List ℕ) → is_empty xs ≡ nat_eq (length xs) 0
is_empty_at [] = refl
is_empty_at (b ∷ bs) = sym (ne_eqb (length (b ∷ bs)) 0 (λ e. omega (arith, e)))

pub unsigned_none : (xs : List ℕ) → length xs ≡ 0 → unsigned xs ≡ xs
unfolding unsigned
unsigned_none [] e = refl
unsigned_none (b ∷ bs) e = absurd (omega (arith, e))

pub unsigned_on : (xs : List ℕ) → 0 < length xs → is_sign (first_of xs) ≡ true → unsigned xs ≡ drop 1 xs
unsigned_on [] h e = absurd (omega (arith, h))
unsigned_on (b ∷ bs) h e = unsigned_true b bs e

pub unsigned_off : (xs : List ℕ) → is_sign (first_of xs) ≡ false → unsigned xs ≡ xs
unfolding unsigned
unsigned_off [] e = refl
unsigned_off (b ∷ bs) e = unsigned_false b bs e

pub signed_first : (xs : List ℕ) → 0 < length xs → is_signed xs ≡ is_sign (first_of xs)
unfolding is_signed
signed_first [] h = absurd (omega (arith, h))
signed_first (b ∷ bs) h = refl

pub negative_first : (xs : List ℕ) → 0 < length xs → is_negative xs ≡ nat_eq (first_of xs) 45
unfolding is_negative
negative_first [] h = absurd (omega (arith, h))
negative_first (b ∷ bs) h = refl

-- ---- reals

pub are_digits_at : (xs : List ℕ) → are_digits xs ≡ (not (nat_eq (length xs) 0) && list_all is_digit xs)
unfolding are_digits
are_digits_at xs = ap (λ b. not b && list_all is_digit xs) (is_empty_at xs)

pub exponent_none : (xs : List ℕ) → length xs ≡ 0 → is_exponent xs ≡ false
unfolding is_exponent
exponent_none [] e = refl
exponent_none (b ∷ bs) e = absurd (omega (arith, e))

pub exponent_at : (xs : List ℕ) → 0 < length xs
    → is_exponent xs ≡ (is_exponent_mark (first_of xs) && are_digits (unsigned (drop 1 xs)))
unfolding is_exponent
exponent_at [] h = absurd (omega (arith, h))
exponent_at (b ∷ bs) h = refl

pub real_none : (has : Bool) (xs : List ℕ) → length xs ≡ 0 → is_real_tail has xs ≡ false
unfolding is_real_tail
real_none has [] e = refl
real_none has (b ∷ bs) e = absurd (omega (arith, e))

pub real_exponent : (has : Bool) (xs : List ℕ) → (first_of xs ≡ 46 → ⊥) → is_real_tail has xs ≡ (has && is_exponent xs)
unfolding is_real_tail is_exponent
real_exponent true [] n = refl
real_exponent false [] n = refl
real_exponent has (b ∷ bs) n = rw (ne_eqb b 46 n, is_real_tail) refl

pub real_point : (has : Bool) (xs : List ℕ) → 0 < length xs → first_of xs ≡ 46
    → is_real_tail has xs
    ≡ ((has || not (is_empty (leading is_digit (drop 1 xs))))
    && (is_empty (beyond is_digit (drop 1 xs)) || is_exponent (beyond is_digit (drop 1 xs))))
unfolding is_real_tail
real_point has [] h e = absurd (omega (arith, h))
real_point has (b ∷ bs) h e = rw (eq-eqb b 46 e, is_real_tail) refl

-- the digits in front are none where their end is the beginning
pub leading_empty : (xs : List ℕ) (end : ℕ) → drop end xs ≡ beyond is_digit xs → end ≤ length xs
    → is_empty (leading is_digit xs) ≡ nat_eq end 0
leading_empty xs end e h = is_empty_at (leading is_digit xs) ∙ ap (λ n. nat_eq n 0)
    (size (sym (length-append (leading is_digit xs) (beyond is_digit xs))
    ∙ ap length (front_beyond is_digit xs)) (ap length (sym e) ∙ length-drop end xs))
  where
    size : length (leading is_digit xs) + length (beyond is_digit xs) ≡ length xs
        → length (beyond is_digit xs) ≡ length xs - end → length (leading is_digit xs) ≡ end
    size f g = omega (arith, f, g, h)

-- a point, and the fraction behind it whose digits end at a place
pub real_fraction : (has : Bool) (xs fraction : List ℕ) (end : ℕ) → 0 < length xs → first_of xs ≡ 46
    → fraction ≡ drop 1 xs → drop end fraction ≡ beyond is_digit fraction → end ≤ length fraction
    → is_real_tail has xs
    ≡ ((has || not (nat_eq end 0)) && (is_empty (drop end fraction) || is_exponent (drop end fraction)))
real_fraction has xs fraction end h e f g low = real_point has xs h e
    ∙ ap (λ t. (has || not (is_empty (leading is_digit t)))
    && (is_empty (beyond is_digit t) || is_exponent (beyond is_digit t))) (sym f)
    ∙ ap (λ b. (has || not b) && (is_empty (beyond is_digit fraction) || is_exponent (beyond is_digit fraction)))
    (leading_empty fraction end g low)
    ∙ ap (λ t. (has || not (nat_eq end 0)) && (is_empty t || is_exponent t)) (sym g)

pub real_no_fraction : (has : Bool) (xs fraction : List ℕ) (end : ℕ) → 0 < length xs → first_of xs ≡ 46
    → fraction ≡ drop 1 xs → drop end fraction ≡ beyond is_digit fraction → end ≤ length fraction → end ≡ 0
    → is_real_tail has xs ≡ (has && (is_empty fraction || is_exponent fraction))
real_no_fraction has xs fraction end h e f g low z = real_fraction has xs fraction end h e f g low ∙ rw z (or-false has)
  where
    or-false : (b : Bool)
        → ((b || false) && (is_empty fraction || is_exponent fraction))
        ≡ (b && (is_empty fraction || is_exponent fraction))
    or-false true = refl
    or-false false = refl

pub real_some_fraction : (has : Bool) (xs fraction : List ℕ) (end : ℕ) → 0 < length xs → first_of xs ≡ 46
    → fraction ≡ drop 1 xs → drop end fraction ≡ beyond is_digit fraction → end ≤ length fraction → (end ≡ 0 → ⊥)
    → is_real_tail has xs ≡ (is_empty (drop end fraction) || is_exponent (drop end fraction))
real_some_fraction has xs fraction end h e f g low n = real_fraction has xs fraction end h e f g low
    ∙ rw (ne_eqb end 0 n) (or-true has)
  where
    or-true : (b : Bool) → ((b || true) && (is_empty (drop end fraction) || is_exponent (drop end fraction)))
        ≡ (is_empty (drop end fraction) || is_exponent (drop end fraction))
    or-true true = refl
    or-true false = refl

-- ---- words

pub word_end : (run whole tail : List ℕ) → length tail ≡ 0
    → word_by run whole tail
    ≡ (if is_empty whole then name_word else integer_word (signed_value (is_negative run) (value_in 10 0 whole)))
unfolding word_by
word_end run whole [] e = refl
word_end run whole (b ∷ bs) e = absurd (omega (arith, e))

pub word_radix : (run whole tail : List ℕ) → 0 < length tail → first_of tail ≡ 35
    → word_by run whole tail ≡ (if not (is_signed run) && are_radix_digits (value_in 10 0 whole) (drop 1 tail)
    then radix_word (value_in (value_in 10 0 whole) 0 (drop 1 tail)) else name_word)
unfolding word_by
word_radix run whole [] h e = absurd (omega (arith, h))
word_radix run whole (b ∷ bs) h e = rw (eq-eqb b 35 e, word_by) refl

pub word_real : (run whole tail : List ℕ) → 0 < length tail → (first_of tail ≡ 35 → ⊥)
    → word_by run whole tail ≡ (if is_real_tail (not (is_empty whole)) tail then real_word else name_word)
unfolding word_by
word_real run whole [] h n = absurd (omega (arith, h))
word_real run whole (b ∷ bs) h n = rw (ne_eqb b 35 n, word_by) refl

-- nothing behind the digits: a name where there is no digit, else an integer
pub word_no_digits : (run whole tail : List ℕ) → length tail ≡ 0 → nat_eq (length whole) 0 ≡ true
    → word_by run whole tail ≡ name_word
word_no_digits run whole tail h e = word_end run whole tail h ∙ cond-true _ _ _ (is_empty_at whole ∙ e)

pub word_integer : (run whole tail : List ℕ) → 0 < length run → length tail ≡ 0 → nat_eq (length whole) 0 ≡ false
    → word_by run whole tail ≡ integer_word (signed_value (nat_eq (first_of run) 45) (value_in 10 0 whole))
word_integer run whole tail some h e = word_end run whole tail h ∙ cond-false _ _ _ (is_empty_at whole ∙ e)
    ∙ ap (λ b. integer_word (signed_value b (value_in 10 0 whole))) (negative_first run some)

-- # behind them: a name where a sign stands in front, else perhaps a radix number
pub word_signed_radix : (run whole tail : List ℕ) → 0 < length run → is_sign (first_of run) ≡ true → 0 < length tail
    → first_of tail ≡ 35 → word_by run whole tail ≡ name_word
word_signed_radix run whole tail some s h e = word_radix run whole tail h e
    ∙ ap (λ b. if not b && are_radix_digits (value_in 10 0 whole) (drop 1 tail)
    then radix_word (value_in (value_in 10 0 whole) 0 (drop 1 tail)) else name_word) (signed_first run some ∙ s)

pub word_unsigned_radix : (run whole tail : List ℕ) → 0 < length run → is_sign (first_of run) ≡ false → 0 < length tail
    → first_of tail ≡ 35
    → word_by run whole tail ≡ (if are_radix_digits (value_in 10 0 whole) (drop 1 tail)
    then radix_word (value_in (value_in 10 0 whole) 0 (drop 1 tail)) else name_word)
word_unsigned_radix run whole tail some s h e = word_radix run whole tail h e
    ∙ ap (λ b. if not b && are_radix_digits (value_in 10 0 whole) (drop 1 tail)
    then radix_word (value_in (value_in 10 0 whole) 0 (drop 1 tail)) else name_word) (signed_first run some ∙ s)

-- anything else behind them: a real or a name
pub word_by_real : (run whole tail : List ℕ) (has is_real : Bool) → 0 < length tail → (first_of tail ≡ 35 → ⊥)
    → has ≡ not (nat_eq (length whole) 0) → is_real_tail has tail ≡ is_real
    → word_by run whole tail ≡ (if is_real then real_word else name_word)
word_by_real run whole tail has is_real h n e f = word_real run whole tail h n
    ∙ ap (λ b. if b then real_word else name_word) (ap (λ b. is_real_tail b tail) (ap not (is_empty_at whole) ∙ sym e)
    ∙ f)

-- the word by the digits behind the sign
pub word_split : (run digits : List ℕ) (end : ℕ) → digits ≡ unsigned run → drop end digits ≡ beyond is_digit digits
    → end ≤ length digits → word_of run ≡ word_by run (take end digits) (drop end digits)
unfolding word_of
word_split run digits end e f h = ap (λ u. word_by run (leading is_digit u) (beyond is_digit u)) (sym e)
    ∙ ap (λ w. word_by run w (beyond is_digit digits)) (leading_slice is_digit digits 0 end (sym f) (omega arith) h
    ∙ ap (λ n. take n digits) whole) ∙ ap (word_by run (take end digits)) (sym f)
  where
    whole : end - 0 ≡ end
    whole = omega arith

-- a run that begins with no digit, no sign and no point is a name
pub word_name : (run : List ℕ) → is_digit (first_of run) ≡ false → is_sign (first_of run) ≡ false
    → (first_of run ≡ 46 → ⊥) → word_of run ≡ name_word
unfolding word_of word_by leading beyond are_radix_digits value_in
word_name run d s p = ap (λ u. word_by run (leading is_digit u) (beyond is_digit u)) (unsigned_off run s)
    ∙ no_word run d p
  where
    no_word : (xs : List ℕ) → is_digit (first_of xs) ≡ false → (first_of xs ≡ 46 → ⊥)
        → word_by run (leading is_digit xs) (beyond is_digit xs) ≡ name_word
    no_word [] e n = refl
    no_word (b ∷ bs) e n = rw (leading_false is_digit b bs e, beyond_false is_digit b bs e) (other (cases_eq b 35))
      where
        other : (b ≡ 35) ⊎ (b ≡ 35 → ⊥) → word_by run [] (b ∷ bs) ≡ name_word
        other (inl f) = rw f (hash (not (is_signed run)))
          where
            hash : (t : Bool)
                → (if t && are_radix_digits 0 bs then radix_word (value_in 0 0 bs) else name_word) ≡ name_word
            hash true = refl
            hash false = refl
        other (inr f) = word_real run [] (b ∷ bs) (omega arith) f ∙ rw (real_exponent false (b ∷ bs) n) refl

-- ---- numbers that fit

pub fits_low : (z : ℤ) → negsuc 2147483647 ≤ℤ z → z ≤ℤ pos 2147483647 → fits_integer z ≡ true
unfolding fits_integer
fits_low (pos n) low high = lt-ltb n (2 ^ 31) (omega (arith, ints, high))
fits_low (negsuc n) low high = lt-ltb n (2 ^ 31) (omega (arith, ints, low))

pub fits_past_high : (z : ℤ) → pos 2147483647 <ℤ z → fits_integer z ≡ false
unfolding fits_integer
fits_past_high (pos n) h = le-ltb n (2 ^ 31) (omega (arith, ints, h))
fits_past_high (negsuc n) h = absurd (omega (arith, ints, h))

pub fits_past_low : (z : ℤ) → z <ℤ negsuc 2147483647 → fits_integer z ≡ false
unfolding fits_integer
fits_past_low (pos n) h = absurd (omega (arith, ints, h))
fits_past_low (negsuc n) h = le-ltb n (2 ^ 31) (omega (arith, ints, h))

pub large_past : (is_negative : Bool) (n : ℕ) → 2 ^ 32 ≤ n → fits_integer (signed_value is_negative n) ≡ false
unfolding fits_integer signed_value
large_past false n h = le-ltb n (2 ^ 31) (omega (arith, h))
large_past true zero h = absurd (omega (arith, h))
large_past true (suc n) h = le-ltb n (2 ^ 31) (omega (arith, h))

pub signed_minus : (n : ℕ) → signed_value true n ≡ neg_ℤ (pos n)
unfolding signed_value
signed_minus n = refl

pub signed_plus : (n : ℕ) → signed_value false n ≡ pos n
unfolding signed_value
signed_plus n = refl

-- 32 bits as a signed number
pub signed_bits : (n : ℕ) → n < 2 ^ 32 → as_signed n ≡ to_z w32 n
unfolding as_signed
signed_bits n h = elim (cases_lt n (2 ^ 31)) [
  | inl e ↦ rw (lt-ltb n (2 ^ 31) e) refl
  | inr e ↦ rw (le-ltb n (2 ^ 31) e) (minus (4294967296 - n) (4294967296 - suc n) (omega (arith, h)))
]
  where
    minus : (a b : ℕ) → a ≡ suc b → neg_ℤ (pos a) ≡ negsuc b
    minus a b f = rw f refl

-- ---- radix numbers

pub radix_low : (base : ℕ) (digits : List ℕ) → base < 2 → are_radix_digits base digits ≡ false
unfolding are_radix_digits
radix_low base digits h = rw (lt-leb 2 base h) refl

pub radix_high : (base : ℕ) (digits : List ℕ) → 36 < base → are_radix_digits base digits ≡ false
unfolding are_radix_digits
radix_high base digits h = rw (lt-leb base 36 h) (none (nat_le 2 base))
  where
    none : (t : Bool) → (t && false && not (is_empty digits) && list_all (is_digit_in base) digits) ≡ false
    none true = refl
    none false = refl

pub radix_within : (base : ℕ) (digits : List ℕ) → 2 ≤ base → base ≤ 36
    → are_radix_digits base digits ≡ (not (nat_eq (length digits) 0) && list_all (is_digit_in base) digits)
unfolding are_radix_digits
radix_within base digits low high =
    rw (le-leb 2 base low, le-leb base 36 high) (ap (λ b. not b && list_all (is_digit_in base) digits)
    (is_empty_at digits))

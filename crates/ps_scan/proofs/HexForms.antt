-- Hexadecimal strings by their places.
use Rattle.std.proofs.Common.{◌≡◌, refl, sym, ap, ◌∙◌, subst, ℕ, zero, suc, ◌+◌, ◌*◌, ◌/◌, ◌%◌, ◌<◌, ◌≤◌, true, false}
use Rattle.std.proofs.Common.{List, [], ◌∷◌, ◌++◌, length, take, drop, filter, arith, Option, Some, None}
use Rattle.std.specs.Prelude.{◌==◌, slice_set}
use Rattle.std.specs.List.{slice_range}
use Rattle.std.proofs.lemmas.Bool.{or_left, or_right, or_from, ne_eqb, eq-eqb}
use Rattle.std.proofs.lemmas.List.{at_drop_more, at_drop_all, append_assoc, append-nil}
use Rattle.ps_language.specs.Bytes.{is_hex, is_hex_or_white, is_white, digit_of}
use Rattle.ps_language.specs.Token.{executable_name_token, syntax_fault}
use Rattle.ps_language.specs.Reading.{token_then, stuck, pairs, sized_string}
use Rattle.ps_language.specs.Scan.{leading, beyond, hex_reading, after_hex_start}
use Rattle.ps_language.proofs.Places.{byte_at, leading_on, leading_off, leading_slice, beyond_on}
use Rattle.ps_scan.proofs.Pairs.{pairs_behind}

-- ---- digits one by one

pub hex_on : (xs : List ℕ) (i : ℕ) → i < length xs → is_hex (byte_at xs i) ≡ true
    → filter is_hex (drop i xs) ≡ byte_at xs i ∷ filter is_hex (drop (i + 1) xs)
hex_on xs i below e = at_drop_more (filter is_hex) xs i 0 below ∙ keep (byte_at xs i) (drop (i + 1) xs) e
  where
    keep : (b : ℕ) (bs : List ℕ) → is_hex b ≡ true → filter is_hex (b ∷ bs) ≡ b ∷ filter is_hex bs
    keep b bs h = rw h refl

pub hex_off : (xs : List ℕ) (i : ℕ) → i < length xs → is_hex (byte_at xs i) ≡ false
    → filter is_hex (drop i xs) ≡ filter is_hex (drop (i + 1) xs)
hex_off xs i below e = at_drop_more (filter is_hex) xs i 0 below ∙ leave (byte_at xs i) (drop (i + 1) xs) e
  where
    leave : (b : ℕ) (bs : List ℕ) → is_hex b ≡ false → filter is_hex (b ∷ bs) ≡ filter is_hex bs
    leave b bs h = rw h refl

pub pairs_first : (b : ℕ) (digits : List ℕ) → pairs (b ∷ digits) ≡ pairs_behind (Some (digit_of b)) digits
unfolding pairs
pairs_first b [] = refl
pairs_first b (low ∷ digits) = refl

pub pairs_none : pairs_behind None [] ≡ []
unfolding pairs
pairs_none = refl

-- a digit as a high half, and as a low one
pub high_half : (items : List ℕ) (xs : List ℕ) (i digit : ℕ) → i < length xs → digit ≡ digit_of (byte_at xs i)
    → is_hex (byte_at xs i) ≡ true
    → items ++ pairs_behind (Some digit) (filter is_hex (drop (i + 1) xs))
    ≡ items ++ pairs_behind None (filter is_hex (drop i xs))
high_half items xs i digit below d e =
    ap (λ t. items ++ t) (ap (λ n. pairs_behind (Some n) (filter is_hex (drop (i + 1) xs))) d
    ∙ sym (pairs_first (byte_at xs i) (filter is_hex (drop (i + 1) xs))) ∙ ap pairs (sym (hex_on xs i below e)))

pub low_half : (items more : List ℕ) (xs : List ℕ) (i high digit : ℕ) → i < length xs → digit ≡ digit_of (byte_at xs i)
    → is_hex (byte_at xs i) ≡ true → more ≡ items ++ (high * 16 + digit) ∷ []
    → more ++ pairs_behind None (filter is_hex (drop (i + 1) xs))
    ≡ items ++ pairs_behind (Some high) (filter is_hex (drop i xs))
low_half items more xs i high digit below d e m = ap (λ t. t ++ pairs (filter is_hex (drop (i + 1) xs))) m
    ∙ append_assoc items ((high * 16 + digit) ∷ []) (pairs (filter is_hex (drop (i + 1) xs)))
    ∙ ap (λ n. items ++ (high * 16 + n) ∷ pairs (filter is_hex (drop (i + 1) xs))) d
    ∙ ap (λ t. items ++ pairs_behind (Some high) t) (sym (hex_on xs i below e))

pub no_half : (items : List ℕ) (high : Option ℕ) (xs : List ℕ) (i : ℕ) → i < length xs → is_hex (byte_at xs i) ≡ false
    → items ++ pairs_behind high (filter is_hex (drop (i + 1) xs))
    ≡ items ++ pairs_behind high (filter is_hex (drop i xs))
no_half items high xs i below e = ap (λ t. items ++ pairs_behind high t) (sym (hex_off xs i below e))

pub last_half : (items more : List ℕ) (xs : List ℕ) (i high : ℕ) → length xs ≤ i → more ≡ items ++ (high * 16) ∷ []
    → more ≡ items ++ pairs_behind (Some high) (filter is_hex (drop i xs))
last_half items more xs i high above m = m
    ∙ ap (λ t. items ++ pairs_behind (Some high) t) (sym (at_drop_all (filter is_hex) xs i above))

pub no_last : (items : List ℕ) (xs : List ℕ) (i : ℕ) → length xs ≤ i
    → items ≡ items ++ pairs_behind None (filter is_hex (drop i xs))
unfolding pairs
no_last items xs i above = sym (append-nil items)
    ∙ ap (λ t. items ++ pairs_behind None t) (sym (at_drop_all (filter is_hex) xs i above))

-- ---- the digits and the white space between them

pub hex_or_white_digit : (b : ℕ) → is_hex b ≡ true → is_hex_or_white b ≡ true
hex_or_white_digit b e = or_left (is_hex b) (is_white b) e

pub hex_or_white_white : (b : ℕ) → is_white b ≡ true → is_hex_or_white b ≡ true
hex_or_white_white b e = or_right (is_hex b) (is_white b) e

pub hex_or_white_none : (b : ℕ) → is_hex b ≡ false → is_white b ≡ false → is_hex_or_white b ≡ false
hex_or_white_none b e f = or_from (is_hex b) (is_white b) e f

-- the digits from a place on
abbrev pub digits_from : List ℕ → ℕ → ℕ
digits_from xs i = length (filter is_hex (leading is_hex_or_white (drop i xs)))

keep_digit : (b : ℕ) (bs : List ℕ) → is_hex b ≡ true → length (filter is_hex (b ∷ bs)) ≡ 1 + length (filter is_hex bs)
keep_digit b bs h = rw h (omega arith)

leave_white : (b : ℕ) (bs : List ℕ) → is_hex b ≡ false → length (filter is_hex (b ∷ bs)) ≡ length (filter is_hex bs)
leave_white b bs h = rw h refl

pub digits_on : (xs : List ℕ) (i : ℕ) → i < length xs → is_hex (byte_at xs i) ≡ true
    → digits_from xs i ≡ 1 + digits_from xs (i + 1)
digits_on xs i below e =
    ap (λ t. length (filter is_hex t)) (leading_on is_hex_or_white xs i below (hex_or_white_digit (byte_at xs i) e))
    ∙ keep_digit (byte_at xs i) (leading is_hex_or_white (drop (i + 1) xs)) e

pub digits_white : (xs : List ℕ) (i : ℕ) → i < length xs → is_hex (byte_at xs i) ≡ false
    → is_white (byte_at xs i) ≡ true → digits_from xs i ≡ digits_from xs (i + 1)
digits_white xs i below e f =
    ap (λ t. length (filter is_hex t)) (leading_on is_hex_or_white xs i below (hex_or_white_white (byte_at xs i) f))
    ∙ leave_white (byte_at xs i) (leading is_hex_or_white (drop (i + 1) xs)) e

pub digits_off : (xs : List ℕ) (i : ℕ) → i < length xs → is_hex (byte_at xs i) ≡ false → is_white (byte_at xs i) ≡ false
    → digits_from xs i ≡ 0
digits_off xs i below e f =
    ap (λ t. length (filter is_hex t)) (leading_off is_hex_or_white xs i below (hex_or_white_none (byte_at xs i) e f))

pub digits_end : (xs : List ℕ) (i : ℕ) → length xs ≤ i → digits_from xs i ≡ 0
unfolding leading
digits_end xs i above = at_drop_all (λ t. length (filter is_hex (leading is_hex_or_white t))) xs i above

-- two digits a byte, and one for an odd last one
pub length-pairs : (digits : List ℕ) → length (pairs digits) ≡ length digits / 2 + length digits % 2
unfolding pairs
length-pairs [] = refl
length-pairs (high ∷ []) = refl
length-pairs (high ∷ low ∷ digits) = omega (arith, length-pairs digits)

-- ---- the token

pub angle_end : (xs : List ℕ) (i : ℕ) → length xs ≤ i → after_hex_start (drop i xs) ≡ stuck syntax_fault
unfolding after_hex_start
angle_end xs i above = at_drop_all after_hex_start xs i above

pub angle_angle : (xs : List ℕ) (i : ℕ) → i < length xs → byte_at xs i ≡ 60
    → after_hex_start (drop i xs) ≡ token_then (executable_name_token (60 ∷ 60 ∷ [])) (drop (i + 1) xs)
unfolding after_hex_start
angle_angle xs i below e = at_drop_more after_hex_start xs i 0 below ∙ ap (λ b. after_hex_start (b ∷ drop (i + 1) xs)) e

pub angle_hex : (xs : List ℕ) (i : ℕ) → i < length xs → (byte_at xs i ≡ 60 → ⊥)
    → after_hex_start (drop i xs)
    ≡ hex_reading (leading is_hex_or_white (drop i xs)) (beyond is_hex_or_white (drop i xs))
unfolding after_hex_start
angle_hex xs i below n = at_drop_more after_hex_start xs i 0 below
    ∙ other (byte_at xs i) (drop (i + 1) xs) (ne_eqb (byte_at xs i) 60 n)
    ∙ sym (at_drop_more (λ t. hex_reading (leading is_hex_or_white t) (beyond is_hex_or_white t)) xs i 0 below)
  where
    other : (b : ℕ) (bs : List ℕ) → (b == 60) ≡ false
        → after_hex_start (b ∷ bs) ≡ hex_reading (leading is_hex_or_white (b ∷ bs)) (beyond is_hex_or_white (b ∷ bs))
    other b bs e = rw (e, after_hex_start) refl

pub hex_unfinished : (inner xs : List ℕ) (i : ℕ) → length xs ≤ i → hex_reading inner (drop i xs) ≡ stuck syntax_fault
unfolding hex_reading
hex_unfinished inner xs i above = at_drop_all (hex_reading inner) xs i above

pub hex_broken : (inner xs : List ℕ) (i : ℕ) → i < length xs → (byte_at xs i ≡ 62 → ⊥)
    → hex_reading inner (drop i xs) ≡ stuck syntax_fault
unfolding hex_reading
hex_broken inner xs i below n = at_drop_more (hex_reading inner) xs i 0 below ∙ rw (ne_eqb (byte_at xs i) 62 n) refl

pub hex_closed : (inner xs : List ℕ) (i : ℕ) → i < length xs → byte_at xs i ≡ 62
    → hex_reading inner (drop i xs) ≡ sized_string (pairs (filter is_hex inner)) (drop (i + 1) xs)
unfolding hex_reading
hex_closed inner xs i below e = at_drop_more (hex_reading inner) xs i 0 below ∙ rw (eq-eqb (byte_at xs i) 62 e) refl

-- a hexadecimal string at its places: where its digits end, and how many bytes there are
pub hex_string_at : (xs : List ℕ) (start end : ℕ) → start < length xs → (byte_at xs start ≡ 60 → ⊥)
    → drop end xs ≡ beyond is_hex_or_white (drop start xs) → start ≤ end → end < length xs → byte_at xs end ≡ 62
    → after_hex_start (drop start xs)
    ≡ sized_string (pairs (filter is_hex (slice_range xs start end))) (drop (end + 1) xs)
hex_string_at xs start end inside n e low high f = angle_hex xs start inside n
    ∙ ap (hex_reading (leading is_hex_or_white (drop start xs))) (sym e)
    ∙ hex_closed (leading is_hex_or_white (drop start xs)) xs end high f
    ∙ ap (λ t. sized_string (pairs (filter is_hex t)) (drop (end + 1) xs))
    (leading_slice is_hex_or_white xs start end (sym e) low (omega (arith, high)))

pub hex_no_end : (xs : List ℕ) (start end : ℕ) → start < length xs → (byte_at xs start ≡ 60 → ⊥)
    → drop end xs ≡ beyond is_hex_or_white (drop start xs) → length xs ≤ end
    → after_hex_start (drop start xs) ≡ stuck syntax_fault
hex_no_end xs start end inside n e above = angle_hex xs start inside n
    ∙ ap (hex_reading (leading is_hex_or_white (drop start xs))) (sym e)
    ∙ hex_unfinished (leading is_hex_or_white (drop start xs)) xs end above

pub hex_bad_byte : (xs : List ℕ) (start end : ℕ) → start < length xs → (byte_at xs start ≡ 60 → ⊥)
    → drop end xs ≡ beyond is_hex_or_white (drop start xs) → end < length xs → (byte_at xs end ≡ 62 → ⊥)
    → after_hex_start (drop start xs) ≡ stuck syntax_fault
hex_bad_byte xs start end inside n e high m = angle_hex xs start inside n
    ∙ ap (hex_reading (leading is_hex_or_white (drop start xs))) (sym e)
    ∙ hex_broken (leading is_hex_or_white (drop start xs)) xs end high m

-- how many bytes the digits write
pub hex_size : (xs : List ℕ) (start end count : ℕ) → drop end xs ≡ beyond is_hex_or_white (drop start xs) → start ≤ end
    → end ≤ length xs → count ≡ digits_from xs start
    → length (pairs (filter is_hex (slice_range xs start end))) ≡ count / 2 + count % 2
hex_size xs start end count e low high f = length-pairs (filter is_hex (slice_range xs start end))
    ∙ ap (λ n. n / 2 + n % 2)
    (ap (λ t. length (filter is_hex t)) (sym (leading_slice is_hex_or_white xs start end (sym e) low high)) ∙ sym f)

-- ---- several at once

-- a digit, and the place behind it
digit_step : (xs : List ℕ) (i next : ℕ) → i + 1 ≡ next → i < length xs
    → is_hex (byte_at xs i) ≡ true → (digits_from xs i ≡ 1 + digits_from xs next)
    × (beyond is_hex_or_white (drop i xs) ≡ beyond is_hex_or_white (drop next xs))
digit_step xs i next is below e =
    subst (λ n. (digits_from xs i ≡ 1 + digits_from xs n)
    × (beyond is_hex_or_white (drop i xs) ≡ beyond is_hex_or_white (drop n xs))) is
    (digits_on xs i below e, beyond_on is_hex_or_white xs i below (hex_or_white_digit (byte_at xs i) e))

pub four_digits : (xs : List ℕ) (i : ℕ) → i + 4 ≤ length xs → is_hex (byte_at xs i) ≡ true
    → is_hex (byte_at xs (i + 1)) ≡ true → is_hex (byte_at xs (i + 2)) ≡ true
    → is_hex (byte_at xs (i + 3)) ≡ true → (digits_from xs i ≡ 4 + digits_from xs (i + 4))
    × (beyond is_hex_or_white (drop i xs) ≡ beyond is_hex_or_white (drop (i + 4) xs))
four_digits xs i below e0 e1 e2 e3 =
    let s0 = digit_step xs i (i + 1) refl (omega (arith, below)) e0 in
    let s1 = digit_step xs (i + 1) (i + 2) (omega arith) (omega (arith, below)) e1 in
    let s2 = digit_step xs (i + 2) (i + 3) (omega arith) (omega (arith, below)) e2 in
    let s3 = digit_step xs (i + 3) (i + 4) (omega arith) (omega (arith, below)) e3 in
    (omega (arith, s0.0, s1.0, s2.0, s3.0), s0.1 ∙ s1.1 ∙ s2.1 ∙ s3.1)

-- two digits write a byte
pair_on : (xs : List ℕ) (i : ℕ) → i + 1 < length xs → is_hex (byte_at xs i) ≡ true
    → is_hex (byte_at xs (i + 1)) ≡ true → pairs (filter is_hex (drop i xs))
    ≡ (digit_of (byte_at xs i) * 16 + digit_of (byte_at xs (i + 1)))
    ∷ pairs (filter is_hex (drop (i + 1 + 1) xs))
unfolding pairs
pair_on xs i below e f = ap pairs (hex_on xs i (omega (arith, below)) e
    ∙ ap (λ t. byte_at xs i ∷ t) (hex_on xs (i + 1) below f))

take_set : (items : List ℕ) (k v : ℕ) → k < length items
    → take (suc k) (slice_set items k v) ≡ take k items ++ v ∷ []
take_set [] k v below = absurd (omega (arith, below))
take_set (x ∷ xs) zero v below = refl
take_set (x ∷ xs) (suc k) v below = ap (λ t. x ∷ t) (take_set xs k v (omega (arith, below)))

-- a byte that is put behind those so far
pub pair_put : (items inner : List ℕ) (k i high low : ℕ) → k < length items → i + 1 < length inner
    → is_hex (byte_at inner i) ≡ true → is_hex (byte_at inner (i + 1)) ≡ true
    → high ≡ digit_of (byte_at inner i) → low ≡ digit_of (byte_at inner (i + 1))
    → (next after : ℕ) → suc k ≡ next → i + 1 + 1 ≡ after
    → take next (slice_set items k (high * 16 + low)) ++ pairs (filter is_hex (drop after inner))
    ≡ take k items ++ pairs (filter is_hex (drop i inner))
pair_put items inner k i high low below more e f is_high is_low next after is_next is_after =
    let v = high * 16 + low in
    let tail = pairs (filter is_hex (drop after inner)) in
    ap (λ n. take n (slice_set items k v) ++ tail) (sym is_next)
    ∙ ap (λ t. t ++ tail) (take_set items k v below)
    ∙ append_assoc (take k items) (v ∷ []) tail
    ∙ ap (λ n. take k items ++ (n * 16 + low) ∷ tail) is_high
    ∙ ap (λ n. take k items ++ (digit_of (byte_at inner i) * 16 + n) ∷ tail) is_low
    ∙ ap (λ n. take k items ++ (digit_of (byte_at inner i) * 16 + digit_of (byte_at inner (i + 1)))
    ∷ pairs (filter is_hex (drop n inner))) (sym is_after)
    ∙ ap (λ t. take k items ++ t) (sym (pair_on inner i more e f))

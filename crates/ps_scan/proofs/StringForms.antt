-- Escapes and parts of strings at a place.
use Rattle.std.proofs.Common.{◌≡◌, ◌≢◌, refl, sym, ap, ◌∙◌, ℕ, zero, suc, ◌+◌, ◌-◌, ◌*◌, ◌%◌, ◌<◌, ◌≤◌, Bool, true}
use Rattle.std.proofs.Common.{false, List, [], ◌∷◌, ◌++◌, length, take, drop, arith, Option, Some, None, inl, inr}
use Rattle.std.proofs.Common.{add-one, subst, Vec, Global}
use Rattle.std.specs.Prelude.{option_to_list, nat_le, ◌==◌, if◌then◌else◌}
use Rattle.std.proofs.lemmas.Bool.{ne_eqb, cond-true, cond-false, cases_lt, le-leb, lt-leb}
use Rattle.std.specs.List.{slice_range}
use Rattle.std.proofs.Math.Seq.{take-suc}
use Rattle.std.proofs.lemmas.List.{at_drop_more, at_drop_all, drop_more, drop-drop, length-append, length-drop}
use Rattle.std.proofs.lemmas.List.{append-nil, get_or-drop}
use Rattle.ps_language.specs.Bytes.{is_octal, digit_of, value_in}
use Rattle.ps_language.specs.Reading.{Reading, token_then, stuck, Ending, string_end, unfinished, with_front}
use Rattle.ps_language.specs.Reading.{sized_string, string_reading}
use Rattle.ps_language.specs.Token.{string_token, syntax_fault, limit_fault}
use Rattle.ps_language.specs.Scan.{after_return, octal_front, octal_rest, Escape, octal_escape, feed_escape}
use Rattle.ps_language.specs.Scan.{return_escape, byte_escape, escape_of, escape_front, escape_rest, string_escape}
use Rattle.ps_language.specs.Scan.{string_from, mark_of, plain}
use Rattle.ps_language.proofs.Places.{byte_at}
use Rattle.ps_language.proofs.ScanSteps.{with_front_twice}
use Rattle.ps_language.proofs.StringPlaces.{string_opens, string_closes, string_is_over}
use Rattle.ps_scan.specs.Shown.{IsSomeString, token_of}
use Rattle.ps_scan.specs.Strings.{extent_of, PartReads}
use Rattle.ps_scan.specs.declared.strings.Part.{Part}
use Rattle.ps_scan.specs.declared.tokens.TokenKind.{Text}
use Rattle.ps_scan.proofs.TokenForms.{text_is}

-- ---- octal escapes

pub octal_on : (most : ℕ) (xs : List ℕ) (i : ℕ) → i < length xs → is_octal (byte_at xs i) ≡ true
    → octal_front (suc most) (drop i xs) ≡ byte_at xs i ∷ octal_front most (drop (i + 1) xs)
unfolding octal_front
octal_on most xs i below e = at_drop_more (octal_front (suc most)) xs i 0 below ∙ rw (e, octal_front) refl

pub octal_rest_on : (most : ℕ) (xs : List ℕ) (i : ℕ) → i < length xs → is_octal (byte_at xs i) ≡ true
    → octal_rest (suc most) (drop i xs) ≡ octal_rest most (drop (i + 1) xs)
unfolding octal_rest
octal_rest_on most xs i below e = at_drop_more (octal_rest (suc most)) xs i 0 below ∙ rw (e, octal_rest) refl

pub octal_off : (most : ℕ) (xs : List ℕ) (i : ℕ) → (i < length xs → is_octal (byte_at xs i) ≡ false)
    → octal_front (suc most) (drop i xs) ≡ []
unfolding octal_front
octal_off most xs i h = elim (cases_lt i (length xs)) [
  | inl below ↦ at_drop_more (octal_front (suc most)) xs i 0 below ∙ rw (h below, octal_front) refl
  | inr above ↦ at_drop_all (octal_front (suc most)) xs i above
]

pub octal_rest_off : (most : ℕ) (xs : List ℕ) (i : ℕ) → (i < length xs → is_octal (byte_at xs i) ≡ false)
    → octal_rest (suc most) (drop i xs) ≡ drop i xs
unfolding octal_rest
octal_rest_off most xs i h = elim (cases_lt i (length xs)) [
  | inl below ↦ at_drop_more (octal_rest (suc most)) xs i 0 below
      ∙ rw (h below, octal_rest) (sym (drop_more xs i 0 below))
  | inr above ↦ at_drop_all (octal_rest (suc most)) xs i above ∙ sym (at_drop_all (λ x. x) xs i above)
]

-- one, two and three digits
pub octal_one : (xs : List ℕ) (i a : ℕ) → i < length xs → is_octal (byte_at xs i) ≡ true → a ≡ digit_of (byte_at xs i)
    → a < 8 → (i + 1 < length xs → is_octal (byte_at xs (i + 1)) ≡ false)
    → Some a ≡ Some (value_in 8 0 (octal_front 3 (drop i xs)) % 256)
unfolding value_in
octal_one xs i a below e d small off =
    ap (λ n. Some n) (sym (ap (λ t. value_in 8 0 t % 256) (octal_on 2 xs i below e
    ∙ ap (λ t. byte_at xs i ∷ t) (octal_off 1 xs (i + 1) off)) ∙ same))
  where
    same : (0 * 8 + digit_of (byte_at xs i)) % 256 ≡ a
    same = omega (arith, d, small)

pub octal_two : (xs : List ℕ) (i a b : ℕ) → i < length xs → is_octal (byte_at xs i) ≡ true → a ≡ digit_of (byte_at xs i)
    → a < 8 → i + 1 < length xs → is_octal (byte_at xs (i + 1)) ≡ true → b ≡ digit_of (byte_at xs (i + 1)) → b < 8
    → (i + 2 < length xs → is_octal (byte_at xs (i + 2)) ≡ false)
    → Some (a * 8 + b) ≡ Some (value_in 8 0 (octal_front 3 (drop i xs)) % 256)
unfolding value_in
octal_two xs i a b below e d small below' e' d' small' off = ap (λ n. Some n) (sym (ap (λ t. value_in 8 0 t % 256)
    (octal_on 2 xs i below e ∙ ap (λ t. byte_at xs i ∷ t) (octal_on 1 xs (i + 1) below' e'
    ∙ ap (λ t. byte_at xs (i + 1) ∷ octal_front 1 t) (ap (λ n. drop n xs) two)
    ∙ ap (λ t. byte_at xs (i + 1) ∷ t) (octal_off 0 xs (i + 2) off))) ∙ same))
  where
    two : i + 1 + 1 ≡ i + 2
    two = omega arith

    same : ((0 * 8 + digit_of (byte_at xs i)) * 8 + digit_of (byte_at xs (i + 1))) % 256 ≡ a * 8 + b
    same = omega (arith, d, small, d', small')

pub octal_three : (xs : List ℕ) (i a b c : ℕ) → i < length xs → is_octal (byte_at xs i) ≡ true
    → a ≡ digit_of (byte_at xs i) → i + 1 < length xs → is_octal (byte_at xs (i + 1)) ≡ true
    → b ≡ digit_of (byte_at xs (i + 1))
    → i + 2 < length xs → is_octal (byte_at xs (i + 2)) ≡ true → c ≡ digit_of (byte_at xs (i + 2))
    → Some ((a * 64 + b * 8 + c) % 256) ≡ Some (value_in 8 0 (octal_front 3 (drop i xs)) % 256)
unfolding value_in octal_front
octal_three xs i a b c below e d below' e' d' below'' e'' d'' = ap (λ n. Some n) (sym (ap (λ t. value_in 8 0 t % 256)
    (octal_on 2 xs i below e ∙ ap (λ t. byte_at xs i ∷ t) (octal_on 1 xs (i + 1) below' e'
    ∙ ap (λ t. byte_at xs (i + 1) ∷ octal_front 1 t) (ap (λ n. drop n xs) two)
    ∙ ap (λ t. byte_at xs (i + 1) ∷ t) (octal_on 0 xs (i + 2) below'' e''))) ∙ same))
  where
    two : i + 1 + 1 ≡ i + 2
    two = omega arith

    same : (((0 * 8 + digit_of (byte_at xs i)) * 8 + digit_of (byte_at xs (i + 1))) * 8 + digit_of (byte_at xs (i + 2)))
        % 256 ≡ (a * 64 + b * 8 + c) % 256
    same = ap (λ n. n % 256) (omega (arith, d, d', d''))

pub octal_rest_two : (xs : List ℕ) (i : ℕ) → i < length xs → is_octal (byte_at xs i) ≡ true → i + 1 < length xs
    → is_octal (byte_at xs (i + 1)) ≡ true → octal_rest 3 (drop i xs) ≡ octal_rest 1 (drop (i + 2) xs)
octal_rest_two xs i below e below' e' = octal_rest_on 2 xs i below e ∙ octal_rest_on 1 xs (i + 1) below' e'
    ∙ ap (λ n. octal_rest 1 (drop n xs)) two
  where
    two : i + 1 + 1 ≡ i + 2
    two = omega arith

pub octal_rest_three : (xs : List ℕ) (i : ℕ) → i < length xs → is_octal (byte_at xs i) ≡ true → i + 1 < length xs
    → is_octal (byte_at xs (i + 1)) ≡ true → i + 2 < length xs → is_octal (byte_at xs (i + 2)) ≡ true
    → octal_rest 3 (drop i xs) ≡ drop (i + 3) xs
unfolding octal_rest
octal_rest_three xs i below e below' e' below'' e'' = octal_rest_two xs i below e below' e'
    ∙ octal_rest_on 0 xs (i + 2) below'' e'' ∙ ap (λ n. drop n xs) three
  where
    three : i + 2 + 1 ≡ i + 3
    three = omega arith

-- ---- the other escapes

pub escape_octal : (c : ℕ) → is_octal c ≡ true → escape_of c ≡ octal_escape
unfolding escape_of
escape_octal c e = cond-true _ _ _ e

-- a byte with an escape, behind a backslash
pub escape_at : (xs : List ℕ) (i : ℕ) (escape : Escape) → i < length xs → escape_of (byte_at xs i) ≡ escape
    → (depth : ℕ)
    → string_escape string_from depth (drop i xs)
    ≡ with_front (escape_front escape (drop i xs)) (string_from depth (escape_rest escape (drop i xs)))
unfolding string_escape
escape_at xs i escape below e depth = at_drop_more (string_escape string_from depth) xs i 0 below
    ∙ ap (λ t. with_front (escape_front (escape_of (byte_at xs i)) t)
    (string_from depth (escape_rest (escape_of (byte_at xs i)) t))) (sym (drop_more xs i 0 below))
    ∙ ap (λ x. with_front (escape_front x (drop i xs)) (string_from depth (escape_rest x (drop i xs)))) e

pub escape_at_end : (xs : List ℕ) (i : ℕ) → length xs ≤ i → (depth : ℕ)
    → string_escape string_from depth (drop i xs) ≡ unfinished
unfolding string_escape
escape_at_end xs i above depth = at_drop_all (string_escape string_from depth) xs i above

-- what a part is, by what its escape gives and leaves
pub part_at : (xs : List ℕ) (i : ℕ) (escape : Escape) (front rest : List ℕ) → i < length xs
    → escape_of (byte_at xs i) ≡ escape → escape_front escape (drop i xs) ≡ front
    → escape_rest escape (drop i xs) ≡ rest → (depth : ℕ)
    → string_escape string_from depth (drop i xs) ≡ with_front front (string_from depth rest)
part_at xs i escape front rest below e f g depth = escape_at xs i escape below e depth
    ∙ ap (λ x. with_front x (string_from depth (escape_rest escape (drop i xs)))) f
    ∙ ap (λ x. with_front front (string_from depth x)) g

drop_one : (xs : List ℕ) (i : ℕ) → drop 1 (drop i xs) ≡ drop (i + 1) xs
drop_one xs i = drop-drop 1 i xs

pub feed_part : (xs : List ℕ) (i : ℕ) → i < length xs → byte_at xs i ≡ 10 → (depth : ℕ)
    → string_escape string_from depth (drop i xs) ≡ with_front [] (string_from depth (drop (i + 1) xs))
unfolding escape_of escape_front escape_rest
feed_part xs i below e = part_at xs i feed_escape [] (drop (i + 1) xs) below (ap escape_of e) refl (drop_one xs i)

pub return_part : (xs : List ℕ) (i : ℕ) (rest : List ℕ) → i < length xs → byte_at xs i ≡ 13
    → rest ≡ after_return (drop (i + 1) xs) → (depth : ℕ)
    → string_escape string_from depth (drop i xs) ≡ with_front [] (string_from depth rest)
unfolding escape_of escape_front escape_rest
return_part xs i rest below e f =
    part_at xs i return_escape [] rest below (ap escape_of e) refl (ap after_return (drop_one xs i) ∙ sym f)

pub byte_part : (xs : List ℕ) (i byte : ℕ) → i < length xs → escape_of (byte_at xs i) ≡ byte_escape byte → (depth : ℕ)
    → string_escape string_from depth (drop i xs) ≡ with_front (byte ∷ []) (string_from depth (drop (i + 1) xs))
unfolding escape_front escape_rest
byte_part xs i byte below e = part_at xs i (byte_escape byte) (byte ∷ []) (drop (i + 1) xs) below e refl (drop_one xs i)

pub octal_part : (xs : List ℕ) (i : ℕ) (byte : Option ℕ) (rest : List ℕ) → i < length xs
    → is_octal (byte_at xs i) ≡ true → byte ≡ Some (value_in 8 0 (octal_front 3 (drop i xs)) % 256)
    → rest ≡ octal_rest 3 (drop i xs) → (depth : ℕ)
    → string_escape string_from depth (drop i xs) ≡ with_front (option_to_list byte) (string_from depth rest)
unfolding escape_front escape_rest
octal_part xs i byte rest below e f g =
    part_at xs i octal_escape (option_to_list byte) rest below (escape_octal (byte_at xs i) e)
    (sym (ap option_to_list f)) (sym g)

-- ---- parts

pub same_part : (text : List ℕ) (part : Option Part) (f g : ℕ → Ending) → ((depth : ℕ) → g depth ≡ f depth)
    → PartReads text part f → PartReads text part g
same_part text (Some part) f g e h = λ depth. e depth ∙ h depth
same_part text None f g e h = λ depth. e depth ∙ h depth

-- a letter behind a backslash
pub letter_escape : (c : ℕ) → is_octal c ≡ false → c ≢ 10 → c ≢ 13
    → escape_of c ≡ (if c == 110 then byte_escape 10
    else (if c == 114 then byte_escape 13 else (if c == 116 then byte_escape 9
    else (if c == 98 then byte_escape 8 else (if c == 102 then byte_escape 12 else byte_escape c)))))
unfolding escape_of
letter_escape c e feed carriage_return = rw (e, ne_eqb c 10 feed, ne_eqb c 13 carriage_return) refl

pub own_escape : (c : ℕ) → is_octal c ≡ false → c ≢ 10 → c ≢ 13 → c ≢ 110 → c ≢ 114 → c ≢ 116 → c ≢ 98 → c ≢ 102
    → escape_of c ≡ byte_escape c
own_escape c e feed carriage_return n r t b f = letter_escape c e feed carriage_return
    ∙ rw (ne_eqb c 110 n, ne_eqb c 114 r, ne_eqb c 116 t, ne_eqb c 98 b, ne_eqb c 102 f) refl

-- at the letters
pub escape_n : escape_of 110 ≡ byte_escape 10
unfolding escape_of
escape_n = refl

pub escape_r : escape_of 114 ≡ byte_escape 13
unfolding escape_of
escape_r = refl

pub escape_t : escape_of 116 ≡ byte_escape 9
unfolding escape_of
escape_t = refl

pub escape_b : escape_of 98 ≡ byte_escape 8
unfolding escape_of
escape_b = refl

pub escape_f : escape_of 102 ≡ byte_escape 12
unfolding escape_of
escape_f = refl

-- ---- the string byte by byte

pub plain_mark : (b : ℕ) → b ≢ 40 → b ≢ 41 → b ≢ 92 → b ≢ 13 → mark_of b ≡ plain
unfolding mark_of
plain_mark b opening closing backslash carriage_return =
    rw (ne_eqb b 40 opening, ne_eqb b 41 closing, ne_eqb b 92 backslash, ne_eqb b 13 carriage_return) refl

pub opens_at : (depth : ℕ) (xs : List ℕ) (i : ℕ) → i < length xs → byte_at xs i ≡ 40
    → string_from depth (drop i xs) ≡ with_front (40 ∷ []) (string_from (depth + 1) (drop (i + 1) xs))
opens_at depth xs i below e = string_opens depth xs i below e
    ∙ ap (λ n. with_front (40 ∷ []) (string_from n (drop (i + 1) xs))) (sym (add-one depth))

pub closes_at : (depth : ℕ) (xs : List ℕ) (i : ℕ) → depth ≢ 0 → i < length xs → byte_at xs i ≡ 41
    → string_from depth (drop i xs) ≡ with_front (41 ∷ []) (string_from (depth - 1) (drop (i + 1) xs))
closes_at zero xs i n below e = absurd (n refl)
closes_at (suc depth) xs i n below e = string_closes depth xs i below e
    ∙ ap (λ m. with_front (41 ∷ []) (string_from m (drop (i + 1) xs))) same
  where
    same : depth ≡ suc depth - 1
    same = omega arith

pub over_at : (depth : ℕ) (xs : List ℕ) (i : ℕ) → depth ≡ 0 → i < length xs → byte_at xs i ≡ 41
    → string_from depth (drop i xs) ≡ string_end [] (drop (i + 1) xs)
over_at depth xs i z below e = ap (λ n. string_from n (drop i xs)) z ∙ string_is_over xs i below e

-- ---- runs

pub run_none : (xs : List ℕ) (at : ℕ) → slice_range xs at at ≡ []
run_none xs at = ap (λ n. take n (drop at xs)) (let e : at - at ≡ 0 = omega arith in e)

pub run_more : (xs : List ℕ) (at i : ℕ) → at ≤ i → i < length xs
    → slice_range xs at (i + 1) ≡ slice_range xs at i ++ byte_at xs i ∷ []
run_more xs at i low below =
    ap (λ n. take n (drop at xs)) (let e : i + 1 - at ≡ suc (i - at) = omega (arith, low) in e)
    ∙ (take-suc (drop at xs) (i - at) 0 (let e = length-drop at xs in omega (arith, e, low, below))
    ∙ ap (λ b. slice_range xs at i ++ b ∷ [])
    (get_or-drop at xs (i - at) 0 ∙ ap (byte_at xs) (let e : at + (i - at) ≡ i = omega (arith, low) in e)))

-- ---- the extent

extent_front : (so_far : ℕ) (front : List ℕ) (ending : Ending)
    → extent_of so_far (with_front front ending) ≡ extent_of (so_far + length front) ending
unfolding with_front
extent_front so_far front (string_end value rest) = ap (λ n. Some (n, rest)) (omega (arith, length-append front value))
extent_front so_far front unfinished = refl

-- what a part adds to the extent
pub extent_more : (so_far more : ℕ) (front : List ℕ) (ending rest : Ending) → ending ≡ with_front front rest
    → so_far + length front ≡ more → extent_of more rest ≡ extent_of so_far ending
extent_more so_far more front ending rest e n = sym (ap (extent_of so_far) e ∙ extent_front so_far front rest
    ∙ ap (λ m. extent_of m rest) n)

pub extent_over : (so_far : ℕ) (ending : Ending) (rest : List ℕ) → ending ≡ string_end [] rest
    → extent_of so_far ending ≡ Some (so_far, rest)
extent_over so_far ending rest e = ap (extent_of so_far) e ∙ ap (λ n. Some (n, rest)) (omega arith)

pub no_extent : (ending : Ending) → extent_of 0 ending ≡ None → ending ≡ unfinished
no_extent (string_end value rest) e = cc
no_extent unfinished e = refl

-- ---- the bytes

-- what a part adds to the bytes so far
pub front_more : (so_far more front : List ℕ) (ending rest : Ending) → ending ≡ with_front front rest
    → more ≡ so_far ++ front → with_front more rest ≡ with_front so_far ending
front_more so_far more front ending rest e m = ap (λ x. with_front x rest) m ∙ sym (with_front_twice so_far front rest)
    ∙ ap (with_front so_far) (sym e)

pub no_front : (ending : Ending) → with_front [] ending ≡ ending
unfolding with_front
no_front (string_end value rest) = refl
no_front unfinished = refl

-- the bytes of a string that is over
pub front_over : (so_far value rest after : List ℕ) (ending whole : Ending) → ending ≡ string_end [] after
    → with_front so_far ending ≡ whole → whole ≡ string_end value rest → so_far ≡ value
unfolding with_front
front_over so_far value rest after ending whole e f g =
    let same : string_end (so_far ++ []) after ≡ string_end value rest = sym (ap (with_front so_far) e) ∙ f ∙ g in
    let equal : so_far ++ [] ≡ value = cc in
    sym (append-nil so_far) ∙ equal

pub front_unfinished : (so_far value rest : List ℕ) (ending whole : Ending) → ending ≡ unfinished
    → with_front so_far ending ≡ whole → whole ≡ string_end value rest → so_far ≡ value
unfolding with_front
front_unfinished so_far value rest ending whole e f g =
    let no : unfinished ≡ string_end value rest = sym (ap (with_front so_far) e) ∙ f ∙ g in
    cc

-- ---- the token

-- an ending with an extent has so many bytes
pub extent_is : (ending : Ending) (size : ℕ) (rest : List ℕ) → extent_of 0 ending ≡ Some (size, rest)
    → (value : List ℕ) × (ending ≡ string_end value rest) × (length value ≡ size)
extent_is (string_end value more) size rest e =
    let pair : ◌≡◌ {A = ℕ × List ℕ} (0 + length value, more) (size, rest) = cc in
    let n : 0 + length value ≡ size = ap (λ p. p.0) pair in
    (value, ap (λ p. string_end value p.1) pair, omega (arith, n))
extent_is unfinished size rest e = cc

pub sized_short : (value rest : List ℕ) → length value ≤ 65535
    → sized_string value rest ≡ token_then (string_token value) rest
unfolding sized_string
sized_short value rest h = cond-true _ _ _ (le-leb (length value) 65535 h)

pub sized_long : (value rest : List ℕ) → 65535 < length value → sized_string value rest ≡ stuck limit_fault
unfolding sized_string
sized_long value rest h = cond-false _ _ _ (lt-leb (length value) 65535 h)

pub read_unfinished : (ending : Ending) → ending ≡ unfinished → string_reading ending ≡ stuck syntax_fault
unfolding string_reading
read_unfinished ending e = ap string_reading e

pub read_long : (ending : Ending) (size : ℕ) (rest : List ℕ) → extent_of 0 ending ≡ Some (size, rest) → 65535 < size
    → string_reading ending ≡ stuck limit_fault
unfolding string_reading
read_long ending size rest e h = let x = extent_is ending size rest e in
    ap string_reading x.1 ∙ sized_long x.0 rest (omega (arith, x.2, h))

pub read_extent : (ending : Ending) (size : ℕ) (rest value : List ℕ) → ending ≡ string_end value rest
    → length value ≡ size → size ≤ 65535 → string_reading ending ≡ token_then (string_token value) rest
unfolding string_reading
read_extent ending size rest value e n h = ap string_reading e ∙ sized_short value rest (omega (arith, n, h))

-- which bytes a string has that is read
pub sized_is : (value bytes rest more : List ℕ) → sized_string value more ≡ token_then (string_token bytes) rest
    → string_end value more ≡ string_end bytes rest
unfolding sized_string
sized_is value bytes rest more e = by (nat_le (length value) 65535) e
  where
    by : (short : Bool) → (if short then token_then (string_token value) more else stuck limit_fault)
        ≡ token_then (string_token bytes) rest → string_end value more ≡ string_end bytes rest
    by true same = let values : value ≡ bytes = cc in let rests : more ≡ rest = cc in
        (λ i. string_end (values i) (rests i))
    by false same = cc

pub sized_value : (value bytes rest more : List ℕ) → sized_string value more ≡ token_then (string_token bytes) rest
    → value ≡ bytes
sized_value value bytes rest more e = let same = sized_is value bytes rest more e in cc

pub ending_is : (ending : Ending) (bytes rest : List ℕ) → string_reading ending ≡ token_then (string_token bytes) rest
    → ending ≡ string_end bytes rest
unfolding string_reading
ending_is (string_end value more) bytes rest e = sized_is value bytes rest more e
ending_is unfinished bytes rest e = cc

-- a string with a byte is one that may take memory
pub some_string : (reading : Reading) (value rest : List ℕ) → reading ≡ token_then (string_token value) rest
    → (length value ≡ 0 → ⊥) → IsSomeString reading
some_string reading value rest e n = subst IsSomeString (sym e) (filled value n)
  where
    filled : (v : List ℕ) → (length v ≡ 0 → ⊥) → IsSomeString (token_then (string_token v) rest)
    filled [] m = m refl
    filled (b ∷ bs) m = tt

-- the token of a string that is kept
pub string_kept : (xs : List ℕ) (reading : Reading) (value rest : List ℕ) (kept : Vec ℕ Global)
    → reading ≡ token_then (string_token value) rest → kept.items ≡ value
    → reading ≡ token_then (token_of xs (Text kept)) rest
string_kept xs reading value rest kept e same = e
    ∙ (ap (λ v. token_then (string_token v) rest) (sym same) ∙ ap (λ t. token_then t rest) (sym (text_is xs kept)))

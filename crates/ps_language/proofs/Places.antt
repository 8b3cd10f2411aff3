-- The scanner's functions on what is left of a text from a place on: what a loop over places keeps.
use Rattle.std.specs.Prelude.{◌≡◌, ℕ, ◌+◌, ◌<◌, ◌≤◌, Bool, true, false, not, List, [], ◌∷◌, length, drop, get_or, take}
use Rattle.std.specs.Prelude.{◌-◌, slice_range, zero, suc, ◌*◌}
use mathlib.Core.Path.{ap, sym, ◌∙◌}
use Rattle.std.proofs.lemmas.Bool.{ne_eqb}
use Rattle.std.proofs.lemmas.List.{at_drop_more, at_drop_all, drop_more, take_at, length-append, length-drop}
use Rattle.ps_language.specs.Bytes.{is_white, is_comment_end, digit_of, value_in}
use Rattle.ps_language.specs.Scan.{behind_blank, leading, beyond, mark_of, string_step, string_from}
use Rattle.ps_language.proofs.Blanks.{behind_white, behind_percent, behind_none, behind_in_comment}
use native.Mathlib.Omega.{arith}
use Rattle.ps_language.proofs.Spans.{front_beyond, leading_true, leading_false, beyond_true, beyond_false}
use Rattle.ps_language.proofs.ScanSteps.{string_from_step}

-- the byte at a place
abbrev pub byte_at : List ℕ → ℕ → ℕ
byte_at xs i = get_or xs i 0

-- ---- white space and comments

pub blank_in_comment : (xs : List ℕ) (i : ℕ) → i < length xs
    → behind_blank true (drop i xs) ≡ behind_blank (not (is_comment_end (byte_at xs i))) (drop (i + 1) xs)
blank_in_comment xs i below = at_drop_more (behind_blank true) xs i 0 below
    ∙ behind_in_comment (byte_at xs i) (drop (i + 1) xs)

pub blank_percent : (xs : List ℕ) (i : ℕ) → i < length xs → byte_at xs i ≡ 37
    → behind_blank false (drop i xs) ≡ behind_blank true (drop (i + 1) xs)
blank_percent xs i below e = at_drop_more (behind_blank false) xs i 0 below
    ∙ ap (λ b. behind_blank false (b ∷ drop (i + 1) xs)) e ∙ behind_percent (drop (i + 1) xs)

pub blank_white : (xs : List ℕ) (i : ℕ) → i < length xs → is_white (byte_at xs i) ≡ true
    → behind_blank false (drop i xs) ≡ behind_blank false (drop (i + 1) xs)
blank_white xs i below e = at_drop_more (behind_blank false) xs i 0 below
    ∙ behind_white (byte_at xs i) (drop (i + 1) xs) e

pub blank_none : (xs : List ℕ) (i : ℕ) → i < length xs → is_white (byte_at xs i) ≡ false → (byte_at xs i ≡ 37 → ⊥)
    → behind_blank false (drop i xs) ≡ drop i xs
blank_none xs i below e n = at_drop_more (behind_blank false) xs i 0 below
    ∙ behind_none (byte_at xs i) (drop (i + 1) xs) e (ne_eqb (byte_at xs i) 37 n) ∙ sym (drop_more xs i 0 below)

pub blank_end : (is_in_comment : Bool) (xs : List ℕ) (i : ℕ) → length xs ≤ i
    → behind_blank is_in_comment (drop i xs) ≡ []
unfolding behind_blank
blank_end is_in_comment xs i above = at_drop_all (behind_blank is_in_comment) xs i above

-- ---- runs

pub beyond_on : (test : ℕ → Bool) (xs : List ℕ) (i : ℕ) → i < length xs → test (byte_at xs i) ≡ true
    → beyond test (drop i xs) ≡ beyond test (drop (i + 1) xs)
beyond_on test xs i below e = at_drop_more (beyond test) xs i 0 below
    ∙ beyond_true test (byte_at xs i) (drop (i + 1) xs) e

pub beyond_off : (test : ℕ → Bool) (xs : List ℕ) (i : ℕ) → i < length xs → test (byte_at xs i) ≡ false
    → beyond test (drop i xs) ≡ drop i xs
beyond_off test xs i below e = at_drop_more (beyond test) xs i 0 below
    ∙ beyond_false test (byte_at xs i) (drop (i + 1) xs) e ∙ sym (drop_more xs i 0 below)

pub leading_on : (test : ℕ → Bool) (xs : List ℕ) (i : ℕ) → i < length xs → test (byte_at xs i) ≡ true
    → leading test (drop i xs) ≡ byte_at xs i ∷ leading test (drop (i + 1) xs)
leading_on test xs i below e = at_drop_more (leading test) xs i 0 below
    ∙ leading_true test (byte_at xs i) (drop (i + 1) xs) e

pub leading_off : (test : ℕ → Bool) (xs : List ℕ) (i : ℕ) → i < length xs → test (byte_at xs i) ≡ false
    → leading test (drop i xs) ≡ []
leading_off test xs i below e = at_drop_more (leading test) xs i 0 below
    ∙ leading_false test (byte_at xs i) (drop (i + 1) xs) e

-- past the last byte nothing is left, of the text and of a run
pub beyond_end : (test : ℕ → Bool) (xs : List ℕ) (i : ℕ) → length xs ≤ i → drop (length xs) xs ≡ beyond test (drop i xs)
unfolding beyond
beyond_end test xs i above = at_drop_all (λ x. x) xs (length xs) (omega arith)
    ∙ sym (at_drop_all (beyond test) xs i above)

-- the front is the part of the text up to the place where it ends
pub leading_slice : (test : ℕ → Bool) (xs : List ℕ) (at end : ℕ) → beyond test (drop at xs) ≡ drop end xs → at ≤ end
    → end ≤ length xs → leading test (drop at xs) ≡ slice_range xs at end
leading_slice test xs at end e low high =
    sym (take_at (leading test (drop at xs)) (beyond test (drop at xs)) (end - at)
    (size (length (leading test (drop at xs))) (length (beyond test (drop at xs)))
    (sym (length-append (leading test (drop at xs)) (beyond test (drop at xs)))
    ∙ ap length (front_beyond test (drop at xs)) ∙ length-drop at xs) (ap length e ∙ length-drop end xs)))
    ∙ ap (take (end - at)) (front_beyond test (drop at xs))
  where
    size : (front rest : ℕ) → front + rest ≡ length xs - at → rest ≡ length xs - end → front ≡ end - at
    size front rest f g = omega (arith, f, g, low, high)

-- ---- strings

pub string_at : (depth : ℕ) (xs : List ℕ) (i : ℕ) → i < length xs
    → string_from depth (drop i xs)
    ≡ string_step string_from depth (byte_at xs i) (drop (i + 1) xs) (mark_of (byte_at xs i))
string_at depth xs i below = at_drop_more (string_from depth) xs i 0 below
    ∙ string_from_step depth (byte_at xs i) (drop (i + 1) xs)

-- ---- numbers

at_least : (a b : ℕ) → 1 ≤ b → a ≤ a * b
at_least a zero low = absurd (omega (arith, low))
at_least a (suc b) low = omega arith

-- further digits make a number no smaller
pub value_grows : (base so_far : ℕ) (digits : List ℕ) → 1 ≤ base → so_far ≤ value_in base so_far digits
unfolding value_in
value_grows base so_far [] low = omega arith
value_grows base so_far (d ∷ ds) low =
    raise (so_far * base) (digit_of d) (value_in base (so_far * base + digit_of d) ds) (at_least so_far base low)
    (value_grows base (so_far * base + digit_of d) ds low)
  where
    raise : (m n r : ℕ) → so_far ≤ m → m + n ≤ r → so_far ≤ r
    raise m n r e f = omega (arith, e, f)

pub value_at : (base so_far : ℕ) (xs : List ℕ) (i : ℕ) → i < length xs
    → value_in base so_far (drop i xs) ≡ value_in base (so_far * base + digit_of (byte_at xs i)) (drop (i + 1) xs)
unfolding value_in
value_at base so_far xs i below = at_drop_more (value_in base so_far) xs i 0 below

pub value_end : (base so_far : ℕ) (xs : List ℕ) (i : ℕ) → length xs ≤ i → value_in base so_far (drop i xs) ≡ so_far
unfolding value_in
value_end base so_far xs i above = at_drop_all (value_in base so_far) xs i above

-- The end of a string on what is left of a text from a place on, byte by byte.
use Rattle.std.specs.Prelude.{◌≡◌, refl, ℕ, zero, suc, ◌+◌, ◌<◌, ◌≤◌, false, List, [], ◌∷◌, ◌==◌, length, drop}
use mathlib.Core.Path.{ap, sym, ◌∙◌}
use Rattle.std.proofs.lemmas.Bool.{ne_eqb}
use Rattle.std.proofs.lemmas.List.{at_drop_more, at_drop_all, drop_more}
use Rattle.ps_language.specs.Reading.{string_end, unfinished, with_front}
use Rattle.ps_language.specs.Scan.{after_return, escape_of, escape_front, escape_rest, plain, mark_of, string_close}
use Rattle.ps_language.specs.Scan.{string_escape, string_step, string_from}
use Rattle.ps_language.proofs.ScanSteps.{string_from_none}
use Rattle.ps_language.proofs.Places.{byte_at, string_at}

-- the step at a byte that is known
at_byte : (depth : ℕ) (xs : List ℕ) (i b : ℕ) → i < length xs → byte_at xs i ≡ b
    → string_from depth (drop i xs) ≡ string_step string_from depth b (drop (i + 1) xs) (mark_of b)
at_byte depth xs i b below e = string_at depth xs i below
    ∙ ap (λ c. string_step string_from depth c (drop (i + 1) xs) (mark_of c)) e

pub string_opens : (depth : ℕ) (xs : List ℕ) (i : ℕ) → i < length xs → byte_at xs i ≡ 40
    → string_from depth (drop i xs) ≡ with_front (40 ∷ []) (string_from (suc depth) (drop (i + 1) xs))
unfolding string_step mark_of
string_opens depth xs i below e = at_byte depth xs i 40 below e

pub string_closes : (depth : ℕ) (xs : List ℕ) (i : ℕ) → i < length xs → byte_at xs i ≡ 41
    → string_from (suc depth) (drop i xs) ≡ with_front (41 ∷ []) (string_from depth (drop (i + 1) xs))
unfolding string_step string_close mark_of
string_closes depth xs i below e = at_byte (suc depth) xs i 41 below e

pub string_is_over : (xs : List ℕ) (i : ℕ) → i < length xs → byte_at xs i ≡ 41
    → string_from zero (drop i xs) ≡ string_end [] (drop (i + 1) xs)
unfolding string_step string_close mark_of
string_is_over xs i below e = at_byte zero xs i 41 below e

pub string_plain : (depth : ℕ) (xs : List ℕ) (i : ℕ) → i < length xs → mark_of (byte_at xs i) ≡ plain
    → string_from depth (drop i xs) ≡ with_front (byte_at xs i ∷ []) (string_from depth (drop (i + 1) xs))
unfolding string_step
string_plain depth xs i below e = string_at depth xs i below
    ∙ ap (string_step string_from depth (byte_at xs i) (drop (i + 1) xs)) e

pub string_returns : (depth : ℕ) (xs : List ℕ) (i : ℕ) → i < length xs → byte_at xs i ≡ 13
    → string_from depth (drop i xs) ≡ with_front (10 ∷ []) (string_from depth (after_return (drop (i + 1) xs)))
unfolding string_step mark_of
string_returns depth xs i below e = at_byte depth xs i 13 below e

-- behind a backslash, and behind one that is the last byte
escape_of_more : (depth : ℕ) (c : ℕ) (cs : List ℕ)
    → string_escape string_from depth (c ∷ cs)
    ≡ with_front (escape_front (escape_of c) (c ∷ cs)) (string_from depth (escape_rest (escape_of c) (c ∷ cs)))
unfolding string_escape
escape_of_more depth c cs = refl

pub string_backslash : (depth : ℕ) (xs : List ℕ) (i : ℕ) → i < length xs → byte_at xs i ≡ 92
    → string_from depth (drop i xs) ≡ string_escape string_from depth (drop (i + 1) xs)
unfolding string_step mark_of
string_backslash depth xs i below e = at_byte depth xs i 92 below e

pub string_escapes : (depth : ℕ) (xs : List ℕ) (i : ℕ) → i < length xs → byte_at xs i ≡ 92 → i + 1 < length xs
    → string_from depth (drop i xs)
    ≡ with_front (escape_front (escape_of (byte_at xs (i + 1))) (drop (i + 1) xs))
    (string_from depth (escape_rest (escape_of (byte_at xs (i + 1))) (drop (i + 1) xs)))
unfolding string_step mark_of
string_escapes depth xs i below e more = at_byte depth xs i 92 below e
    ∙ at_drop_more (string_escape string_from depth) xs (i + 1) 0 more
    ∙ escape_of_more depth (byte_at xs (i + 1)) (drop (i + 1 + 1) xs)
    ∙ ap (λ t. with_front (escape_front (escape_of (byte_at xs (i + 1))) t)
    (string_from depth (escape_rest (escape_of (byte_at xs (i + 1))) t))) (sym (drop_more xs (i + 1) 0 more))

pub string_last_backslash : (depth : ℕ) (xs : List ℕ) (i : ℕ) → i < length xs → byte_at xs i ≡ 92 → length xs ≤ i + 1
    → string_from depth (drop i xs) ≡ unfinished
unfolding string_step string_escape mark_of
string_last_backslash depth xs i below e last = at_byte depth xs i 92 below e
    ∙ at_drop_all (string_escape string_from depth) xs (i + 1) last

pub string_no_end : (depth : ℕ) (xs : List ℕ) (i : ℕ) → length xs ≤ i → string_from depth (drop i xs) ≡ unfinished
string_no_end depth xs i above = at_drop_all (string_from depth) xs i above ∙ string_from_none depth

-- behind a carriage return
pub return_feed : (xs : List ℕ) (i : ℕ) → i < length xs → byte_at xs i ≡ 10 → after_return (drop i xs) ≡ drop (i + 1) xs
unfolding after_return
return_feed xs i below e = at_drop_more after_return xs i 0 below ∙ ap (λ b. after_return (b ∷ drop (i + 1) xs)) e

pub return_other : (xs : List ℕ) (i : ℕ) → i < length xs → (byte_at xs i ≡ 10 → ⊥)
    → after_return (drop i xs) ≡ drop i xs
unfolding after_return
return_other xs i below n = at_drop_more after_return xs i 0 below
    ∙ other (byte_at xs i) (drop (i + 1) xs) (ne_eqb (byte_at xs i) 10 n) ∙ sym (drop_more xs i 0 below)
  where
    other : (b : ℕ) (bs : List ℕ) → (b == 10) ≡ false → after_return (b ∷ bs) ≡ b ∷ bs
    other b bs e = rw (e, after_return) refl

pub return_end : (xs : List ℕ) (i : ℕ) → length xs ≤ i → after_return (drop i xs) ≡ []
unfolding after_return
return_end xs i above = at_drop_all after_return xs i above

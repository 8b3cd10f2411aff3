-- Lines of a text, a byte at a time.
use Rattle.std.proofs.Common.{◌≡◌, refl, ap, ◌∙◌, ℕ, zero, suc, ◌+◌, ◌-◌, ◌<◌, ◌≤◌, Bool, true, false, List, [], length}
use Rattle.std.proofs.Common.{drop, arith, add-one}
use Rattle.std.proofs.lemmas.Bool.{ne_eqb, cond-true, cond-false}
use Rattle.std.proofs.lemmas.List.{at_drop_all}
use Rattle.ps_language.specs.Scan.{leading}
use Rattle.ps_language.proofs.Places.{byte_at, leading_on, leading_off}
use Rattle.ps_places.specs.Positions.{ends_line, line_ends, line_begin, is_in_line}

-- ---- how many line ends lie before a place

pub ends_more : (text : List ℕ) (at : ℕ) → ends_line text at ≡ true → line_ends text (at + 1) ≡ line_ends text at + 1
ends_more text at e = ap (line_ends text) (add-one at) ∙ cond-true _ _ _ e

pub ends_same : (text : List ℕ) (at : ℕ) → ends_line text at ≡ false → line_ends text (at + 1) ≡ line_ends text at
ends_same text at e = ap (line_ends text) (add-one at) ∙ cond-false _ _ _ e

-- ---- where a line begins

pub begins_here : (text : List ℕ) (at : ℕ) → 0 < at → ends_line text (at - 1) ≡ true → line_begin text at ≡ at
begins_here text zero h e = absurd (omega (arith, h))
begins_here text (suc at) h e =
    let same : suc at - 1 ≡ at = omega arith in
    cond-true _ _ _ (rw same at e) ∙ add-one at

pub begins_before : (text : List ℕ) (at : ℕ) → 0 < at → ends_line text (at - 1) ≡ false
    → line_begin text at ≡ line_begin text (at - 1)
begins_before text zero h e = absurd (omega (arith, h))
begins_before text (suc at) h e =
    let same : suc at - 1 ≡ at = omega arith in
    rw same (cond-false _ _ _ (rw same at e))

-- ---- where it ends

pub goes_on : (text : List ℕ) (at : ℕ) → at < length text → is_in_line (byte_at text at) ≡ true
    → at + 1 + length (leading is_in_line (drop (at + 1) text)) ≡ at + length (leading is_in_line (drop at text))
goes_on text at h e = omega (arith, ap length (leading_on is_in_line text at h e))

pub stops : (text : List ℕ) (at : ℕ) → at < length text → is_in_line (byte_at text at) ≡ false
    → at + length (leading is_in_line (drop at text)) ≡ at
stops text at h e = omega (arith, ap length (leading_off is_in_line text at h e))

pub stops_at_end : (text : List ℕ) (at : ℕ) → length text ≤ at
    → at + length (leading is_in_line (drop at text)) ≡ at
unfolding leading
stops_at_end text at h = omega (arith, ap length (at_drop_all (leading is_in_line) text at h))

-- a byte of no line end
pub is_other : (b : ℕ) → (b ≡ 10 → ⊥) → (b ≡ 13 → ⊥) → is_in_line b ≡ true
is_other b n m = rw (ne_eqb b 10 n, ne_eqb b 13 m) refl

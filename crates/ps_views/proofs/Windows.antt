-- The part of a line that is shown.
use Rattle.std.proofs.Common.{◌≡◌, ap, ◌∙◌, ℕ, ◌+◌, ◌-◌, List, length, take, drop, min, arith}
use Rattle.std.proofs.lemmas.List.{length-drop, take_min}
use Rattle.std.specs.Prelude.{Bool, nat_lt}
use Rattle.ps_views.specs.Sources.{window_begin, window_bytes, window_mark, is_cut_before, is_cut_behind}
use Rattle.ps_views.specs.Sources.{window_text, source_text}

pub begin_is : (size at clamped low high from : ℕ) → clamped ≡ min at size → low ≡ clamped - 80 → high ≡ size - 160
    → from ≡ min low high → from ≡ window_begin size at
unfolding window_begin
begin_is size at clamped low high from c l h f = omega (arith, c, l, h, f)

pub bytes_are : (line : List ℕ) (at from end : ℕ) → from ≡ window_begin (length line) at
    → end ≡ min (from + 160) (length line) → take (end - from) (drop from line) ≡ window_bytes line at
unfolding window_bytes
bytes_are line at from end e f =
    let count : end - from ≡ min 160 (length (drop from line)) = omega (arith, f, length-drop from line) in
    ap (λ n. take n (drop from line)) count ∙ take_min 160 (drop from line) ∙ ap (λ n. take 160 (drop n line)) e

pub mark_is : (line : List ℕ) (at clamped from : ℕ) → clamped ≡ min at (length line)
    → from ≡ window_begin (length line) at → clamped - from ≡ window_mark line at
unfolding window_mark
mark_is line at clamped from c e = ap (λ n. n - from) c ∙ ap (λ n. min at (length line) - n) e

pub before_is : (line : List ℕ) (at from : ℕ) → from ≡ window_begin (length line) at
    → nat_lt 0 from ≡ is_cut_before line at
unfolding is_cut_before
before_is line at from e = ap (nat_lt 0) e

pub behind_is : (line : List ℕ) (at from : ℕ) → from ≡ window_begin (length line) at
    → nat_lt (from + 160) (length line) ≡ is_cut_behind line at
unfolding is_cut_behind
behind_is line at from e = ap (λ n. nat_lt (n + 160) (length line)) e

pub source_is : (line : List ℕ) (at width : ℕ) (bytes : List ℕ) (mark : ℕ) (before behind : Bool)
    → bytes ≡ window_bytes line at → mark ≡ window_mark line at → before ≡ is_cut_before line at
    → behind ≡ is_cut_behind line at → window_text bytes mark before behind width ≡ source_text line at width
unfolding source_text
source_is line at width bytes mark before behind b m f l =
    ap (λ x. window_text x mark before behind width) b
    ∙ ap (λ x. window_text (window_bytes line at) x before behind width) m
    ∙ ap (λ x. window_text (window_bytes line at) (window_mark line at) x behind width) f
    ∙ ap (λ x. window_text (window_bytes line at) (window_mark line at) (is_cut_before line at) x width) l

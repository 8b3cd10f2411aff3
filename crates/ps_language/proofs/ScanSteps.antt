-- The scanner without its counters, a step at a time: what a scanner that goes along the bytes is
-- compared with.
use Rattle.std.specs.Prelude.{◌≡◌, refl, ℕ, zero, suc, ◌+◌, ◌-◌, ◌<◌, ◌≤◌, List, [], ◌∷◌, ◌++◌, length, drop, ⊤, ◌==◌}
use Rattle.std.specs.Prelude.{false}
use mathlib.Core.Path.{ap, sym, ◌∙◌}
use native.Mathlib.Omega.{arith}
use Rattle.std.proofs.lemmas.List.{append_assoc, length-append, length-drop, drop-drop, drop_at}
use Rattle.ps_language.specs.Token.{Scan, found, exhausted, faulty}
use Rattle.ps_language.specs.Reading.{Reading, token_then, stuck, Ending, string_end, unfinished, with_front}
use Rattle.ps_language.specs.Reading.{with_first}
use Rattle.ps_language.specs.Syntax.{IsAtToken, IsToken, Reads, reads_nothing, reads_token, reads_fault}
use Rattle.ps_language.specs.Scan.{after_return, escape_of, escape_front, escape_rest, Mark, opening, closing, escaping}
use Rattle.ps_language.specs.Scan.{returning, plain, mark_of, string_close, string_escape, string_step, string_body}
use Rattle.ps_language.specs.Scan.{string_from, behind_blank, then_elements, elements_step, elements_by, elements_from}
use Rattle.ps_language.specs.Scan.{token_here, as_scan, text_scan, further_on, scan}
use mathlib.Core.Logic.{inl, inr}
use Rattle.std.proofs.lemmas.Bool.{cases_Bool}
use Rattle.ps_language.proofs.Blanks.{BehindBlank, behind_sound}
use Rattle.ps_language.proofs.SimplesFound.{LeavesBelow}
use Rattle.ps_language.proofs.Strings.{return_newline}
use Rattle.ps_language.proofs.StringEnds.{part_shorter, escape_part, escape_holds, newline_shorter}
use Rattle.ps_language.proofs.StringLaw.{string_sound, string_complete}
use Rattle.ps_language.proofs.Procedures.{token_sound, token_shorter, token_complete, elements_sound, elements_complete}
use Rattle.ps_language.proofs.ScanLaw.{scan_reads}

-- ---- strings

-- any counter above the length of what is left gives the same
pub string_any : (counter depth : ℕ) (text : List ℕ) → length text < counter
    → string_body counter depth text ≡ string_from depth text
string_any counter depth text below =
    string_complete depth text (string_from depth text)
    (string_sound (suc (length text)) depth text (omega arith)) counter below

pub string_from_none : (depth : ℕ) → string_from depth [] ≡ unfinished
unfolding string_body
string_from_none depth = refl

close_same : (counter depth : ℕ) (bs : List ℕ) → length bs < counter
    → string_close (string_body counter) depth bs ≡ string_close string_from depth bs
unfolding string_close
close_same counter zero bs below = refl
close_same counter (suc depth) bs below = ap (with_front (41 ∷ [])) (string_any counter depth bs below)

escape_same : (counter depth : ℕ) (bs : List ℕ) → length bs < counter
    → string_escape (string_body counter) depth bs ≡ string_escape string_from depth bs
unfolding string_escape
escape_same counter depth [] below = refl
escape_same counter depth (c ∷ cs) below =
    ap (with_front (escape_front (escape_of c) (c ∷ cs))) (string_any counter depth (escape_rest (escape_of c) (c ∷ cs))
    (lower (length (escape_rest (escape_of c) (c ∷ cs)))
    (part_shorter (92 ∷ c ∷ cs) (escape_front (escape_of c) (c ∷ cs)) (escape_rest (escape_of c) (c ∷ cs))
    (escape_part c cs (escape_of c) (escape_holds c)))))
  where
    lower : (n : ℕ) → n < length (92 ∷ c ∷ cs) → n < counter
    lower n e = omega (arith, e, below)

step_same : (counter depth b : ℕ) (bs : List ℕ) → length bs < counter → (mark : Mark)
    → string_step (string_body counter) depth b bs mark ≡ string_step string_from depth b bs mark
unfolding string_step
step_same counter depth b bs below opening = ap (with_front (40 ∷ [])) (string_any counter (suc depth) bs below)
step_same counter depth b bs below closing = close_same counter depth bs below
step_same counter depth b bs below escaping = escape_same counter depth bs below
step_same counter depth b bs below returning =
    ap (with_front (10 ∷ []))
    (string_any counter depth (after_return bs)
    (lower (length (after_return bs)) (newline_shorter (13 ∷ bs) (after_return bs) (return_newline bs))))
  where
    lower : (n : ℕ) → n < length (13 ∷ bs) → n < counter
    lower n e = omega (arith, e, below)
step_same counter depth b bs below plain = ap (with_front (b ∷ [])) (string_any counter depth bs below)

pub string_from_step : (depth b : ℕ) (bs : List ℕ)
    → string_from depth (b ∷ bs) ≡ string_step string_from depth b bs (mark_of b)
unfolding string_body
string_from_step depth b bs = step_same (suc (length bs)) depth b bs (omega arith) (mark_of b)

-- what was read before stands in front
pub with_front_twice : (front more : List ℕ) (ending : Ending)
    → with_front front (with_front more ending) ≡ with_front (front ++ more) ending
unfolding with_front
with_front_twice front more (string_end value rest) = ap (λ x. string_end x rest) (sym (append_assoc front more value))
with_front_twice front more unfinished = refl

-- ---- procedures

pub elements_any : (room counter : ℕ) (text : List ℕ) → length text < counter
    → elements_by (token_here room) counter text ≡ elements_from (token_here room) text
elements_any room counter text below =
    elements_complete (IsToken room) (token_here room) (token_complete room) (token_shorter room) text
    (elements_from (token_here room) text)
    (elements_sound (IsToken room) (token_here room) (token_sound room) (token_shorter room) (suc (length text)) text
    (omega arith)) counter below

then_same : (room limit : ℕ) (reading : Reading) → LeavesBelow limit reading
    → then_elements (elements_by (token_here room) limit) reading
    ≡ then_elements (elements_from (token_here room)) reading
unfolding then_elements
then_same room limit (stuck fault) below = refl
then_same room limit (token_then token rest) below = ap (with_first token) (elements_any room limit rest below)

left_same : (room : ℕ) (text left : List ℕ) → BehindBlank text left
    → elements_step (token_here room) (elements_by (token_here room) (length text)) left
    ≡ elements_step (token_here room) (elements_from (token_here room)) left
unfolding elements_step
left_same room text [] h = refl
left_same room text (b ∷ bs) h = elim (cases_Bool (b == 125)) [
  | inl e ↦ rw (e, elements_step) refl
  | inr e ↦ rw (e, elements_step) (then_same room (length text) (token_here room b bs)
      (raise (token_here room b bs) (token_shorter room (b ∷ bs) (token_here room b bs) (token_sound room b bs h.0))))
]
  where
    longer : (n : ℕ) → n < length (b ∷ bs) → length text ≡ length h.1.0 + length (b ∷ bs) → n < length text
    longer n e f = omega (arith, e, f)

    raise : (reading : Reading) → LeavesBelow (length (b ∷ bs)) reading → LeavesBelow (length text) reading
    raise (stuck fault) k = tt
    raise (token_then token rest) k = longer (length rest) k (ap length h.1.2 ∙ length-append h.1.0 (b ∷ bs))

pub elements_from_step : (room : ℕ) (text : List ℕ)
    → elements_from (token_here room) text
    ≡ elements_step (token_here room) (elements_from (token_here room)) (behind_blank false text)
unfolding elements_by
elements_from_step room text = left_same room text (behind_blank false text) (behind_sound text)

-- ---- the place behind a token

abbrev pub EndsWithin : (bytes : List ℕ) (at : ℕ) → Scan → Type 0
EndsWithin bytes at (found token end) = (at < end) × (end ≤ length bytes)
EndsWithin bytes at exhausted = ⊤
EndsWithin bytes at (faulty fault) = ⊤

reads_within : (bytes : List ℕ) (at : ℕ) (outcome : Scan) → Reads bytes at outcome → EndsWithin bytes at outcome
reads_within bytes at outcome (reads_nothing h) = tt
reads_within bytes at outcome (reads_fault e h t k) = tt
reads_within bytes at outcome (reads_token {blank = blank} {text = text} {rest = rest} {token = token} e h t k) =
    within (token_shorter 32 text (token_then token rest) k) (sym (length-append blank text) ∙ ap length (sym e)
    ∙ length-drop at bytes)
  where
    within : length rest < length text
        → length blank + length text ≡ length bytes - at → (at < length bytes - length rest)
        × (length bytes - length rest ≤ length bytes)
    within shorter whole = (omega (arith, shorter, whole), omega arith)

-- a token is a byte or more, and ends in the text
pub scan_within : (bytes : List ℕ) (at : ℕ) → EndsWithin bytes at (scan bytes at)
scan_within bytes at = reads_within bytes at (scan bytes at) (scan_reads bytes at)

-- ---- a text behind another one

-- a reading takes no more than what is there
abbrev EndsBelow : ℕ → Reading → Type 0
EndsBelow limit (token_then token rest) = length rest < limit
EndsBelow limit (stuck fault) = ⊤

as_scan_shifted : (by size : ℕ) (reading : Reading) → EndsBelow (suc size) reading
    → as_scan (by + size) reading ≡ further_on by (as_scan size reading)
unfolding as_scan
as_scan_shifted by size (token_then token rest) below = ap (found token) (omega (arith, below))
as_scan_shifted by size (stuck fault) below = refl

token_below : (size b : ℕ) (bs : List ℕ) → IsAtToken (b ∷ bs) → length (b ∷ bs) ≤ size
    → EndsBelow (suc size) (token_here 32 b bs)
token_below size b bs at fits =
    lower (token_here 32 b bs) (token_shorter 32 (b ∷ bs) (token_here 32 b bs) (token_sound 32 b bs at))
  where
    lower : (reading : Reading) → LeavesBelow (length (b ∷ bs)) reading → EndsBelow (suc size) reading
    lower (token_then token rest) h = omega (arith, h, fits)
    lower (stuck fault) h = tt

text_shifted : (by size : ℕ) (text left : List ℕ) → length text ≤ size → BehindBlank text left
    → text_scan (by + size) left ≡ further_on by (text_scan size left)
unfolding text_scan
text_shifted by size text [] fits h = refl
text_shifted by size text (b ∷ bs) fits h =
    as_scan_shifted by size (token_here 32 b bs)
    (token_below size b bs h.0 (shorter (ap length h.1.2 ∙ length-append h.1.0 (b ∷ bs))))
  where
    shorter : length text ≡ length h.1.0 + length (b ∷ bs) → length (b ∷ bs) ≤ size
    shorter e = omega (arith, e, fits)

-- what stands in front of a text changes nothing but the places
pub scan_shifted : (front text : List ℕ) (at : ℕ)
    → scan (front ++ text) (length front + at) ≡ further_on (length front) (scan text at)
unfolding scan
scan_shifted front text at =
    ap (λ n. text_scan n (behind_blank false (drop (length front + at) (front ++ text)))) (length-append front text)
    ∙ ap (λ t. text_scan (length front + length text) (behind_blank false t))
    (sym (drop-drop at (length front) (front ++ text)) ∙ ap (drop at) (drop_at front text (length front) refl))
    ∙ text_shifted (length front) (length text) (drop at text) (behind_blank false (drop at text))
    (omega (arith, length-drop at text)) (behind_sound (drop at text))

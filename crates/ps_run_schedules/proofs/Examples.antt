-- What the text of a schedule says and what it doesn't, by examples.
use Rattle.std.proofs.Common.{◌≡◌, ◌≤◌, ◌+◌, ◌++◌, ℕ, inl, inr, true, false, None, Some, List, [], ◌∷◌, length, refl, sym, arith}
use Rattle.std.specs.Fmt.{decimal, signed_decimal}
use Rattle.std.specs.Prelude.{codes, pos, negsuc, replicate}
use Rattle.std.proofs.lemmas.Bool.{true≢false}
use Rattle.ps_language.specs.declared.schedules.Entry.{Entry}
use Rattle.ps_run_schedules.specs.Texts.{IsEntry, line_of, text_of, TellsLine, IsBadAt}

-- ---- lines

-- two steps of the third context, of which the last is refused
refused : Entry
refused = record { context = 3; steps = 2; refused = true; shown = None }

-- the context comes first, then its steps
refused_line : line_of refused
    ≡ (decimal 3 ++ codes " ") ++ ((decimal 2 ++ codes " ") ++ codes "1\n")
unfolding refused
refused_line = refl

-- a step that is shown 7 words used of 4096
shown : Entry
shown = record { context = 1; steps = 1; refused = false; shown = Some (pos 7, pos 4096) }

-- used come before all
shown_line : line_of shown ≡ (decimal 1 ++ codes " ") ++ ((decimal 1 ++ codes " ")
    ++ (codes "0 " ++ ((signed_decimal (pos 7) ++ codes " ")
    ++ (signed_decimal (pos 4096) ++ codes "\n"))))
unfolding shown
shown_line = refl

-- in the order of the entries
two_lines : text_of (refused ∷ shown ∷ []) ≡ line_of refused ++ (line_of shown ++ [])
two_lines = refl

-- ---- what has no line

no_steps : IsEntry (record { context = 1; steps = 0; refused = false; shown = None }) → ⊥
no_steps is = let low = is.steps.low in omega (arith, low)

no_context : IsEntry (record { context = 0; steps = 1; refused = false; shown = None }) → ⊥
no_context is = let low = is.context.low in omega (arith, low)

no_words : IsEntry (record {
  context = 1;
  steps = 1;
  refused = false;
  shown = Some (pos 1, pos 0);
}) → ⊥
no_words is = let low = is.shown.1.low in omega (arith, low)

below_none : IsEntry (record {
  context = 1;
  steps = 1;
  refused = false;
  shown = Some (negsuc 0, pos 1);
}) → ⊥
below_none is = is.shown.0

-- ---- beginnings of a text

-- a line that hasn't ended tells nothing yet
not_yet : TellsLine (codes "1 2 0") → ⊥
not_yet (inl enough) = omega (arith, enough)
not_yet (inr ended) = true≢false (sym ended)

ended : TellsLine (codes "x\n")
ended = inr refl

-- and so many bytes without an end are no line
endless : TellsLine (replicate 46 49)
endless = inl (omega arith)

-- ---- where a text is bad

-- lines count from 1
line_nought : (bytes : List ℕ) → IsBadAt bytes 0 → ⊥
line_nought bytes bad = let number = bad.number in omega (arith, number)

-- nowhere where it is the line of an entry
good_line : (entry : Entry) → IsEntry entry → IsBadAt (text_of (entry ∷ [])) 1 → ⊥
good_line entry is bad = by bad.before bad.number bad.is
  where
    by : (before : List Entry) → 1 ≡ length before + 1
        → text_of (entry ∷ []) ≡ text_of before ++ bad.rest → ⊥
    by [] number all = bad.none entry is [] (sym all)
    by (one ∷ more) number all = omega (arith, number)

-- The scan by the place behind white space and comments, and by the answer there.
use Rattle.std.proofs.Common.{◌≡◌, sym, ap, ◌∙◌, subst, ℕ, ◌<◌, ◌≤◌, false, List, [], ◌∷◌, length, drop, arith, inl}
use Rattle.std.proofs.Common.{inr}
use Rattle.std.specs.Prelude.{◌⊎◌, nat_le}
use Rattle.std.proofs.lemmas.Bool.{cases_Bool}
use Rattle.std.proofs.lemmas.List.{at_drop_more, at_drop_all, drop_more, length-drop}
use Rattle.ps_language.specs.Token.{Token, Scan, string_token, found, exhausted, faulty, syntax_fault, limit_fault}
use Rattle.ps_language.specs.Token as language
use Rattle.ps_language.specs.Reading.{Reading, token_then, stuck, Tail, procedure_end, procedure_fault, sized_procedure}
use Rattle.ps_language.specs.Reading.{token_count}
use Rattle.ps_language.specs.Scan.{behind_blank, as_scan, text_scan, scan}
use Rattle.ps_language.proofs.Places.{byte_at}
use Rattle.ps_scan.specs.Shown.{IsStuckBy, IsSomeString, MayStarve, TakesMemory, BeginsComposite, IsFaultBy, token_at}
use Rattle.ps_scan.specs.declared.tokens.ScanFault.{ScanFault}
use Rattle.ps_scan.specs.declared.tokens.ScanFault.TheVariants.{Syntax, Limit, Memory}
use Rattle.ps_scan.proofs.ProcedureForms.{brace_at}

-- the scan at the place behind the blank
scan_behind : (xs : List ℕ) (at here : ℕ) → drop here xs ≡ behind_blank false (drop at xs)
    → scan xs at ≡ text_scan (length xs) (drop here xs)
unfolding scan
scan_behind xs at here e = ap (text_scan (length xs)) (sym e)

pub scan_none : (xs : List ℕ) (at here : ℕ) → drop here xs ≡ behind_blank false (drop at xs) → length xs ≤ here
    → scan xs at ≡ exhausted
unfolding text_scan
scan_none xs at here e above = scan_behind xs at here e ∙ at_drop_all (text_scan (length xs)) xs here above

scan_reading : (xs : List ℕ) (at here : ℕ) → drop here xs ≡ behind_blank false (drop at xs) → here < length xs
    → scan xs at ≡ as_scan (length xs) (token_at 32 xs here)
unfolding text_scan
scan_reading xs at here e below = scan_behind xs at here e ∙ at_drop_more (text_scan (length xs)) xs here 0 below

pub scan_token : (xs : List ℕ) (at here : ℕ) (token : Token) (end : ℕ) → drop here xs ≡ behind_blank false (drop at xs)
    → here < length xs → token_at 32 xs here ≡ token_then token (drop end xs) → end ≤ length xs
    → scan xs at ≡ found token end
unfolding as_scan
scan_token xs at here token end e below f high = scan_reading xs at here e below ∙ ap (as_scan (length xs)) f
    ∙ ap (found token) (omega (arith, length-drop end xs, high))

pub scan_fault : (xs : List ℕ) (at here : ℕ) (fault : language.ScanFault)
    → drop here xs ≡ behind_blank false (drop at xs) → here < length xs → token_at 32 xs here ≡ stuck fault
    → scan xs at ≡ faulty fault
unfolding as_scan
scan_fault xs at here fault e below f = scan_reading xs at here e below ∙ ap (as_scan (length xs)) f

-- ---- what takes memory

procedure_takes : (size : ℕ) (tail : Tail) → TakesMemory (as_scan size (sized_procedure tail))
unfolding as_scan sized_procedure
procedure_takes size (procedure_fault fault) = tt
procedure_takes size (procedure_end elements rest) =
    elim (cases_Bool (nat_le (token_count elements) 65535)) [ inl e ↦ rw e tt | inr e ↦ rw e tt ]

string_takes : (size : ℕ) (reading : Reading) → IsSomeString reading → TakesMemory (as_scan size reading)
unfolding as_scan
string_takes size (token_then (string_token []) rest) h = absurd h
string_takes size (token_then (string_token (b ∷ bs)) rest) h = tt
string_takes size (token_then (language.number_token n) rest) h = absurd h
string_takes size (token_then (language.literal_name_token n) rest) h = absurd h
string_takes size (token_then (language.executable_name_token n) rest) h = absurd h
string_takes size (token_then (language.immediate_name_token n) rest) h = absurd h
string_takes size (token_then (language.procedure_token elements) rest) h = absurd h
string_takes size (stuck fault) h = absurd h

begins : (xs : List ℕ) (here : ℕ) → here < length xs
    → (byte_at xs here ≡ 123) ⊎ ((byte_at xs here ≡ 40) ⊎ (byte_at xs here ≡ 60)) → BeginsComposite (drop here xs)
begins xs here below h = subst BeginsComposite (sym (drop_more xs here 0 below)) h

starved : (xs : List ℕ) (at here : ℕ) → drop here xs ≡ behind_blank false (drop at xs) → here < length xs
    → MayStarve 32 xs here → IsFaultBy xs at Memory
starved xs at here e below (inl h) = (
  subst TakesMemory (sym (scan_reading xs at here e below
      ∙ ap (as_scan (length xs)) (brace_at 32 xs here (λ z. absurd (omega (arith, z))) h)))
      (procedure_takes (length xs) _),
  subst BeginsComposite e (begins xs here below (inl h)),
)
starved xs at here e below (inr h) = (
  subst TakesMemory (sym (scan_reading xs at here e below)) (string_takes (length xs) (token_at 32 xs here) h.1),
  subst BeginsComposite e (begins xs here below (inr h.0)),
)

pub scan_faulty : (xs : List ℕ) (at here : ℕ) (fault : ScanFault) → drop here xs ≡ behind_blank false (drop at xs)
    → here < length xs → IsStuckBy (MayStarve 32 xs here) (token_at 32 xs here) fault → IsFaultBy xs at fault
scan_faulty xs at here Syntax e below h = scan_fault xs at here syntax_fault e below h
scan_faulty xs at here Limit e below h = scan_fault xs at here limit_fault e below h
scan_faulty xs at here Memory e below h = starved xs at here e below h

-- Tokens that are passed over.
use Rattle.std.proofs.Common.{◌≡◌, ◌∙◌, refl, sym, ap, ℕ, ◌<◌, ◌≤◌, false, List, length, drop, Some, None, Ok, Err}
use Rattle.ps_language.specs.Token.{Token, number_token, literal_name_token, executable_name_token}
use Rattle.ps_language.specs.Token.{immediate_name_token, string_token, procedure_token, found, syntax_fault}
use Rattle.ps_language.specs.Token.{limit_fault}
use Rattle.ps_language.specs.Reading.{Reading, token_then}
use Rattle.ps_language.specs.RowsTypes.{number_in}
use Rattle.ps_language.specs.Scan.{behind_blank, scan}
use Rattle.ps_scan.specs.Passed.{IsPassed, class_of, passed_by, number_of, number_or, class_number}
use Rattle.ps_scan.specs.Shown.{IsStuckBy, token_at}
use Rattle.ps_scan.specs.declared.passes.Passed.{Passed}
use Rattle.ps_scan.specs.declared.tokens.ScanFault.{ScanFault}
use Rattle.ps_scan.specs.declared.tokens.ScanFault.TheVariants.{Syntax, Limit, Memory}
use Rattle.ps_scan.proofs.ScannerForms.{scan_token, scan_fault}

-- for an equal reading
pub same_passed : (text : List ℕ) (at : ℕ) (answer : _) (reading other : Reading) → other ≡ reading
    → IsPassed text at answer reading → IsPassed text at answer other
same_passed text at (Ok passed) reading other e h = (h.0, e ∙ h.1, h.2, h.3, h.4)
same_passed text at (Err Syntax) reading other e h = e ∙ h
same_passed text at (Err Limit) reading other e h = e ∙ h
same_passed text at (Err Memory) reading other e h = h

-- what is passed over, by its class
pub same_class : (token : Token) (passed : Passed) → class_of token ≡ passed.class
    → passed_by (found token passed.end) ≡ Some passed
same_class token passed e = ap (λ class. Some (record { class = class; end = passed.end })) e

-- nothing is passed over at a fault
pub none_passed : (xs : List ℕ) (at here : ℕ) (fault : ScanFault) → drop here xs ≡ behind_blank false (drop at xs)
    → here < length xs → IsStuckBy ⊥ (token_at 32 xs here) fault → None ≡ passed_by (scan xs at)
none_passed xs at here Syntax e below h = sym (ap passed_by (scan_fault xs at here syntax_fault e below h))
none_passed xs at here Limit e below h = sym (ap passed_by (scan_fault xs at here limit_fault e below h))
none_passed xs at here Memory e below h = absurd h

-- a number by its class
pub number_by_class : (token : Token) → number_in token ≡ class_number (class_of token)
number_by_class (number_token number) = refl
number_by_class (literal_name_token text) = refl
number_by_class (executable_name_token text) = refl
number_by_class (immediate_name_token text) = refl
number_by_class (string_token bytes) = refl
number_by_class (procedure_token elements) = refl

-- the number of what is passed over at the beginning of a text
pub number_passed : (xs : List ℕ) (here end : ℕ) (token : Token) → drop here xs ≡ behind_blank false (drop 0 xs)
    → here < length xs → token_at 32 xs here ≡ token_then token (drop end xs) → end ≤ length xs
    → number_of (scan xs 0) ≡ number_or (class_number (class_of token))
number_passed xs here end token e below f high = ap number_of (scan_token xs 0 here token end e below f high)
    ∙ ap number_or (number_by_class token)

-- Tokens that are passed over, and the number that a text begins with.
use Rattle.std.specs.Prelude.{◌≡◌, ℕ, ℤ, ◌<◌, ◌≤◌, List, length, drop, Option, Some, None, Result}
use Rattle.std.specs.Prelude.{Ok, Err}
use Rattle.ps_language.specs.Token.{Token, number_token, literal_name_token, executable_name_token}
use Rattle.ps_language.specs.Token.{immediate_name_token, string_token, procedure_token, Scan}
use Rattle.ps_language.specs.Token.{found, exhausted, faulty, syntax_fault, limit_fault}
use Rattle.ps_language.specs.Reading.{Reading, token_then}
use Rattle.ps_language.specs.RowsTypes.{number_in}
use Rattle.ps_scan.specs.declared.firsts.NumberFault.{NumberFault}
use Rattle.ps_scan.specs.declared.firsts.NumberFault.TheVariants.{NoNumber, Syntax, Limit}
use Rattle.ps_scan.specs.declared.passes.Passed.{Passed}
use Rattle.ps_scan.specs.declared.passes.TokenClass.{TokenClass}
use Rattle.ps_scan.specs.declared.passes.TokenClass.TheVariants.{Number, Name, Text, Procedure}
use Rattle.ps_scan.specs.declared.tokens.ScanFault.{ScanFault}
use Rattle.ps_scan.specs.Shown.{IsStuckBy}

-- what a token is, without its contents
abbrev pub class_of : Token → TokenClass
class_of (number_token number) = Number number
class_of (literal_name_token _) = Name
class_of (executable_name_token _) = Name
class_of (immediate_name_token _) = Name
class_of (string_token _) = Text
class_of (procedure_token _) = Procedure

-- the number that a class has
abbrev pub class_number : TokenClass → Option ℤ
class_number (Number number) = Some number
class_number Name = None
class_number Text = None
class_number Procedure = None

-- the token that a scan found, without its contents
abbrev pub passed_by : Scan → Option Passed
passed_by (found token end) = Some (record { class = class_of token; end = end })
passed_by exhausted = None
passed_by (faulty _) = None

-- the token was passed over, with what it is and its end, or the reading is that fault
abbrev pub IsPassed : (text : List ℕ) (at : ℕ) → Result Passed ScanFault → Reading → Type 0
IsPassed text at (Ok passed) reading =
    (token : Token) × (reading ≡ token_then token (drop passed.end text))
    × (class_of token ≡ passed.class) × (at < passed.end) × (passed.end ≤ length text)
IsPassed text at (Err fault) reading = IsStuckBy ⊥ reading fault

-- the number, if it is one
abbrev pub number_or : Option ℤ → Result ℤ NumberFault
number_or (Some number) = Ok number
number_or None = Err NoNumber

-- the number of the token that a scan found, or why there is none (PLRM2, 8 'cvi')
abbrev pub number_of : Scan → Result ℤ NumberFault
number_of (found token end) = number_or (number_in token)
number_of exhausted = Err NoNumber
number_of (faulty syntax_fault) = Err Syntax
number_of (faulty limit_fault) = Err Limit

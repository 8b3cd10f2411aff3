-- Tokens within the limits of their names, strings and procedures (PLRM2, appendix B).
use Rattle.std.specs.Prelude.{◌≤◌, length}
use Rattle.ps_language.specs.Limits.{name_limit, sequence_limit}
use Rattle.ps_language.specs.Reading.{token_count}
use Rattle.ps_language.specs.Token.{Token, Tokens, number_token, literal_name_token}
use Rattle.ps_language.specs.Token.{executable_name_token, immediate_name_token, string_token}
use Rattle.ps_language.specs.Token.{procedure_token, no_tokens, more_tokens}

abbrev mutual
  -- the text of a name, the bytes of a string and the elements of a procedure, and all within it
  pub IsShort : Token → Type 0
  IsShort (number_token number) = Unit {0}
  IsShort (literal_name_token text) = length text ≤ name_limit
  IsShort (executable_name_token text) = length text ≤ name_limit
  IsShort (immediate_name_token text) = length text ≤ name_limit
  IsShort (string_token bytes) = length bytes ≤ sequence_limit
  IsShort (procedure_token elements) = (token_count elements ≤ sequence_limit) × AreShort elements

  -- each element
  pub AreShort : Tokens → Type 0
  AreShort no_tokens = Unit {0}
  AreShort (more_tokens token rest) = IsShort token × AreShort rest

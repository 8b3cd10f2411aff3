-- The token that each kind is.
use Rattle.std.proofs.Common.{◌≡◌, sym, ap, ◌∙◌, ℕ, ℤ, List, map, Vec, Global}
use Rattle.ps_language.specs.Token.{number_token, literal_name_token, executable_name_token, immediate_name_token}
use Rattle.ps_language.specs.Token.{string_token, procedure_token}
use Rattle.ps_language.specs.Token as language
use Rattle.ps_scan.specs.declared.tokens.Span.{Span}
use Rattle.ps_scan.specs.declared.tokens.TokenKind.{TokenKind, Integer, LiteralName, ExecutableName, ImmediateName}
use Rattle.ps_scan.specs.declared.tokens.TokenKind.{Text}
use Rattle.ps_scan.specs.declared.tokens.TokenKind.TheViews.{Procedure}
use Rattle.ps_scan.specs.declared.tokens.TokenKind.TheOpen as layer
use Rattle.ps_scan.specs.declared.tokens.TokenKind.TheFolds.{fold-roll-TokenKind}
use Rattle.ps_scan.specs.declared.tokens.TokenKind.TheVariants.{rolls-Integer, rolls-LiteralName, rolls-ExecutableName}
use Rattle.ps_scan.specs.declared.tokens.TokenKind.TheVariants.{rolls-ImmediateName, rolls-Text, rolls-Procedure}
use Rattle.ps_scan.specs.Shown.{part_of, elements_in, token_step, token_of}

pub integer_is : (text : List ℕ) (number : ℤ) → token_of text (Integer number) ≡ number_token number
integer_is text number = ap (token_of text) (sym (rolls-Integer number))
    ∙ fold-roll-TokenKind language.Token (token_step text) (layer.Integer number)

pub literal_name_is : (text : List ℕ) (span : Span)
    → token_of text (LiteralName span) ≡ literal_name_token (part_of text span)
literal_name_is text span = ap (token_of text) (sym (rolls-LiteralName span))
    ∙ fold-roll-TokenKind language.Token (token_step text) (layer.LiteralName span)

pub executable_name_is : (text : List ℕ) (span : Span)
    → token_of text (ExecutableName span) ≡ executable_name_token (part_of text span)
executable_name_is text span = ap (token_of text) (sym (rolls-ExecutableName span))
    ∙ fold-roll-TokenKind language.Token (token_step text) (layer.ExecutableName span)

pub immediate_name_is : (text : List ℕ) (span : Span)
    → token_of text (ImmediateName span) ≡ immediate_name_token (part_of text span)
immediate_name_is text span = ap (token_of text) (sym (rolls-ImmediateName span))
    ∙ fold-roll-TokenKind language.Token (token_step text) (layer.ImmediateName span)

pub text_is : (text : List ℕ) (bytes : _) → token_of text (Text bytes) ≡ string_token bytes.items
text_is text bytes = ap (token_of text) (sym (rolls-Text bytes))
    ∙ fold-roll-TokenKind language.Token (token_step text) (layer.Text bytes)

pub procedure_is : (text : List ℕ) (elements : Vec TokenKind Global) (front : List language.Token)
    → front ≡ map (token_of text) elements.items → procedure_token (elements_in front)
    ≡ token_of text (Procedure elements)
procedure_is text elements front e = ap (λ tokens. procedure_token (elements_in tokens)) e
    ∙ sym (ap (token_of text) (sym (rolls-Procedure elements))
    ∙ fold-roll-TokenKind language.Token (token_step text) (layer.Procedure elements))

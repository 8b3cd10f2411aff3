-- The tokens of a run of kinds, one by one.
use Rattle.std.proofs.Common.{◌≡◌, ◌∙◌, sym, ap, ℕ, suc, ◌+◌, ◌<◌, ◌≤◌, List, length, drop, map, get_or, Vec, Global}
use Rattle.std.proofs.Common.{add-one}
use Rattle.std.proofs.Math.Seq.{drop-cons}
use Rattle.std.proofs.lemmas.List.{drop_all, length-map}
use Rattle.ps_language.specs.Token.{procedure_token, no_tokens, more_tokens}
use Rattle.ps_language.specs.Reading.{token_count}
use Rattle.ps_scan.specs.declared.tokens.TokenKind.{TokenKind}
use Rattle.ps_scan.specs.declared.tokens.TokenKind.TheViews.{Procedure}
use Rattle.ps_scan.specs.Shown.{token_of}
use Rattle.ps_scan.proofs.TokenForms.{procedure_is}
use Rattle.ps_scan.proofs.ProcedureForms.{count-elements}
use Rattle.ps_step_tokens.specs.Procedures.{tokens_in}

module _ (text : List ℕ) (kinds : List TokenKind) where
  -- the next of them and those behind it
  pub tokens-next : (i : ℕ) (kind : TokenKind) → i < length kinds → kind ≡ get_or kinds i kind
      → tokens_in text (drop i kinds)
      ≡ more_tokens (token_of text kind) (tokens_in text (drop (i + 1) kinds))
  tokens-next i kind below is =
      rw add-one (ap (tokens_in text) (drop-cons kinds i kind below)
      ∙ ap (λ k. more_tokens (token_of text k) (tokens_in text (drop (suc i) kinds))) (sym is))

  -- none are behind the last
  pub tokens-end : (i : ℕ) → length kinds ≤ i → tokens_in text (drop i kinds) ≡ no_tokens
  tokens-end i all = ap (tokens_in text) (drop_all i kinds all)

  pub tokens-count : token_count (tokens_in text kinds) ≡ length kinds
  tokens-count = count-elements (map (token_of text) kinds) ∙ length-map kinds (token_of text)

-- a procedure
pub procedure-token : (text : List ℕ) (inner : Vec TokenKind Global)
    → token_of text (Procedure inner) ≡ procedure_token (tokens_in text inner.items)
procedure-token text inner =
    sym (procedure_is text inner (map (token_of text) inner.items)
    (λ i. map (token_of text) inner.items))

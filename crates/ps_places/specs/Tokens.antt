-- Where tokens of a text begin and end.
use Rattle.std.specs.Prelude.{ℕ, ◌+◌, ◌-◌, false, List, length, drop, min, max}
use Rattle.ps_language.specs.Scan.{behind_blank, scan}
use Rattle.ps_language.specs.Token.{Scan, found, exhausted, faulty}
use Rattle.ps_scan.specs.declared.tokens.Span.{Span}
use Rattle.ps_places.specs.Positions.{line_in}

-- where the next token begins: the place of what is left behind white space and comments
unfoldable pub token_begin : List ℕ → ℕ → ℕ
token_begin text at = length text - length (behind_blank false (drop at text))

-- the end of what was read, or where nothing was
abbrev pub end_or : ℕ → Scan → ℕ
end_or at (found token end) = end
end_or at exhausted = at
end_or at (faulty fault) = at

-- the token at a place, as far as it stands in its line, and at least a byte
unfoldable pub mark_in : List ℕ → ℕ → Span
mark_in text offset =
    let at : ℕ = min offset (length text) in
    record {
      start = at;
      end = max (min (end_or at (scan text at)) (line_in text at).end) (at + 1);
    }

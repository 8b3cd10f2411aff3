-- The first byte says which token it is.
use Rattle.std.proofs.Common.{◌∙◌, sym, ap, ◌+◌, ◌∷◌, [], drop, arith}
use Rattle.ps_language.specs.Token.{executable_name_token}
use Rattle.ps_language.specs.Reading.{token_then}
use Rattle.ps_scan.proofs.ReadingForms.{same_answer, regular_at, closing_angle_at, slash_at, opening_bracket_at}
use Rattle.ps_scan.proofs.ReadingForms.{closing_bracket_at, bracket_is, stray_at}
use Rattle.ps_scan.proofs.simple.bare_token.Goals as goal

pub returns-then-is_regular_byte : goal.returns-then-is_regular_byte
returns-then-is_regular_byte c =
    same_answer ⊥ _ c.args.bytes.now c.args.at _ _ _ (λ no. absurd no)
    (regular_at c.args.bytes.now c.args.at (sym c.is_regular_byte.ensures ∙ c.if-is_regular_byte.true))
    c.word_token.ensures

pub returns-then-first-eq62 : goal.returns-then-first-eq62
returns-then-first-eq62 c =
    same_answer ⊥ _ c.args.bytes.now c.args.at _ _ _ (λ no. absurd no)
    (closing_angle_at c.args.bytes.now c.args.at c.if-first-eq62.true) c.closing_angles.ensures

pub returns-then-first-eq47 : goal.returns-then-first-eq47
returns-then-first-eq47 c =
    same_answer ⊥ _ c.args.bytes.now c.args.at _ _ _ (λ no. absurd no)
    (slash_at c.args.bytes.now c.args.at c.if-first-eq47.true) c.slash_token.ensures

pub returns-then-first-eq91 : goal.returns-then-first-eq91
returns-then-first-eq91 c =
    let xs = c.args.bytes.now in (
      opening_bracket_at xs c.args.at c.if-first-eq91.true
          ∙ ap (λ b. token_then (executable_name_token (b ∷ [])) (drop (c.args.at + 1) xs)) (sym c.if-first-eq91.true)
          ∙ bracket_is xs c.args.at c.bracket.result.kind c.bracket.result.end c.requires.inside c.bracket.ensures.kind
          c.bracket.ensures.end,
      omega (arith, c.bracket.ensures.end),
      omega (arith, c.bracket.ensures.end),
    )

pub returns-then-first-eq93 : goal.returns-then-first-eq93
returns-then-first-eq93 c =
    let xs = c.args.bytes.now in (
      closing_bracket_at xs c.args.at c.if-first-eq93.true
          ∙ ap (λ b. token_then (executable_name_token (b ∷ [])) (drop (c.args.at + 1) xs)) (sym c.if-first-eq93.true)
          ∙ bracket_is xs c.args.at c.bracket-then-first-eq93.result.kind c.bracket-then-first-eq93.result.end
          c.requires.inside c.bracket-then-first-eq93.ensures.kind c.bracket-then-first-eq93.ensures.end,
      omega (arith, c.bracket-then-first-eq93.ensures.end),
      omega (arith, c.bracket-then-first-eq93.ensures.end),
    )

pub returns : goal.returns
returns c = stray_at c.args.bytes.now c.args.at (sym c.is_regular_byte.ensures
    ∙ c.if-is_regular_byte.false) c.requires.string c.requires.angle c.if-first-eq62.false c.if-first-eq91.false
    c.if-first-eq93.false c.if-first-eq47.false

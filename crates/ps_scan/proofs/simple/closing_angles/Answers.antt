-- Two angles are a name, a single one is none.
use Rattle.std.proofs.Common.{◌≡◌, ◌∙◌, sym, ap, ◌+◌, ◌<◌, ◌∷◌, [], length, drop, arith}
use Rattle.std.specs.List.{slice_range}
use Rattle.ps_language.specs.Token.{executable_name_token}
use Rattle.ps_language.specs.Reading.{token_then}
use Rattle.ps_language.proofs.Places.{byte_at}
use Rattle.ps_scan.proofs.TokenForms.{executable_name_is}
use Rattle.ps_scan.proofs.ReadingForms.{two_bytes, no_angles, single_angle, two_angles}
use Rattle.ps_scan.proofs.simple.closing_angles.Goals as goal

pub returns-then-at-bytes : goal.returns-then-at-bytes
returns-then-at-bytes c = no_angles c.args.bytes.now (c.args.at + 1) c.if-at-bytes.true

pub returns-then-bytes-at-ne62 : goal.returns-then-bytes-at-ne62
returns-then-bytes-at-ne62 c =
    single_angle c.args.bytes.now (c.args.at + 1) (omega (arith, c.if-at-bytes.false)) c.if-bytes-at-ne62.true

pub returns : goal.returns
returns c =
    let xs = c.args.bytes.now in
    let inside : c.args.at + 1 < length xs = omega (arith, c.if-at-bytes.false) in
    let two : c.args.at + 1 + 1 ≡ c.args.at + 2 = omega arith in
    let name : slice_range xs c.args.at (c.args.at + 2) ≡ 62 ∷ 62 ∷ [] = two_bytes xs c.args.at inside
    ∙ ap (λ b. b ∷ byte_at xs (c.args.at + 1) ∷ []) c.requires.angle
    ∙ ap (λ b. 62 ∷ b ∷ []) c.if-bytes-at-ne62.false in (
      two_angles xs (c.args.at + 1) inside c.if-bytes-at-ne62.false
          ∙ ap (λ n. token_then (executable_name_token (62 ∷ 62 ∷ [])) (drop n xs)) two
          ∙ ap (λ t. token_then (executable_name_token t) (drop (c.args.at + 2) xs)) (sym name)
          ∙ ap (λ t. token_then t (drop (c.args.at + 2) xs))
          (sym (executable_name_is xs (record { start = c.args.at; end = c.args.at + 2 }))),
      omega arith,
      omega (arith, inside),
    )

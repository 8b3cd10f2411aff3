-- Two angles are a name; a string is none.
use Rattle.std.proofs.Common.{◌∙◌, refl, ap, ◌+◌, ◌≡◌, ◌∷◌, [], drop, arith}
use Rattle.ps_language.specs.Token.{executable_name_token}
use Rattle.ps_language.specs.Reading.{token_then}
use Rattle.ps_scan.proofs.HexForms.{angle_angle}
use Rattle.ps_scan.proofs.passes.pass_angle.Goals as goal

pub returns-then-bytes-start-eq60 : goal.returns-then-bytes-start-eq60
returns-then-bytes-start-eq60 c =
    let xs = c.args.bytes.now in
    let two : c.args.at + 1 + 1 ≡ c.args.at + 2 = omega arith in (
      executable_name_token (60 ∷ 60 ∷ []),
      angle_angle xs (c.args.at + 1) c.if-start-bytes.true c.if-bytes-start-eq60.true
          ∙ ap (λ n. token_then (executable_name_token (60 ∷ 60 ∷ [])) (drop n xs)) two,
      refl,
      omega arith,
      omega (arith, c.if-start-bytes.true),
    )

pub returns : goal.returns
returns c = c.pass_string.ensures c.args.bytes.now c.args.at (c.args.at + 1) _ (omega arith) c.hex_extent.ensures.sized

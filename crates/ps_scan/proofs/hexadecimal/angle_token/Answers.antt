-- Two angles, a hexadecimal string of no bytes, or one that is kept; or its fault.
use Rattle.std.proofs.Common.{◌≡◌, ◌∙◌, sym, ap, ◌+◌, ◌<◌, ◌∷◌, [], length, drop, arith}
use Rattle.std.proofs.lemmas.List.{nil_from_length}
use Rattle.std.specs.List.{slice_range}
use Rattle.ps_language.specs.Token.{executable_name_token}
use Rattle.ps_language.specs.Reading.{token_then}
use Rattle.ps_language.specs.Scan.{after_hex_start}
use Rattle.ps_language.proofs.Places.{byte_at}
use Rattle.ps_scan.specs.Shown.{IsSomeString}
use Rattle.ps_scan.proofs.TokenForms.{executable_name_is}
use Rattle.ps_scan.proofs.ReadingForms.{two_bytes, fault_more}
use Rattle.ps_scan.proofs.StringForms.{sized_value, some_string, string_kept}
use Rattle.ps_scan.proofs.HexForms.{angle_angle}
use Rattle.ps_scan.proofs.hexadecimal.angle_token.Goals as goal

pub returns-then-bytes-start-eq60 : goal.returns-then-bytes-start-eq60
returns-then-bytes-start-eq60 c =
    let xs = c.args.bytes.now in
    let inside : c.args.at + 1 < length xs = c.if-start-bytes.true in
    let two : c.args.at + 1 + 1 ≡ c.args.at + 2 = omega arith in
    let name : slice_range xs c.args.at (c.args.at + 2) ≡ 60 ∷ 60 ∷ [] = two_bytes xs c.args.at inside
    ∙ ap (λ b. b ∷ byte_at xs (c.args.at + 1) ∷ []) c.requires.angle
    ∙ ap (λ b. 60 ∷ b ∷ []) c.if-bytes-start-eq60.true in (
      angle_angle xs (c.args.at + 1) inside c.if-bytes-start-eq60.true
          ∙ ap (λ n. token_then (executable_name_token (60 ∷ 60 ∷ [])) (drop n xs)) two
          ∙ ap (λ t. token_then (executable_name_token t) (drop (c.args.at + 2) xs)) (sym name)
          ∙ ap (λ t. token_then t (drop (c.args.at + 2) xs))
          (sym (executable_name_is xs (record { start = c.args.at; end = c.args.at + 2 }))),
      omega arith,
      omega (arith, inside),
    )

pub returns-in-Err : goal.returns-in-Err
returns-in-Err c =
    let reading = after_hex_start (drop (c.args.at + 1) c.args.bytes.now) in
    fault_more (IsSomeString reading) reading c.in-Err.fault c.in-Err.ensures.sized

pub returns-then-extent-eq0 : goal.returns-then-extent-eq0
returns-then-extent-eq0 c =
    let sized = c.in-Ok.ensures.sized in (
      string_kept c.args.bytes.now _ sized.0 _ c.new.result sized.1 (c.new.ensures.items
          ∙ sym (nil_from_length sized.0 (sized.2 ∙ c.if-extent-eq0.true))),
      omega (arith, sized.4),
      sized.5,
    )

pub returns-in-Ok-hex_bytes : goal.returns-in-Ok-hex_bytes
returns-in-Ok-hex_bytes c =
    let sized = c.in-Ok.ensures.sized in
    let inner = c.in-Ok.ensures.inner in (
      string_kept c.args.bytes.now _ sized.0 _ c.in-Ok-hex_bytes.string sized.1 (c.in-Ok-hex_bytes.ensures
          ∙ sized_value _ sized.0 _ _ (sym inner.1 ∙ sized.1)),
      omega (arith, sized.4),
      sized.5,
    )

pub returns-in-Err-hex_bytes : goal.returns-in-Err-hex_bytes
returns-in-Err-hex_bytes c =
    let sized = c.in-Ok.ensures.sized in
    some_string _ sized.0 _ sized.1 (λ none. c.if-extent-eq0.false (sym sized.2 ∙ none))

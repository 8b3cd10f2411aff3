-- Behind one slash a literal name, behind two a name that is looked up at once.
use Rattle.std.proofs.Common.{◌≡◌, ◌∙◌, ap, sym, ◌+◌, drop, arith}
use Rattle.ps_language.specs.Token.{literal_name_token, immediate_name_token}
use Rattle.ps_language.specs.Reading.{token_then}
use Rattle.ps_language.specs.Reading.{sized_name}
use Rattle.ps_language.specs.Bytes.{is_regular}
use Rattle.ps_language.specs.Scan.{leading, beyond, after_slash}
use Rattle.ps_scan.proofs.TokenForms.{literal_name_is, immediate_name_is}
use Rattle.ps_scan.proofs.ReadingForms.{slash_end, slash_slash, slash_other}
use Rattle.ps_scan.proofs.words.slash_token.Goals as goal
use Rattle.ps_scan.proofs.words.slash_token.Goals.{then-start-bytes+else-bytes-start-eq47, else-start-bytes}

pub returns-in-Some : goal.returns-in-Some
returns-in-Some c =
    let xs = c.args.bytes.now in (
      slash_slash xs (c.args.at + 1) c.if-start-bytes.true c.if-bytes-start-eq47.true
          ∙ c.in-Some.ensures.reading immediate_name_token
          ∙ ap (λ t. token_then t (drop c.in-Some.name.end xs)) (sym (immediate_name_is xs c.in-Some.name)),
      omega (arith, c.in-Some.ensures.place),
      c.in-Some.ensures.place.1,
    )

pub returns-in-None : goal.returns-in-None
returns-in-None c = slash_slash c.args.bytes.now (c.args.at + 1) c.if-start-bytes.true c.if-bytes-start-eq47.true
    ∙ c.in-None.ensures.reading immediate_name_token

pub returns-in-Some-name_from : goal.returns-in-Some-name_from
returns-in-Some-name_from c =
    let xs = c.args.bytes.now in
    let name : after_slash (drop (c.args.at + 1) xs)
    ≡ sized_name literal_name_token (leading is_regular (drop (c.args.at + 1) xs))
    (beyond is_regular (drop (c.args.at + 1) xs)) = elim c.if-start-bytes.branch [
      | then-start-bytes+else-bytes-start-eq47 w ↦ slash_other xs
          (c.args.at + 1) w.if-start-bytes.true w.if-bytes-start-eq47.false
      | else-start-bytes w ↦ slash_end xs (c.args.at + 1) w.if-start-bytes.false
    ] in (
      name ∙ c.in-Some-name_from.ensures.reading literal_name_token
          ∙ ap (λ t. token_then t (drop c.in-Some-name_from.name.end xs))
          (sym (literal_name_is xs c.in-Some-name_from.name)),
      omega (arith, c.in-Some-name_from.ensures.place),
      c.in-Some-name_from.ensures.place.1,
    )

pub returns-in-None-name_from : goal.returns-in-None-name_from
returns-in-None-name_from c =
    let xs = c.args.bytes.now in
    let name : after_slash (drop (c.args.at + 1) xs)
    ≡ sized_name literal_name_token (leading is_regular (drop (c.args.at + 1) xs))
    (beyond is_regular (drop (c.args.at + 1) xs)) = elim c.if-start-bytes.branch [
      | then-start-bytes+else-bytes-start-eq47 w ↦ slash_other xs
          (c.args.at + 1) w.if-start-bytes.true w.if-bytes-start-eq47.false
      | else-start-bytes w ↦ slash_end xs (c.args.at + 1) w.if-start-bytes.false
    ] in
    name ∙ c.in-None-name_from.ensures.reading literal_name_token

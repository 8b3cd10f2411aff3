-- A run is a number, past the limits, or a name.
use Rattle.std.proofs.Common.{◌≡◌, ◌∙◌, ap, sym, drop, arith, to_z, of_z, w32}
use Rattle.std.proofs.lemmas.Int.{ints}
use Rattle.std.specs.List.{slice_range}
use Rattle.ps_language.specs.Token.{number_token, executable_name_token}
use Rattle.ps_language.specs.Reading.{token_then}
use Rattle.ps_language.specs.Scan.{word_of}
use Rattle.ps_scan.proofs.TokenForms.{integer_is, executable_name_is}
use Rattle.ps_scan.proofs.ReadingForms.{length_slice, word_at, read_integer, read_past, read_name, named_short}
use Rattle.ps_scan.proofs.ReadingForms.{named_long}
use Rattle.ps_scan.proofs.words.word_token.Goals as goal

pub returns-in-Integer : goal.returns-in-Integer
returns-in-Integer c =
    let xs = c.args.bytes.now in
    let end = c.run_end-end.result in
    let same : c.in-Integer.number ≡ to_z w32 (of_z w32 c.in-Integer.number) = omega (arith, ints) in (
      word_at xs c.args.at end c.requires.inside c.requires.regular c.run_end-end.ensures.rest c.run_end-end.ensures.low
          c.run_end-end.ensures.high
          ∙ read_integer (slice_range xs c.args.at end) (drop end xs)
          (word_of (slice_range xs c.args.at end)) c.in-Integer.number c.in-Integer.ensures
          ∙ ap (λ z. token_then (number_token z) (drop end xs)) same
          ∙ ap (λ t. token_then t (drop end xs))
          (sym (integer_is xs (to_z w32 (of_z w32 c.in-Integer.number)))),
      omega (arith, c.run_end-end.ensures.low),
      c.run_end-end.ensures.high,
    )

pub returns-in-PastLimits : goal.returns-in-PastLimits
returns-in-PastLimits c =
    let xs = c.args.bytes.now in
    let end = c.run_end-end.result in
    word_at xs c.args.at end c.requires.inside c.requires.regular c.run_end-end.ensures.rest c.run_end-end.ensures.low
    c.run_end-end.ensures.high
    ∙ read_past (slice_range xs c.args.at end) (drop end xs)
    (word_of (slice_range xs c.args.at end)) c.in-PastLimits.ensures

pub returns-then-end-at-gt-NAME_LIMIT : goal.returns-then-end-at-gt-NAME_LIMIT
returns-then-end-at-gt-NAME_LIMIT c =
    let xs = c.args.bytes.now in
    let end = c.run_end-end.result in
    word_at xs c.args.at end c.requires.inside c.requires.regular c.run_end-end.ensures.rest c.run_end-end.ensures.low
    c.run_end-end.ensures.high
    ∙ read_name (slice_range xs c.args.at end) (drop end xs)
    (word_of (slice_range xs c.args.at end)) c.in-NoNumber.ensures
    ∙ named_long executable_name_token (slice_range xs c.args.at end) (drop end xs)
    (omega (arith, length_slice xs c.args.at end c.run_end-end.ensures.high))

pub returns-else-end-at-gt-NAME_LIMIT : goal.returns-else-end-at-gt-NAME_LIMIT
returns-else-end-at-gt-NAME_LIMIT c =
    let xs = c.args.bytes.now in
    let end = c.run_end-end.result in (
      word_at xs c.args.at end c.requires.inside c.requires.regular c.run_end-end.ensures.rest c.run_end-end.ensures.low
          c.run_end-end.ensures.high
          ∙ read_name (slice_range xs c.args.at end) (drop end xs)
          (word_of (slice_range xs c.args.at end)) c.in-NoNumber.ensures
          ∙ named_short executable_name_token (slice_range xs c.args.at end) (drop end xs)
          (omega (arith, length_slice xs c.args.at end c.run_end-end.ensures.high))
          ∙ ap (λ t. token_then t (drop end xs))
          (sym (executable_name_is xs (record { start = c.args.at; end = end }))),
      omega (arith, c.run_end-end.ensures.low),
      c.run_end-end.ensures.high,
    )

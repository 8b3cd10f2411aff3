-- A string of no bytes, or one that is kept; or its fault.
use Rattle.std.proofs.Common.{◌∙◌, ◌+◌, sym, drop, arith}
use Rattle.std.proofs.lemmas.List.{nil_from_length}
use Rattle.ps_language.specs.Reading.{string_reading}
use Rattle.ps_language.specs.Scan.{string_from}
use Rattle.ps_scan.specs.Shown.{IsSomeString}
use Rattle.ps_scan.proofs.ReadingForms.{fault_more}
use Rattle.ps_scan.proofs.StringForms.{ending_is, some_string, string_kept}
use Rattle.ps_scan.proofs.strings.string_token.Goals as goal

pub returns-in-Err : goal.returns-in-Err
returns-in-Err c =
    let reading = string_reading (string_from 0 (drop (c.args.at + 1) c.args.bytes.now)) in
    fault_more (IsSomeString reading) reading c.in-Err.fault c.in-Err.ensures

pub returns-then-extent-eq0 : goal.returns-then-extent-eq0
returns-then-extent-eq0 c =
    let sized = c.in-Ok.ensures in (
      string_kept c.args.bytes.now _ sized.0 _ c.new.result sized.1 (c.new.ensures.items
          ∙ sym (nil_from_length sized.0 (sized.2 ∙ c.if-extent-eq0.true))),
      omega (arith, sized.4),
      sized.5,
    )

pub returns-in-Ok-string_bytes : goal.returns-in-Ok-string_bytes
returns-in-Ok-string_bytes c =
    let sized = c.in-Ok.ensures in (
      string_kept c.args.bytes.now _ sized.0 _ c.in-Ok-string_bytes.string sized.1
          (c.in-Ok-string_bytes.ensures sized.0 _ (ending_is _ sized.0 _ sized.1)),
      omega (arith, sized.4),
      sized.5,
    )

pub returns-in-Err-string_bytes : goal.returns-in-Err-string_bytes
returns-in-Err-string_bytes c =
    let sized = c.in-Ok.ensures in some_string _ sized.0 _ sized.1 (λ none. c.if-extent-eq0.false (sym sized.2 ∙ none))

-- Each plain byte is one of the string.
use Rattle.std.proofs.Common.{◌+◌, ◌∙◌, ◌∷◌, [], drop, sym, ap}
use Rattle.std.specs.List.{slice_range}
use Rattle.ps_language.specs.Reading.{with_front}
use Rattle.ps_language.specs.Scan.{string_from}
use Rattle.ps_language.proofs.Places.{byte_at}
use Rattle.ps_language.proofs.ScanSteps.{with_front_twice}
use Rattle.ps_language.proofs.StringPlaces.{string_plain}
use Rattle.ps_scan.proofs.StringForms.{no_front, run_none, run_more}
use Rattle.ps_scan.proofs.strings.plain_end.Goals as goal

pub loop-here-init : goal.loop-here-init
loop-here-init c = λ depth.
    let rest = string_from depth (drop c.args.at c.args.bytes.now) in
    sym (ap (λ front. with_front front rest) (run_none c.args.bytes.now c.args.at) ∙ no_front rest)

pub loop-here-preserved : goal.loop-here-preserved
loop-here-preserved c = λ depth.
    let xs = c.args.bytes.now in
    let i = c.loop-here.here in
    let rest = string_from depth (drop (i + 1) xs) in
    let front = slice_range xs c.args.at i in
    let plain = c.is_plain_byte.ensures c.if-not-is_plain_byte.false in
    c.loop-here.invariant depth
    ∙ (ap (with_front front) (string_plain depth xs i c.loop-here-test.true plain)
    ∙ (with_front_twice front (byte_at xs i ∷ []) rest
    ∙ ap (λ more. with_front more rest) (sym (run_more xs c.args.at i c.loop-here.auto.here c.loop-here-test.true))))

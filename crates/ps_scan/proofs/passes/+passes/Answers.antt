-- A procedure element by element; a token by its first byte.
use Rattle.std.proofs.Common.{◌≡◌, ◌∙◌, refl, sym, ap, ◌+◌, ◌∷◌, [], ◌++◌, drop, arith}
use Rattle.std.proofs.lemmas.List.{length-append}
use Rattle.ps_language.specs.Token.{procedure_token}
use Rattle.ps_scan.specs.Shown.{elements_in}
use Rattle.ps_scan.proofs.ProcedureForms.{with_all, elements_at, all_more, missing_brace, closing_brace, one_element}
use Rattle.ps_scan.proofs.ProcedureForms.{faulty_answer, enclosed_fault, enclosed_short, enclosed_long, nothing_left}
use Rattle.ps_scan.proofs.ProcedureForms.{brace_at, deep_brace_at, no_brace_at}
use Rattle.ps_scan.proofs.Passing.{same_passed}
use Rattle.ps_scan.proofs.passes.+passes.Goals as goal

pub pass_procedure-returns-then-here-bytes : goal.pass_procedure-returns-then-here-bytes
pass_procedure-returns-then-here-bytes t c =
    let front = c.loop-place.invariant.front in
    enclosed_fault _ front.0 _ _ front.1
    (missing_brace c.args.room c.args.bytes.now c.loop-place.place c.blank_end-here.result
    c.blank_end-here.ensures.rest c.if-here-bytes.true)

pub pass_procedure-returns-then-count-gt-SEQUENCE_LIMIT : goal.pass_procedure-returns-then-count-gt-SEQUENCE_LIMIT
pass_procedure-returns-then-count-gt-SEQUENCE_LIMIT t c =
    let front = c.loop-place.invariant.front in
    enclosed_long _ front.0 _ _ front.1
    (closing_brace c.args.room c.args.bytes.now c.loop-place.place c.blank_end-here.result
    c.blank_end-here.ensures.rest (omega (arith, c.if-here-bytes.false)) c.if-bytes-here-eq125.true)
    (omega (arith, front.2, c.if-count-gt-SEQUENCE_LIMIT.true))

pub pass_procedure-returns-then-bytes-here-eq125 : goal.pass_procedure-returns-then-bytes-here-eq125
pass_procedure-returns-then-bytes-here-eq125 t c =
    let front = c.loop-place.invariant.front in
    let rest = drop (c.blank_end-here.result + 1) c.args.bytes.now in (
      procedure_token (elements_in front.0),
      enclosed_short _ front.0 _ rest front.1
          (closing_brace c.args.room c.args.bytes.now c.loop-place.place c.blank_end-here.result
          c.blank_end-here.ensures.rest (omega (arith, c.if-here-bytes.false)) c.if-bytes-here-eq125.true)
          (omega (arith, front.2, c.if-count-gt-SEQUENCE_LIMIT.false)),
      refl,
      omega (arith, c.blank_end-here.ensures.low, c.loop-place.invariant.low),
      omega (arith, c.if-here-bytes.false),
    )

pub pass_procedure-returns-in-Err : goal.pass_procedure-returns-in-Err
pass_procedure-returns-in-Err t c =
    let front = c.loop-place.invariant.front in
    faulty_answer c.args.room c.args.bytes.now c.loop-place.place c.blank_end-here.result _ _ front.0 _ c.in-Err.fault
    (λ no. no) c.blank_end-here.ensures.rest (omega (arith, c.if-here-bytes.false)) c.if-bytes-here-eq125.false
    front.1 c.in-Err.ensures

pub pass_procedure-loop-place-preserved : goal.pass_procedure-loop-place-preserved
pass_procedure-loop-place-preserved t c =
    let xs = c.args.bytes.now in
    let front = c.loop-place.invariant.front in
    let passed = c.in-Ok.ensures in
    let end = c.in-Ok.element.end in
    let step : with_all (front.0 ++ passed.0 ∷ []) (elements_at c.args.room xs end)
    ≡ elements_at c.args.room xs (c.args.at + 1) = all_more front.0 passed.0 (elements_at c.args.room xs end)
    ∙ ap (with_all front.0)
    (sym (one_element c.args.room xs c.loop-place.place c.blank_end-here.result end passed.0
    c.blank_end-here.ensures.rest (omega (arith, c.if-here-bytes.false)) c.if-bytes-here-eq125.false passed.1))
    ∙ front.1 in
    record {
      low = omega (arith, passed.3, c.blank_end-here.ensures.low, c.loop-place.invariant.low);
      high = passed.4;
      few = omega (arith, passed.3, c.blank_end-here.ensures.low, c.loop-place.invariant.few);
      front = (front.0 ++ passed.0 ∷ [], step, omega (arith, length-append front.0 (passed.0 ∷ []), front.2));
    }

pub pass_procedure-returns : goal.pass_procedure-returns
pass_procedure-returns t c =
    let front = c.loop-place.invariant.front in
    enclosed_fault _ front.0 _ _ front.1
    (nothing_left c.args.room c.args.bytes.now c.loop-place.place c.loop-place-test.false)

pub pass_token-returns-then-bytes-at-ne123 : goal.pass_token-returns-then-bytes-at-ne123
pass_token-returns-then-bytes-at-ne123 t c =
    same_passed c.args.bytes.now c.args.at _ _ _
    (no_brace_at c.args.room c.args.bytes.now c.args.at c.if-bytes-at-ne123.true) c.pass_simple.ensures

pub pass_token-returns-then-room-eq0 : goal.pass_token-returns-then-room-eq0
pass_token-returns-then-room-eq0 t c =
    deep_brace_at c.args.room c.args.bytes.now c.args.at c.if-room-eq0.true c.if-bytes-at-ne123.false

pub pass_token-returns : goal.pass_token-returns
pass_token-returns t c =
    same_passed c.args.bytes.now c.args.at _ _ _
    (brace_at c.args.room c.args.bytes.now c.args.at c.if-room-eq0.false c.if-bytes-at-ne123.false)
    c.pass_procedure.ensures

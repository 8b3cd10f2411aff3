-- A procedure element by element; a token by its first byte.
use Rattle.std.proofs.Common.{◌≡◌, ◌∙◌, sym, ap, subst, ◌+◌, ◌∷◌, [], ◌++◌, drop, arith, inl, inr}
use Rattle.std.proofs.lemmas.List.{length-append}
use Rattle.std.proofs.lemmas.Bool.{true≢false}
use Rattle.ps_language.specs.Bytes.{is_regular}
use Rattle.ps_language.specs.Reading.{token_then}
use Rattle.ps_scan.specs.Shown.{IsSomeString, token_of}
use Rattle.ps_scan.proofs.TokenForms.{procedure_is}
use Rattle.ps_scan.proofs.ReadingForms.{same_answer, regular_at}
use Rattle.ps_scan.proofs.ProcedureForms.{with_all, elements_at, all_more, missing_brace, closing_brace, one_element}
use Rattle.ps_scan.proofs.ProcedureForms.{faulty_answer, enclosed_fault, enclosed_short, enclosed_long, nothing_left}
use Rattle.ps_scan.proofs.ProcedureForms.{brace_at, deep_brace_at, no_brace_at, kept_more, on_ok}
use Rattle.ps_scan.proofs.procedures.+procedures.Goals as goal

pub procedure_token-returns-then-here-bytes : goal.procedure_token-returns-then-here-bytes
procedure_token-returns-then-here-bytes t c =
    let front = c.loop-place.invariant.front in
    enclosed_fault _ front.0 _ _ front.1
    (missing_brace c.args.room c.args.bytes.now c.loop-place.place c.blank_end-here.result
    c.blank_end-here.ensures.rest c.if-here-bytes.true)

pub procedure_token-returns-then-count-gt-SEQUENCE_LIMIT : goal.procedure_token-returns-then-count-gt-SEQUENCE_LIMIT
procedure_token-returns-then-count-gt-SEQUENCE_LIMIT t c =
    let front = c.loop-place.invariant.front in
    enclosed_long _ front.0 _ _ front.1
    (closing_brace c.args.room c.args.bytes.now c.loop-place.place c.blank_end-here.result
    c.blank_end-here.ensures.rest (omega (arith, c.if-here-bytes.false)) c.if-bytes-here-eq125.true)
    (omega (arith, front.2, c.if-count-gt-SEQUENCE_LIMIT.true))

pub procedure_token-returns-then-bytes-here-eq125 : goal.procedure_token-returns-then-bytes-here-eq125
procedure_token-returns-then-bytes-here-eq125 t c =
    let front = c.loop-place.invariant.front in
    let rest = drop (c.blank_end-here.result + 1) c.args.bytes.now in (
      enclosed_short _ front.0 _ rest front.1
          (closing_brace c.args.room c.args.bytes.now c.loop-place.place c.blank_end-here.result
          c.blank_end-here.ensures.rest (omega (arith, c.if-here-bytes.false)) c.if-bytes-here-eq125.true)
          (omega (arith, front.2, c.if-count-gt-SEQUENCE_LIMIT.false))
          ∙ ap (λ t. token_then t rest) (procedure_is c.args.bytes.now c.loop-place.elements front.0
          (front.3 c.if-count-gt-SEQUENCE_LIMIT.false)),
      omega (arith, c.blank_end-here.ensures.low, c.loop-place.invariant.low),
      omega (arith, c.if-here-bytes.false),
    )

pub procedure_token-returns-in-Err : goal.procedure_token-returns-in-Err
procedure_token-returns-in-Err t c =
    let front = c.loop-place.invariant.front in
    faulty_answer c.args.room c.args.bytes.now c.loop-place.place c.blank_end-here.result _ _ front.0 _ c.in-Err.fault
    (λ _. tt) c.blank_end-here.ensures.rest (omega (arith, c.if-here-bytes.false)) c.if-bytes-here-eq125.false
    front.1 c.in-Err.ensures

pub procedure_token-loop-place-preserved : goal.procedure_token-loop-place-preserved
procedure_token-loop-place-preserved t c =
    let xs = c.args.bytes.now in
    let front = c.loop-place.invariant.front in
    let end = c.in-Ok.token.end in
    let token = token_of xs c.in-Ok.token.kind in
    let step : with_all (front.0 ++ token ∷ []) (elements_at c.args.room xs end)
    ≡ elements_at c.args.room xs (c.args.at + 1) = all_more front.0 token (elements_at c.args.room xs end)
    ∙ ap (with_all front.0)
    (sym (one_element c.args.room xs c.loop-place.place c.blank_end-here.result end token
    c.blank_end-here.ensures.rest (omega (arith, c.if-here-bytes.false)) c.if-bytes-here-eq125.false
    c.in-Ok.ensures.0)) ∙ front.1 in
    record {
      low = omega (arith, c.in-Ok.ensures.1, c.blank_end-here.ensures.low, c.loop-place.invariant.low);
      high = c.in-Ok.ensures.2;
      few = omega (arith, c.in-Ok.ensures.1, c.blank_end-here.ensures.low, c.loop-place.invariant.few);
      front = (
        front.0 ++ token ∷ [],
        step,
        omega (arith, length-append front.0 (token ∷ []), front.2),
        λ few. kept_more (token_of xs) front.0 c.loop-place.elements.items c.keep_element.new.elements.items
            c.in-Ok.token.kind c.loop-place.count front.2 (front.3 (omega (arith, few))) few
            (on_ok c.keep_element.result _ (sym c.is_err.ensures.value ∙ c.if-is_err.false) c.keep_element.ensures),
      );
    }

pub procedure_token-returns : goal.procedure_token-returns
procedure_token-returns t c =
    let front = c.loop-place.invariant.front in
    enclosed_fault _ front.0 _ _ front.1
    (nothing_left c.args.room c.args.bytes.now c.loop-place.place c.loop-place-test.false)

pub token_from-returns-then-bytes-at-ne123 : goal.token_from-returns-then-bytes-at-ne123
token_from-returns-then-bytes-at-ne123 t c =
    let same = no_brace_at c.args.room c.args.bytes.now c.args.at c.if-bytes-at-ne123.true in
    same_answer _ _ c.args.bytes.now c.args.at _ _ _ (λ h. inr (
      h.0,
      subst IsSomeString (sym same) h.1,
    )) same c.simple_token.ensures

pub token_from-returns-then-room-eq0 : goal.token_from-returns-then-room-eq0
token_from-returns-then-room-eq0 t c =
    deep_brace_at c.args.room c.args.bytes.now c.args.at c.if-room-eq0.true c.if-bytes-at-ne123.false

pub token_from-returns : goal.token_from-returns
token_from-returns t c =
    same_answer _ _ c.args.bytes.now c.args.at _ _ _ (λ h. inl c.if-bytes-at-ne123.false)
    (brace_at c.args.room c.args.bytes.now c.args.at c.if-room-eq0.false c.if-bytes-at-ne123.false)
    c.procedure_token.ensures

pub outer_token-returns-then-is_regular_byte : goal.outer_token-returns-then-is_regular_byte
outer_token-returns-then-is_regular_byte t c =
    let regular = sym c.is_regular_byte.ensures ∙ c.if-is_regular_byte.true in
    same_answer ⊥ _ c.args.bytes.now c.args.at _ _ _ (λ no. absurd no)
    (no_brace_at c.args.room c.args.bytes.now c.args.at (λ brace. true≢false (sym regular ∙ ap is_regular brace))
    ∙ regular_at c.args.bytes.now c.args.at regular) c.word_token.ensures

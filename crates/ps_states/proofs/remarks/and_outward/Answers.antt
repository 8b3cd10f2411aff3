use Rattle.std.proofs.Common.{◌≡◌, ◌<◌, ◌≤◌, ◌∙◌, ◌-◌, Some, None, Bool, drop, take, length, sym, ap, arith}
use Rattle.std.specs.Prelude.{option_map, if◌then◌else◌}
use Rattle.std.proofs.lemmas.Result.{on_ok_weaker}
use Rattle.std.proofs.lemmas.Bool.{le-ltb, lt-ltb}
use Rattle.ps_views.specs.declared.steps.Remark.TheVariants.{Starts}
use Rattle.ps_views.specs.Steps.{remark_text}
use Rattle.ps_states.specs.Steps.{and_remark, printed_text, started}
use Rattle.ps_states.proofs.Beside.{rest_taken}
use Rattle.ps_states.proofs.Each.{made_all}
use Rattle.ps_states.proofs.remarks.and_outward.Goals as goal
use Rattle.ps_states.proofs.remarks.and_outward.Goals.{then-known-made, else-known-made}

pub returns : goal.returns
returns g c = λ w is.
    let h = g.M.Memory.heap c.args.runtime.now.memory in
    let names = c.args.runtime.now.shared.names in
    let all = made_all h names c.args.contexts.now.table w is.contexts in
    let made : c.made-made.result ≡ length w.contexts = omega (arith, all, c.made-made.ensures.made) in
    let before = c.args.known.now.contexts in
    let begun : option_map remark_text c.if-known-made.started ≡ started before w =
    elim c.if-known-made.branch [
      | then-known-made b ↦
          let less : before < length w.contexts = omega (arith, made, b.if-known-made.true) in
          ap (option_map remark_text) b.started-is
          ∙ ap (λ n. Some (remark_text (Starts n))) made
          ∙ sym (ap (λ (t : Bool). if t then Some (remark_text (Starts (length w.contexts))) else None)
          (lt-ltb before (length w.contexts) less))
      | else-known-made b ↦
          let none : length w.contexts ≤ before = omega (arith, made, b.if-known-made.false) in
          ap (option_map remark_text) b.started-is
          ∙ sym (ap (λ (t : Bool). if t then Some (remark_text (Starts (length w.contexts))) else None)
          (le-ltb before (length w.contexts) none))
    ] in
    let all_printed = c.as_slice-printed.result.now in
    let same : all_printed ≡ w.printed = c.as_slice-printed.ensures ∙ sym is.printed in
    let rest : take (length all_printed - c.min.result) (drop c.min.result all_printed)
    ≡ drop c.args.known.now.printed w.printed =
    ap (λ m. take (length all_printed - m) (drop m all_printed)) c.min.ensures
    ∙ rest_taken all_printed c.args.known.now.printed ∙ ap (drop c.args.known.now.printed) same in
    on_ok_weaker c.and_printed.result (λ so. so
    ∙ ap (λ told. and_remark told (printed_text (take (length all_printed - c.min.result)
    (drop c.min.result all_printed))))
    (c.in_ok-and_remark.ensures ∙ ap (and_remark c.args.to.now.items) begun)
    ∙ ap (λ bytes. and_remark (and_remark c.args.to.now.items (started before w)) (printed_text bytes))
    rest) c.and_printed.ensures

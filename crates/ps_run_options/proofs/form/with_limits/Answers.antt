use Rattle.std.proofs.Common.{◌≡◌, ap, ap₂, ◌∙◌, refl, codes}
use Rattle.std.proofs.lemmas.Result.{IfOk-weaker}
use Rattle.clap.specs.Words.{Rule, rule_of, with_rule}
use Rattle.ps_run_options.specs.CommandLine.{number_rule, within}
use Rattle.ps_run_options.proofs.form.with_limits.Goals as goal

pub returns : goal.returns
returns c =
    let quantum : rule_of c.within.result ≡ number_rule (codes "quantum") (codes "100") 1 65535 =
    c.within.ensures.rule ∙ ap (λ (r : Rule). within r 1 65535) c.number-quantum.ensures.rule in
    IfOk-weaker c.arg-4.result _ _ (λ made added.
    added.shape c.valued-entries.ensures.local
    ∙ ap₂ with_rule (c.in_ok-arg-3.ensures.shape c.valued-output.ensures.local
    ∙ ap₂ with_rule (c.in_ok-arg-2.ensures.shape c.number-steps.ensures.local
    ∙ ap₂ with_rule (c.in_ok-arg.ensures.shape (c.within.ensures.local
    ∙ c.number-quantum.ensures.local) ∙ ap₂ with_rule refl quantum) c.number-steps.ensures.rule)
    c.valued-output.ensures.rule) c.valued-entries.ensures.rule) c.arg-4.ensures

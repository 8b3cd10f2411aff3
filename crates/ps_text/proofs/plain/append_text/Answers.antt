use Rattle.std.proofs.Common.{◌≡◌, true, sym, ◌∙◌}
use Rattle.ps_language.specs.Access.{is_readable}
use Rattle.ps_text.proofs.plain.append_text.Goals as goal

pub returns-clause-ok : goal.returns-clause-ok
returns-clause-ok g c = λ names s shows within.
    let readable : is_readable c.args.part.access ≡ true = sym c.is_readable.ensures ∙ c.if-not-is_readable.false in
    rw readable (c.append_part.ensures.ok names s shows within)

use Rattle.ps_text.proofs.full.append_simple.Goals as goal

pub returns-in-Text-clause-ok : goal.returns-in-Text-clause-ok
returns-in-Text-clause-ok g c =
    rw c.in-Text.is (λ s shows within. c.append_string.ensures.ok c.args.printer.now.names.now s shows within)

pub returns-in-Text-clause-full : goal.returns-in-Text-clause-full
returns-in-Text-clause-full g c =
    rw c.in-Text.is (λ s shows within. c.append_string.ensures.full c.args.printer.now.names.now s shows within)

use Rattle.ps_ops_operands.proofs.Intervals.{interval_stands, interval_within}
use Rattle.ps_ops_operands.proofs.readers.string_interval.Goals as goal

pub returns-clause-held : goal.returns-clause-held
returns-clause-held c = λ h held. c.with_string_part.ensures.held h
    (interval_stands h c.args.string c.args.part c.interval.result c.args.place c.args.count
    c.requires.string c.requires.within c.interval.ensures held)

pub returns-clause-within : goal.returns-clause-within
returns-clause-within c = λ births names store within.
    c.with_string_part.ensures.within births names store (interval_within births names store
    c.args.string c.args.part c.interval.result c.args.place c.args.count c.requires.string
    c.requires.within c.interval.ensures within)

-- What the token came to.
use Rattle.ps_step.proofs.Reading.{word_reads}
use Rattle.ps_step.proofs.tokens.word_ahead.Goals as goal

pub do_ahead-requires-clause-good : goal.do_ahead-requires-clause-good
do_ahead-requires-clause-good g c = c.requires.good

pub returns-clause-reads : goal.returns-clause-reads
returns-clause-reads g c =
    word_reads g.O.Operate.asks (g.M.Memory.heap c.args.memory.now) c.args.dictionaries.now
    c.args.shared.now.names c.args.shared.now.program.now c.args.window.now.bytes.items
    c.args.cursor.source c.args.cursor.at
    c.in-Some.token c.in-Some.ensures.scanned c.in-Some.ensures.token c.do_ahead.result
    c.args.operands.now c.do_ahead.new.operands
    (rw c.scanned_bytes-text.ensures at c.do_ahead.ensures.reads)

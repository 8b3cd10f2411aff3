-- The token is done as its word is, as an element.
use Rattle.std.proofs.Common.{refl}
use Rattle.ps_scan.specs.Shown.{token_of}
use Rattle.ps_step.proofs.Reading.{word_does}
use Rattle.ps_step.proofs.tokens.do_ahead.Goals as goal

pub do_quickly-requires-clause-good : goal.do_quickly-requires-clause-good
do_quickly-requires-clause-good g c = c.requires.good

pub do_quickly-requires-clause-word : goal.do_quickly-requires-clause-word
do_quickly-requires-clause-word g c = c.in-Some.ensures.done.held _

pub returns-in-Done-clause-reads : goal.returns-in-Done-clause-reads
returns-in-Done-clause-reads g c = (
  refl,
  word_does g.O.Operate.asks (g.M.Memory.heap c.args.memory.now) c.args.dictionaries.now
      c.args.names.now (token_of c.args.text.now c.args.token.now.kind) c.in-Some.word
      c.args.operands.now c.do_quickly.new.operands c.in-Some.ensures.done
      (rw c.in-Done.is at c.do_quickly.ensures.comes),
)

-- Of an array or a string, or else of a dictionary.
use Rattle.ps_ops.proofs.ahead.get_ahead.Goals as goal

pub returns-then-get_quickly-clause-acts : goal.returns-then-get_quickly-clause-acts
returns-then-get_quickly-clause-acts g c = λ yes. c.get_quickly.ensures.acts c.if-get_quickly.true

pub get_value_quickly-requires : goal.get_value_quickly-requires
get_value_quickly-requires g c = record {
  ready = rw (c.get_quickly.ensures.heap, c.get_quickly.ensures.same c.if-get_quickly.false)
      c.requires.ready;
}

pub returns-clause-acts : goal.returns-clause-acts
returns-clause-acts g c =
    rw (c.get_quickly.ensures.heap, c.get_quickly.ensures.same c.if-get_quickly.false)
    at c.get_value_quickly.ensures.acts

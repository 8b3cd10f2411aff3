-- A guess that holds is the text's number.
use Rattle.ps_names.proofs.Places.{stands_at}
use Rattle.ps_names.proofs.names.Names.find.Goals as goal

pub returns-then-is_at-clause-stands : goal.returns-then-is_at-clause-stands
returns-then-is_at-clause-stands c =
    stands_at c.args.text.now c.args.self.now c.guess-id.result.0 (c.is_at.ensures.is.0 c.if-is_at.true)

pub returns-then-is_at-2-clause-stands : goal.returns-then-is_at-2-clause-stands
returns-then-is_at-2-clause-stands c =
    stands_at c.args.text.now c.args.self.now c.guess-id-2.result.0 (c.is_at-2.ensures.is.0 c.if-is_at-2.true)

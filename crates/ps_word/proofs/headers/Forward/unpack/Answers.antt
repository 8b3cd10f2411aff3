use Rattle.ps_word.proofs.HeaderPlaces.{forward-some, forward-none}
use Rattle.ps_word.proofs.headers.Forward.unpack.Goals as goal

pub returns-then-cycle-ge-CYCLE_LIMIT : goal.returns-then-cycle-ge-CYCLE_LIMIT
returns-then-cycle-ge-CYCLE_LIMIT c =
    forward-none c.args.word.0 c.if-cycle-ge-CYCLE_LIMIT.true

pub returns : goal.returns
returns c = forward-some c.args.word.0 c.if-cycle-ge-CYCLE_LIMIT.false

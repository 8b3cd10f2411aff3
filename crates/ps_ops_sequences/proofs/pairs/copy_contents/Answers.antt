-- What was written.
use Rattle.std.proofs.Common.{sym, subst}
use Rattle.ps_mem.specs.Shows.{Shows}
use Rattle.ps_ops_sequences.proofs.PairRows.{nothing_written}
use Rattle.ps_ops_sequences.proofs.pairs.copy_contents.Goals as goal

pub returns-then-pair-eq0-clause-shows : goal.returns-then-pair-eq0-clause-shows
returns-then-pair-eq0-clause-shows g c = λ names s shows within.
    let h = g.M.Memory.heap c.args.memory.now in
    let pair = c.args.pair in
    subst (Shows h names) (sym (nothing_written h names s shows pair.of pair.from pair.to c.args.place
    c.requires.pair.to c.if-pair-eq0.true)) shows

pub returns-in-Arrays-clause-shows : goal.returns-in-Arrays-clause-shows
returns-in-Arrays-clause-shows g c = λ names s shows within.
    let written = rw c.permitted.ensures.heap at c.copy_elements.ensures.shows in
    rw c.in-Arrays.is (written names s shows)

pub returns-in-Ok-clause-shows : goal.returns-in-Ok-clause-shows
returns-in-Ok-clause-shows g c = λ names s shows within.
    let written = rw c.permitted.ensures.heap at c.in-Ok.ensures.shows in
    let from = rw c.in-Strings.is at within.from in
    let to = rw c.in-Strings.is at within.to in
    rw c.in-Strings.is (written names s shows from to)

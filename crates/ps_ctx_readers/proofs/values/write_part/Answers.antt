use Rattle.std.proofs.Common.{List, ℕ, ap, sym, ◌∙◌}
use Rattle.ps_ctx_readers.specs.Values.{written}
use Rattle.ps_ctx_readers.proofs.Valued.{written_whole}
use Rattle.ps_ctx_readers.proofs.values.write_part.Goals as goal

pub returns-then-whole-clause-written : goal.returns-then-whole-clause-written
returns-then-whole-clause-written g c = λ names s shows within.
    let room = c.args.room.now in
    written_whole c.read_part.new.text room c.from-count.result
    (c.read_part.ensures.length ∙ sym c.from-count.ensures) c.if-whole.true
    ∙ ap (λ (bytes : List ℕ). written bytes room)
    (c.read_part.ensures.value names s shows within)

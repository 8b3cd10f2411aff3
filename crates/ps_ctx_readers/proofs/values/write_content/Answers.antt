use Rattle.std.proofs.Common.{ℕ, ap, sym, ◌∙◌}
use Rattle.std.specs.Prelude.{length, nat_le}
use Rattle.ps_language.specs.Access.{bytes}
use Rattle.ps_mem.specs.Heap.{birth_at}
use Rattle.ps_seq.proofs.CompareLemmas.{length_part}
use Rattle.ps_ctx_readers.proofs.values.write_content.Goals as goal

pub returns-in-Text-clause-bytes : goal.returns-in-Text-clause-bytes
returns-in-Text-clause-bytes g c =
    let part = c.in-Text.part in
    let births = birth_at (g.M.Memory.heap c.args.memory.now) in
    rw c.in-Text.is (λ s shows within. record {
      room = c.write_part.ensures.written c.args.names.now s shows within;
      told = c.write_part.ensures.whole
          ∙ ap (λ (n : ℕ). nat_le n (length c.args.room.now))
          (sym (length_part (bytes s (births part.address)) part.offset part.length within));
    })

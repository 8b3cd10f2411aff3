use Rattle.std.proofs.Common.{ap, ◌+◌, ◌*◌, ◌^◌, ℕ}
use Rattle.ps_word.specs.Headers.{header_packed}
use Rattle.ps_word.proofs.headers.Header.pack.Goals as goal

pub returns : goal.returns
unfolding header_packed
returns c = ap (λ (n : ℕ). n * 2 ^ 60 + c.args.self.fields * 2 ^ 40 + c.args.self.birth) c.number_of.ensures

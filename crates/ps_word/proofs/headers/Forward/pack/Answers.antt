use Rattle.std.proofs.Common.{refl}
use Rattle.ps_word.specs.Headers.{forward_packed}
use Rattle.ps_word.proofs.headers.Forward.pack.Goals as goal

pub returns : goal.returns
unfolding forward_packed
returns c = refl

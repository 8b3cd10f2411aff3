use Rattle.std.proofs.Common.{refl}
use Rattle.ps_word.specs.Format.{executable_in}
use Rattle.ps_word.proofs.words.Word.is_executable.Goals as goal

pub returns : goal.returns
unfolding executable_in
returns c = refl

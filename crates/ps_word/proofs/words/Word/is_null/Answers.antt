use Rattle.ps_word.proofs.Places.{is_null-at}
use Rattle.ps_word.proofs.words.Word.is_null.Goals as goal

pub returns : goal.returns
returns c = is_null-at c.args.self.0

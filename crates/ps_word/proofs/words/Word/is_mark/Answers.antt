use Rattle.ps_word.proofs.Places.{is_mark-at}
use Rattle.ps_word.proofs.words.Word.is_mark.Goals as goal

pub returns : goal.returns
returns c = is_mark-at c.args.self.0

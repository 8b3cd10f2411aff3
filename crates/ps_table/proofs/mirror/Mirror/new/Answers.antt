use Rattle.ps_table.proofs.Mirrored.{mirrors_start}
use Rattle.ps_table.proofs.mirror.Mirror.new.Goals as goal

pub returns : goal.returns
returns c = mirrors_start c.args.space

use Rattle.std.proofs.Common.{arith, rules}
use Rattle.ps_text.proofs.Cuts.{cut_extended}
use Rattle.ps_text.proofs.appends.append_cut.Goals as goal

pub returns-clause-ok : goal.returns-clause-ok
returns-clause-ok c =
    cut_extended c.extend_from_slice.result c.args.end c.min-count.result c.args.output.now.items c.args.bytes.now _
    c.extend_from_slice.new.self.items c.requires (omega arith) (search rules) c.extend_from_slice.ensures.items

use Rattle.std.proofs.Common.{ap, sym, arith}
use Rattle.ps_word.specs.Readers.{kind_of}
use Rattle.ps_word.proofs.Places.{content_in-at, kind_of-other}
use Rattle.ps_word.proofs.words.Word.kind.Goals as goal

pub returns-in-6 : goal.returns-in-6
returns-in-6 c = ap kind_of (sym (content_in-at c.args.self.0 6 c.in-6.is))

pub returns-in-7 : goal.returns-in-7
returns-in-7 c = ap kind_of (sym (content_in-at c.args.self.0 7 c.in-7.is))

pub returns-in-8 : goal.returns-in-8
returns-in-8 c = ap kind_of (sym (content_in-at c.args.self.0 8 c.in-8.is))

pub returns-in-9 : goal.returns-in-9
returns-in-9 c = ap kind_of (sym (content_in-at c.args.self.0 9 c.in-9.is))

pub returns-in-10 : goal.returns-in-10
returns-in-10 c = ap kind_of (sym (content_in-at c.args.self.0 10 c.in-10.is))

pub returns-in-11 : goal.returns-in-11
returns-in-11 c = ap kind_of (sym (content_in-at c.args.self.0 11 c.in-11.is))

pub returns-in_default : goal.returns-in_default
returns-in_default c = kind_of-other c.args.self.0 (omega arith)

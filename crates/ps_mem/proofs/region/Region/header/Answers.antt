use Rattle.ps_mem.proofs.HeaderLemmas.{header_place, header_some, header_is}
use Rattle.ps_mem.proofs.region.Region.header.Goals as goal

pub load-requires : goal.load-requires
load-requires c = let r = c.args.self.now in
    header_place r.words r.used r.next r.within r.whole r.headers c.args.address c.requires

pub unreachable-requires : goal.unreachable-requires
unreachable-requires c =
    let r = c.args.self.now in
    let some = header_some r.words r.used r.next r.within r.whole r.headers c.args.address c.requires c.load.result
    c.load.ensures c.unpack.result c.unpack.ensures in
    let none = c.in-None.is in
    cc

pub returns-clause-birth : goal.returns-clause-birth
returns-clause-birth c = ((c.unpack.ensures c.in-Some.header).0 c.in-Some.is).0.birth

pub returns-clause-answer : goal.returns-clause-answer
returns-clause-answer c =
    let r = c.args.self.now in
    header_is r.words r.used r.next r.within r.whole r.headers c.args.address c.requires c.load.result c.load.ensures
    c.unpack.result c.unpack.ensures c.in-Some.header c.in-Some.is

use Rattle.std.proofs.Common.{◌+◌, ◌++◌, length, drop, sym, subst, ap, ◌∙◌, arith}
use Rattle.std.specs.Prelude.{flat_map}
use Rattle.std.specs.List.{AllByRecursion}
use Rattle.ps_gc_roots.specs.Formats.{IsMemberInFormat}
use Rattle.ps_gc_roots.specs.Roots.{roots_of_member}
use Rattle.ps_gc_roots.proofs.Taking.{all-read, drop-item, item-is, left-all, left-length, left-roots, roots-read}
use Rattle.ps_gc_roots.proofs.reading.read_roots.Goals as goal

pub read_member-requires-clause-format : goal.read_member-requires-clause-format
read_member-requires-clause-format c =
    item-is IsMemberInFormat c.items-member-items.result.now c.loop-member.member-index
    c.member-item.result c.loop-member-test.true c.member-item.is
    (subst (AllByRecursion IsMemberInFormat) (sym c.items-member-items.ensures)
    (left-all IsMemberInFormat c.args.contexts.now.table c.requires.format))

pub read_member-requires-clause-room : goal.read_member-requires-clause-room
read_member-requires-clause-room c =
    let many = left-length c.args.contexts.now.table in
    let same = ap length c.items-member-items.ensures in
    let few = c.left-left.ensures.within in
    let is = c.left-left.ensures.left in
    omega (arith, many, same, few, is)

pub loop-member-preserved : goal.loop-member-preserved
loop-member-preserved c =
    let items = c.items-member-items.result.now in
    let at = drop-item items c.loop-member.member-index c.member-item.result
    c.loop-member-test.true c.member-item.is in
    record {
      read =
          ap (λ list. list
          ++ flat_map roots_of_member (drop (c.loop-member.member-index + 1) items))
          c.read_member.ensures.roots
          ∙ roots-read roots_of_member c.loop-member.roots.items _ items
          c.loop-member.member-index c.member-item.result at c.loop-member.invariant.read;
      count = omega (arith, c.read_member.ensures.longer);
      within = omega (arith, c.loop-member-test.true);
      capacity = c.read_member.ensures.capacity ∙ c.loop-member.invariant.capacity;
    }

pub returns-clause-roots : goal.returns-clause-roots
returns-clause-roots c =
    all-read roots_of_member c.loop-member.roots.items _ c.items-member-items.result.now
    c.loop-member.member-index c.loop-member-test.false c.loop-member.invariant.read
    ∙ (ap (flat_map roots_of_member) c.items-member-items.ensures
    ∙ left-roots c.args.contexts.now.table)

pub returns-clause-few : goal.returns-clause-few
returns-clause-few c =
    let many = left-length c.args.contexts.now.table in
    let same = ap length c.items-member-items.ensures in
    let few = c.left-left.ensures.within in
    let is = c.left-left.ensures.left in
    let within = c.loop-member.invariant.within in
    omega (arith, many, same, few, is, within, c.loop-member.invariant.count)

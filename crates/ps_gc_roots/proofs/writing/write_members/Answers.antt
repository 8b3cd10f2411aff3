use Rattle.std.proofs.Common.{◌+◌, ◌≤◌, List, ◌++◌, Option, Some, length, drop, refl, sym, subst, ◌∙◌, arith}
use Rattle.ps_word.specs.declared.words.Word.{Word}
use Rattle.ps_ctx_table.specs.declared.members.Member.{Member}
use Rattle.ps_gc_roots.specs.Roots.{roots_of_member, roots_in}
use Rattle.ps_gc_roots.specs.Renamed.{BeginWith}
use Rattle.ps_gc_roots.proofs.Putting.{IsNext, begin_first, begin_past, begin_rest, next-roots, next-within, next-fewer}
use Rattle.ps_gc_roots.proofs.Putting.{next-left, next-renamed, none-renamed, rest-length}
use Rattle.ps_gc_roots.proofs.writing.write_members.Goals as goal
use Rattle.ps_gc_roots.proofs.writing.write_members.Goals.{After-get_mut}

-- the context whose roots are written is the next
is_next : (c : After-get_mut)
    → IsNext c.loop-next.table c.loop-next.identifier c.in-Some.next c.get_mut.result.now
is_next c = record {
  above = c.in-Some.ensures.0;
  between = c.in-Some.ensures.2;
  found = sym c.get_mut.ensures.value;
}

-- its roots lie among those that are left
within : (c : After-get_mut) → c.loop-next.at + length (roots_of_member c.get_mut.result.now)
    + length (roots_in (drop c.in-Some.next c.loop-next.table)) ≤ length c.args.roots.now
within c = next-within c.loop-next.table c.loop-next.identifier c.in-Some.next
    c.get_mut.result.now c.args.roots.now c.loop-next.at (is_next c) c.loop-next.invariant.count

pub write_member-at-requires : goal.write_member-at-requires
write_member-at-requires c =
    let here = within (goal.at.write_member-at-requires c).After-get_mut in
    rest-length c.args.roots.now c.loop-next.at (length (roots_of_member c.get_mut.result.now))
    (omega (arith, here))

pub overflow_add-at : goal.overflow_add-at
overflow_add-at c =
    let here = within (goal.at.overflow_add-at c).After-get_mut in
    omega (arith, here, c.write_member-at.ensures.count)

pub loop-next-smaller : goal.loop-next-smaller
loop-next-smaller c =
    next-fewer c.loop-next.table c.loop-next.identifier c.in-Some.next c.get_mut.result.now
    (Some c.write_member-at.new.member) (is_next (goal.at.loop-next-smaller c).After-get_mut)

pub loop-next-preserved : goal.loop-next-preserved
loop-next-preserved c =
    let roots = c.args.roots.now in
    let table = c.loop-next.table in
    let next = c.in-Some.next in
    let member = c.get_mut.result.now in
    let put = c.write_member-at.new.member in
    let at = c.loop-next.at in
    let past = at + c.write_member-at.result in
    let is = is_next (goal.at.loop-next-preserved c).After-get_mut in
    let here = within (goal.at.loop-next-preserved c).After-get_mut in
    let behind = next-left table next (Some put) in
    record {
      count = subst (λ (rest : List (Option Member)). past + length (roots_in rest) ≤ length roots)
          (sym behind) (omega (arith, here, c.write_member-at.ensures.count));
      renamed = λ rename begin.
          let before = c.loop-next.invariant.renamed rename begin in
          let begins : BeginWith rename (roots_of_member member ++ roots_in (drop next table))
          (drop at roots) = subst (λ (words : List Word). BeginWith rename words (drop at roots))
          (next-roots table c.loop-next.identifier next member is) before.0 in (
            subst (λ (rest : List (Option Member)). BeginWith rename (roots_in rest)
                (drop past roots)) (sym behind)
                (begin_past rename roots (roots_of_member member) (roots_in (drop next table)) at
                c.write_member-at.result past c.write_member-at.ensures.count refl begins),
            next-renamed rename table c.loop-next.identifier next member put is
                (c.write_member-at.ensures.renamed rename
                (begin_rest rename roots (roots_of_member member) at
                (begin_first rename (drop at roots) (roots_of_member member)
                (roots_in (drop next table)) begins))) ∙ before.1,
          );
    }

pub returns : goal.returns
returns c = λ rename begin.
    none-renamed rename c.loop-next.table c.loop-next.identifier c.in_default.ensures
    ∙ (c.loop-next.invariant.renamed rename begin).1

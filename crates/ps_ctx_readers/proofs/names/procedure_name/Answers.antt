-- Each dictionary is looked through, the topmost first.
use Rattle.std.proofs.Common.{◌≡◌, ◌+◌, suc, arith, drop, sym, ap, ◌∙◌, rules}
use Rattle.ps_ops_operands.specs.Changes.{values_in}
use Rattle.ps_ctx_readers.specs.Names.{name_through}
use Rattle.ps_ctx_readers.proofs.Naming.{through_here, through_passed, value_there}
use Rattle.ps_ctx_readers.proofs.names.procedure_name.Goals as goal

pub returns-in-Some-name_in-clause-name : goal.returns-in-Some-name_in-clause-name
returns-in-Some-name_in-clause-name g c = λ names s shows.
    let h = g.M.Memory.heap c.args.memory.now in
    let looked = c.in-Some-name_in.ensures.name in
    let here = rw c.loop-depth.invariant.heap at looked in
    sym (c.loop-depth.invariant.value names s shows
    ∙ through_here s c.args.birth _ c.loop-depth.depth _ _
    (value_there h names c.args.dictionaries.now c.loop-depth.depth _ c.in-Some.ensures)
    (sym (here names s shows)))

pub loop-depth-preserved : goal.loop-depth-preserved
loop-depth-preserved g c =
    let h = g.M.Memory.heap c.args.memory.now in
    let looked = c.in_default-name_in.ensures.name in
    let here = rw c.loop-depth.invariant.heap at looked in
    record {
      heap = search rules;
      grants = search rules;
      value = λ names s shows.
          let next : suc c.loop-depth.depth ≡ c.loop-depth.depth + 1 = omega arith in
          c.loop-depth.invariant.value names s shows
          ∙ (through_passed s c.args.birth _ c.loop-depth.depth _
          (value_there h names c.args.dictionaries.now c.loop-depth.depth _ c.in-Some.ensures)
          (sym (here names s shows))
          ∙ ap (λ n. name_through s c.args.birth (drop n (values_in h names
          c.args.dictionaries.now))) next);
    }

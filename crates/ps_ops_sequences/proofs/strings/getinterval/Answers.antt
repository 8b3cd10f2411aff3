use Rattle.std.proofs.Common.{◌+◌, ap, arith, subst, sym}
use Rattle.ps_language.specs.declared.kinds.Kind.TheVariants.{Text as TextKind}
use Rattle.ps_word.specs.declared.values.Part.{Part}
use Rattle.ps_mem.specs.References.{StandsAs, words_for}
use Rattle.ps_mem.specs.Shows.{IsValue}
use Rattle.ps_ops_operands.proofs.Held.{third_held, replaced_held, stands_less, ready_with}
use Rattle.ps_ops_sequences.proofs.strings.getinterval.Goals as goal

pub returns-clause-ready : goal.returns-clause-ready
returns-clause-ready g c =
    let h = g.M.Memory.heap c.args.memory.now in
    let old = c.args.operands.now in
    let ready = c.requires.ready in
    let string = third_held (IsValue h) old ready.values _ _ _ c.in-Some.ensures in
    let stands = c.in-Some-string_of.ensures.stands h string in
    let inner = stands_less h TextKind _ _ (words_for (c.interval.result.offset +
    c.interval.result.length))
    (omega (
      arith,
      ap (λ (p : Part). p.offset) c.interval.ensures,
      ap (λ
          (p : Part). p.length) c.interval.ensures,
      c.in-Some-interval_within.ensures.within,
    )) stands
    in
    let address = ap (λ (p : Part). p.address) c.interval.ensures in
    let held = c.with_string_part-found.ensures.held h (subst (λ a. StandsAs h TextKind a (words_for
    (c.interval.result.offset + c.interval.result.length))) (sym address) inner) in
    ready_with h old _ ready (replaced_held (IsValue h) old ready.values _ 3 _ held
    c.replace.ensures)

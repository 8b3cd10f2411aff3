use Rattle.std.proofs.Common.{sym, ◌∙◌, ap, rules, w32}
use mir.Val.{SFits}
use Rattle.std.proofs.lemmas.Int.{to_z-of_z}
use Rattle.ps_language.specs.Readers.{integer}
use Rattle.ps_ops_sequences.proofs.StringReads.{get_done}
use Rattle.ps_ops_sequences.proofs.strings.get.Goals as goal

pub returns-clause-does : goal.returns-clause-does
returns-clause-does g c =
    let h = g.M.Memory.heap c.args.memory.now in
    let old = c.args.operands.now in
    let fits : SFits w32 c.in-Some-integer_of.number = search rules in
    let read : SFits w32 c.from.result = search rules in
    get_done h old _ c.in-Some.key c.in-Some.string c.in-Some.ensures c.in-Some-string_of.part
    (λ births names. c.in-Some-string_of.ensures.part births names)
    (λ births names s within. c.in-Some-string_of.ensures.within births names s within)
    c.in-Some-integer_of.number (λ births names. c.in-Some-integer_of.ensures births names)
    (sym c.is_readable.ensures ∙ c.if-not-is_readable.false)
    c.in-Some-index_below.index (simp to_z-of_z at c.in-Some-index_below.ensures.index)
    c.byte-found.result (λ names s shows within. c.byte-found.ensures.value names s shows
    within)
    c.integer.result (λ births names. (simp to_z-of_z at (c.integer.ensures.value births names))
    ∙ ap integer c.from.ensures) c.integer.ensures.plain c.replace.ensures

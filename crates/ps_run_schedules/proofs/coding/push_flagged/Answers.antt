use Rattle.std.proofs.Common.{◌∙◌, subst, rules}
use Rattle.std.proofs.lemmas.Int.{to_z-of_z}
use mir.Syntax.{w32}
use mir.Val.{SFits}
use Rattle.ps_language.specs.declared.schedules.Entry.{Entry}
use Rattle.ps_run_schedules.specs.Packing.{Writes, flagged_in}
use Rattle.ps_run_schedules.proofs.Codes.{flags_written, entry_back}
use Rattle.ps_run_schedules.proofs.coding.push_flagged.Goals as goal

pub returns-clause-written : goal.returns-clause-written
returns-clause-written c =
    let flags = c.flags_of in
    let used = c.code_of_words in
    let most = c.code_of_words-2 in
    let pair = c.unwrap_or-used in
    let one : SFits w32 pair.result.0 = search rules in
    let two : SFits w32 pair.result.1 = search rules in
    let first = used.ensures ∙ to_z-of_z w32 pair.result.0 one in
    let second = most.ensures ∙ to_z-of_z w32 pair.result.1 two in
    subst (λ (entry : Entry). Writes Entry flagged_in entry 21 c.args.bytes.now.items
    c.push_number-5.new.bytes.items)
    (entry_back c.args.entry flags.result used.result most.result flags.ensures.refused
    flags.ensures.shown ((λ i. (first i, second i)) ∙ pair.ensures))
    (flags_written flags.result c.args.entry.context c.args.entry.steps used.result most.result
    _ _ _ _ _ _ c.push_number.ensures.written c.push_number-2.ensures.written
    c.push_number-3.ensures.written c.push_number-4.ensures.written
    c.push_number-5.ensures.written)

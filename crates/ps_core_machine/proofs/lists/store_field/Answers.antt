use Rattle.std.proofs.Common.{◌+◌, ◌≤◌, length, arith, sym}
use Rattle.ps_core_machine.proofs.ListLemmas.{set_past}
use Rattle.ps_core_machine.proofs.lists.store_field.Goals as goal

pub returns-in-None : goal.returns-in-None
returns-in-None c =
    let past : length c.args.words.now.items ≤ c.args.address + 2 + c.args.field = omega (arith, c.in-None.ensures) in
    sym (set_past c.args.words.now.items (c.args.address + 2 + c.args.field) c.args.word past)

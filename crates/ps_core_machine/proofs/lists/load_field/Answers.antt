use Rattle.std.proofs.Common.{◌+◌, ◌≤◌, length, arith, sym}
use Rattle.std.proofs.lemmas.List.{get_or_past}
use Rattle.ps_core_machine.proofs.lists.load_field.Goals as goal

pub returns-in-None : goal.returns-in-None
returns-in-None c =
    let past : length c.args.words.now ≤ c.args.address + 2 + c.args.field = omega (arith, c.in-None.ensures) in
    sym (get_or_past c.args.words.now (c.args.address + 2 + c.args.field) 0 past)

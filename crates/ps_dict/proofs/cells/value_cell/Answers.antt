-- The place of a value follows from that of its pair.
use Rattle.std.proofs.Common.{sym, arith}
use Rattle.ps_dict.proofs.Telling.{sum-fits, value-within}
use Rattle.ps_dict.proofs.cells.value_cell.Goals as goal

pub overflow_mul-result : goal.overflow_mul-result
overflow_mul-result g c =
    let fits = sum-fits (g.M.Memory.heap c.args.memory.now) c.args.dictionary.address c.requires.known
    c.requires.sound c.args.key c.args.dictionary.body c.in_ok-place.place c.requires.body
    (sym c.in_ok-place.ensures.words) in
    omega (arith, fits)

pub overflow_add-result : goal.overflow_add-result
overflow_add-result g c =
    let fits = sum-fits (g.M.Memory.heap c.args.memory.now) c.args.dictionary.address c.requires.known
    c.requires.sound c.args.key c.args.dictionary.body c.in_ok-place.place c.requires.body
    (sym c.in_ok-place.ensures.words) in
    omega (arith, fits)

pub overflow_add-result-2 : goal.overflow_add-result-2
overflow_add-result-2 g c =
    let fits = sum-fits (g.M.Memory.heap c.args.memory.now) c.args.dictionary.address c.requires.known
    c.requires.sound c.args.key c.args.dictionary.body c.in_ok-place.place c.requires.body
    (sym c.in_ok-place.ensures.words) in
    omega (arith, fits)

pub returns-clause-within : goal.returns-clause-within
returns-clause-within g c =
    value-within (g.M.Memory.heap c.args.memory.now) c.args.dictionary.address c.requires.known
    c.requires.sound c.args.key c.args.dictionary.body c.in_ok-place.place c.requires.body
    (sym c.in_ok-place.ensures.words)

use Rattle.std.proofs.Common.{◌+◌, ◌-◌, arith}
use Rattle.ps_seq.proofs.ArrayLemmas.{array_reaches, element_held, element_within, element_value}
use Rattle.ps_seq.proofs.arrays.element_at.Goals as goal

pub load_at-requires-clause-place : goal.load_at-requires-clause-place
load_at-requires-clause-place g c =
    let h = g.M.Memory.heap c.args.memory.now in
    let p = c.args.part in
    let reach = array_reaches h p.address (p.offset + p.length) c.requires.known in
    omega (arith, reach, c.requires.from, c.requires.within)

pub returns-clause-held : goal.returns-clause-held
returns-clause-held g c =
    let h = g.M.Memory.heap c.args.memory.now in
    let p = c.args.part in
    element_held h p.address (p.offset + p.length) c.requires.known c.requires.sound
    (c.args.at - p.address) c.load_at.result c.load_at.ensures.answer

pub returns-clause-within : goal.returns-clause-within
returns-clause-within g c =
    let h = g.M.Memory.heap c.args.memory.now in
    let p = c.args.part in
    element_within h p.address (p.offset + p.length) c.requires.known c.requires.sound
    (c.args.at - p.address) c.load_at.result c.load_at.ensures.answer

pub returns-clause-value : goal.returns-clause-value
returns-clause-value g c =
    let h = g.M.Memory.heap c.args.memory.now in
    let p = c.args.part in
    element_value h p.address (p.offset + p.length) c.requires.known c.requires.sound
    (c.args.at - p.address) c.load_at.result c.load_at.ensures.answer

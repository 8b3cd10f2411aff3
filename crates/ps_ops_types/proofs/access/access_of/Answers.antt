-- By what the word is.
use Rattle.std.proofs.Common.{Some, ap, sym, ◌∙◌}
use Rattle.ps_mem.specs.Heap.{birth_at}
use Rattle.ps_ops_types.proofs.Accesses.{part_has, dictionary_has, nothing_has, dictionary_stands}
use Rattle.ps_ops_types.proofs.access.access_of.Goals as goal

pub access-requires-clause-known : goal.access-requires-clause-known
access-requires-clause-known g c =
    dictionary_stands (g.M.Memory.heap c.args.memory.now) c.args.word c.requires.held
    c.in-Some.address c.in-Some.ensures

pub returns-in-Some-clause-access : goal.returns-in-Some-clause-access
returns-in-Some-clause-access g c = λ names s shows.
    dictionary_has (birth_at (g.M.Memory.heap c.args.memory.now)) names s c.args.word
    c.in-Some.address c.in-Some.ensures ∙ ap Some (sym (c.access.ensures.value names s shows))

pub returns-in_default-as_part-clause-access : goal.returns-in_default-as_part-clause-access
returns-in_default-as_part-clause-access g c = λ names s shows.
    nothing_has (birth_at (g.M.Memory.heap c.args.memory.now)) names s c.args.word
    c.in_default-as_part.ensures c.in_default.ensures

pub returns-clause-access : goal.returns-clause-access
returns-clause-access g c = λ names s shows.
    part_has (birth_at (g.M.Memory.heap c.args.memory.now)) names s c.args.word
    c.in-Some-as_part.part c.in-Some-as_part.ensures

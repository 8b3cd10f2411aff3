-- By what the word is.
use Rattle.std.proofs.Common.{Some, sym, ap, ◌∙◌}
use Rattle.ps_language.specs.Access.{is_readable}
use Rattle.ps_mem.specs.Heap.{birth_at}
use Rattle.ps_ops_types.proofs.Accesses.{dictionary_stands}
use Rattle.ps_ops_sequences.proofs.Measured.{part_length, part_access, name_length, name_access, dictionary_length, dictionary_access, nothing_length}
use Rattle.ps_ops_sequences.proofs.lengths.measure.Goals as goal

pub returns-in-Some-clause-length : goal.returns-in-Some-clause-length
returns-in-Some-clause-length g c = λ s shows.
    part_length (birth_at (g.M.Memory.heap c.args.memory.now)) c.args.names.now s c.args.word
    c.in-Some.part c.in-Some.ensures

pub returns-in-Some-clause-access : goal.returns-in-Some-clause-access
returns-in-Some-clause-access g c = λ s shows.
    part_access (birth_at (g.M.Memory.heap c.args.memory.now)) c.args.names.now s c.args.word
    c.in-Some.part c.in-Some.ensures

pub returns-in-Some-as_name-clause-length : goal.returns-in-Some-as_name-clause-length
returns-in-Some-as_name-clause-length g c = λ s shows.
    name_length (birth_at (g.M.Memory.heap c.args.memory.now)) c.args.names.now s c.args.word
    c.in-Some-as_name.number c.in-Some-as_name.ensures ∙ ap Some (sym c.name_length.ensures.bytes)

pub returns-in-Some-as_name-clause-access : goal.returns-in-Some-as_name-clause-access
returns-in-Some-as_name-clause-access g c = λ s shows.
    name_access (birth_at (g.M.Memory.heap c.args.memory.now)) c.args.names.now s c.args.word
    c.in-Some-as_name.number c.in_default.ensures c.in-Some-as_name.ensures

pub returns-in_default-as_dictionary-clause-length :
    goal.returns-in_default-as_dictionary-clause-length
returns-in_default-as_dictionary-clause-length g c = λ s shows.
    nothing_length (birth_at (g.M.Memory.heap c.args.memory.now)) c.args.names.now s c.args.word
    c.in_default.ensures c.in_default-as_name.ensures c.in_default-as_dictionary.ensures

pub length-count-requires-clause-known : goal.length-count-requires-clause-known
length-count-requires-clause-known g c =
    dictionary_stands (g.M.Memory.heap c.args.memory.now) c.args.word c.requires.held
    c.in-Some-as_dictionary.address c.in-Some-as_dictionary.ensures

pub access-requires-clause-known : goal.access-requires-clause-known
access-requires-clause-known g c = rw c.length-count.ensures.heap
    (dictionary_stands (g.M.Memory.heap c.args.memory.now) c.args.word c.requires.held
    c.in-Some-as_dictionary.address c.in-Some-as_dictionary.ensures)

pub returns-clause-length : goal.returns-clause-length
returns-clause-length g c = λ s shows.
    dictionary_length (birth_at (g.M.Memory.heap c.args.memory.now)) c.args.names.now s c.args.word
    c.in-Some-as_dictionary.address c.in-Some-as_dictionary.ensures
    ∙ ap Some (sym (c.length-count.ensures.value c.args.names.now s shows))

pub returns-clause-access : goal.returns-clause-access
returns-clause-access g c = λ s shows.
    let value = rw c.length-count.ensures.heap at c.access.ensures.value in
    dictionary_access (birth_at (g.M.Memory.heap c.args.memory.now)) c.args.names.now s c.args.word
    c.in-Some-as_dictionary.address c.in-Some-as_dictionary.ensures
    ∙ ap is_readable (sym (value c.args.names.now s shows))

-- What may be read is looked through, if it is a dictionary.
use Rattle.std.proofs.Common.{sym, ◌∙◌}
use Rattle.ps_mem.specs.Heap.{birth_at}
use Rattle.ps_ops_types.proofs.Accesses.{dictionary_stands}
use Rattle.ps_step_lookup.proofs.Looking.{dictionary_read, looks_found, looks_none, looks_hidden}
use Rattle.ps_step_lookup.proofs.lookups.look_in.Goals as goal

pub access-requires-clause-known : goal.access-requires-clause-known
access-requires-clause-known g c =
    dictionary_stands (g.M.Memory.heap c.args.memory.now) _ c.requires.dictionary _
    c.in-Some.ensures

pub find_in-requires-clause-known : goal.find_in-requires-clause-known
find_in-requires-clause-known g c = rw c.access.ensures.heap
    (dictionary_stands (g.M.Memory.heap c.args.memory.now) _ c.requires.dictionary _
    c.in-Some.ensures)

pub returns-then-may_read-clause-value : goal.returns-then-may_read-clause-value
returns-then-may_read-clause-value g c = λ names s k shows distinct sought.
    looks_none (birth_at (g.M.Memory.heap c.args.memory.now)) names s c.args.dictionary k
    (sym (c.may_read.ensures.value names s shows) ∙ c.if-may_read.true) c.in_default.ensures

pub returns-in_default-clause-value : goal.returns-in_default-clause-value
returns-in_default-clause-value g c = λ names s k shows distinct sought.
    looks_hidden (birth_at (g.M.Memory.heap c.args.memory.now)) names s c.args.dictionary k
    (sym (c.may_read.ensures.value names s shows) ∙ c.if-may_read.false)

pub returns-then-not-is_readable-clause-value : goal.returns-then-not-is_readable-clause-value
returns-then-not-is_readable-clause-value g c = λ names s k shows distinct sought.
    looks_hidden (birth_at (g.M.Memory.heap c.args.memory.now)) names s c.args.dictionary k
    (dictionary_read (birth_at (g.M.Memory.heap c.args.memory.now)) names s c.args.dictionary _
    c.in-Some.ensures (c.access.ensures.value names s shows) c.is_readable.ensures
    ∙ c.if-not-is_readable.true)

pub returns-clause-value : goal.returns-clause-value
returns-clause-value g c = λ names s k shows distinct sought.
    let found = c.find_in.ensures.value in
    let here = rw c.access.ensures.heap at found in
    looks_found (birth_at (g.M.Memory.heap c.args.memory.now)) names s c.args.dictionary k
    (dictionary_read (birth_at (g.M.Memory.heap c.args.memory.now)) names s c.args.dictionary _
    c.in-Some.ensures (c.access.ensures.value names s shows) c.is_readable.ensures
    ∙ c.if-not-is_readable.false) _ c.in-Some.ensures _ (here names s k shows distinct sought)

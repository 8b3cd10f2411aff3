use Rattle.std.proofs.Common.{sym, ap, ◌∙◌}
use Rattle.ps_mem.specs.Heap.{birth_at}
use Rattle.ps_dict.proofs.Telling.{dictionary_stands}
use Rattle.ps_ctx_readers.specs.Names.{name_among}
use Rattle.ps_ctx_readers.proofs.Naming.{dictionary_pairs, no_pairs}
use Rattle.ps_ctx_readers.proofs.names.name_in.Goals as goal

pub name_among-requires-clause-known : goal.name_among-requires-clause-known
name_among-requires-clause-known g c =
    dictionary_stands (g.M.Memory.heap c.args.memory.now) _ c.requires.held _ c.in-Some.ensures

pub returns-in-Some-clause-name : goal.returns-in-Some-clause-name
returns-in-Some-clause-name g c = λ names s shows.
    let births = birth_at (g.M.Memory.heap c.args.memory.now) in
    c.name_among.ensures.name names s shows
    ∙ ap (name_among c.args.birth)
    (sym (dictionary_pairs births names s c.args.one _ c.in-Some.ensures))

pub returns-in-None-clause-name : goal.returns-in-None-clause-name
returns-in-None-clause-name g c = λ names s shows.
    let births = birth_at (g.M.Memory.heap c.args.memory.now) in
    ap (name_among c.args.birth) (sym (no_pairs births names s c.args.one c.in-None.ensures))

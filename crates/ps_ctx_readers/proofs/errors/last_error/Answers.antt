-- What stands under the keys.
use Rattle.std.proofs.Common.{ap, ◌∙◌}
use Rattle.ps_language.specs.Access.{dictionary_at}
use Rattle.ps_language.specs.Dictionaries.{find}
use Rattle.ps_mem.specs.Heap.{birth_at}
use Rattle.ps_step_outcome.proofs.Noting.{named_held, named_within, named_met, errorname_first, command_first}
use Rattle.ps_ctx_readers.proofs.errors.last_error.Goals as goal

pub value_of_key-requires-clause-held : goal.value_of_key-requires-clause-held
value_of_key-requires-clause-held g c = named_held _ _ _ c.error_keys-keys.ensures.errorname

pub value_of_key-requires-2-clause-held : goal.value_of_key-requires-2-clause-held
value_of_key-requires-2-clause-held g c = named_held _ _ _ c.error_keys-keys.ensures.command

pub returns-clause-name : goal.returns-clause-name
returns-clause-name g c = λ names s met distinct shows.
    let births = birth_at (g.M.Memory.heap c.args.memory.now) in
    let d = dictionary_at s (births c.args.address) in
    let key = c.error_keys-keys.ensures.errorname in
    c.value_of_key.ensures.value names s shows distinct
    (named_within names met births _ _ _ key errorname_first s)
    ∙ ap (find d.pairs) (named_met names met births _ _ _ key errorname_first)

pub returns-clause-command : goal.returns-clause-command
returns-clause-command g c = λ names s met distinct shows.
    let births = birth_at (g.M.Memory.heap c.args.memory.now) in
    let d = dictionary_at s (births c.args.address) in
    let key = c.error_keys-keys.ensures.command in
    let second = rw c.value_of_key.ensures.heap at c.value_of_key-2.ensures.value in
    second names s shows distinct (named_within names met births _ _ _ key command_first s)
    ∙ ap (find d.pairs) (named_met names met births _ _ _ key command_first)

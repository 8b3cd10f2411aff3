-- The dictionary is userdict.
use Rattle.std.proofs.Common.{◌≡◌, ℕ, ap, ◌∙◌}
use Rattle.ps_language.specs.Access.{dictionary_at}
use Rattle.ps_language.specs.Dictionaries.{find}
use Rattle.ps_language.specs.Readers.{literal_name}
use Rattle.ps_language.specs.Worlds.{userdict}
use Rattle.ps_mem.specs.Heap.{birth_at}
use Rattle.ps_ctx_readers.proofs.values.definition.Goals as goal

pub returns-clause-value : goal.returns-clause-value
returns-clause-value g c = λ s shows first.
    let h = g.M.Memory.heap c.args.memory.now in
    let there = c.in-Some.ensures.birth h c.args.names.now first in
    let is : birth_at h c.in-Some.address ≡ userdict = cc in
    c.find_in.ensures.value c.args.names.now s (literal_name c.args.key.now) shows
    c.key_word.ensures.names.different (c.key_word.ensures.sought (birth_at h) s)
    ∙ ap (λ (birth : ℕ). find (dictionary_at s birth).pairs (literal_name c.args.key.now)) is

use Rattle.std.proofs.Common.{◌%◌, ◌∙◌, ap, sym, of_z, w32}
use Rattle.std.proofs.lemmas.Int.{to_z-of_z}
use Rattle.ps_word.specs.Readers.{as_name}
use Rattle.ps_word.specs.declared.values.Content.{Content}
use Rattle.ps_word.specs.declared.values.Content.TheVariants.{Integer}
use Rattle.ps_mem.specs.Heap.{birth_at}
use Rattle.ps_dict.proofs.Hashing.{fits-content, hash-content, name_hash}
use Rattle.ps_dict.proofs.index.sought_place.Goals as goal

pub returns-in-Name-clause-answer : goal.returns-in-Name-clause-answer
returns-in-Name-clause-answer g c =
    let content = sym c.in-Name.is ∙ c.content.ensures in
    c.remainder.ensures.answer
    ∙ ap (λ n. n % c.args.capacity)
    (name_hash (birth_at (g.M.Memory.heap c.args.memory.now)) c.args.key c.in-Name.name
    (ap (λ (content : Content). as_name content) content))

pub returns-in-Integer-clause-answer : goal.returns-in-Integer-clause-answer
returns-in-Integer-clause-answer g c =
    let h = g.M.Memory.heap c.args.memory.now in
    let content = sym c.in-Integer.is ∙ c.content.ensures in
    let fits = fits-content h c.args.key (Integer c.in-Integer.number) content c.requires.held in
    c.remainder-in-Integer.ensures.answer
    ∙ ap (λ n. n % c.args.capacity)
    (c.cast_unsigned.ensures
    ∙ (ap (of_z w32) (to_z-of_z w32 c.in-Integer.number fits)
    ∙ hash-content (birth_at h) c.args.key (Integer c.in-Integer.number) content))

use Rattle.std.proofs.Common.{◌∙◌, ap}
use Rattle.ps_mem.specs.Heap.{made_body}
use Rattle.ps_mem.specs.Objects.{heap_in}
use Rattle.ps_mem.specs.Plain.{plain_space}
use Rattle.ps_mem.proofs.SpaceLemmas.{dictionary_stands, birth-header}
use Rattle.ps_mem.proofs.plain.PlainMemoryMemory.alloc_body.Goals as goal

pub header-birth-requires : goal.header-birth-requires
header-birth-requires c = let r = c.args.self.now.region in
    dictionary_stands r.words r.used r.next plain_space c.args.dictionary c.requires.stands

pub alloc_body-requires-clause-birth : goal.alloc_body-requires-clause-birth
alloc_body-requires-clause-birth c = c.header-birth.ensures.birth

pub returns-clause-heap : goal.returns-clause-heap
returns-clause-heap c =
    let r = c.args.self.now.region in
    let h = heap_in r.words r.used r.next plain_space in
    c.alloc_body.ensures.heap plain_space
    ∙ ap (λ b. made_body h c.alloc_body.result b c.args.fields)
    (birth-header h c.args.dictionary c.header-birth.result c.requires.stands
    (c.header-birth.ensures.answer plain_space))

use Rattle.std.proofs.Common.{◌∙◌, ap, sym}
use Rattle.ps_mem.specs.Objects.{heap_in}
use Rattle.ps_mem.specs.Plain.{plain_space, heap_of_image}
use Rattle.ps_mem.proofs.ImageLemmas.{heap-of-image}
use Rattle.ps_mem.proofs.plain.PlainMemory.image.Goals as goal

pub returns : goal.returns
returns c =
    let r = c.args.self.now.region in
    ap (λ n. heap_in r.words r.used n plain_space) (sym c.next.ensures)
    ∙ (heap-of-image r.words r.used c.next.result r.within
    ∙ ap (λ ws. heap_of_image ws c.next.result) (sym c.in_ok-words.ensures))

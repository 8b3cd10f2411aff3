use Rattle.std.proofs.Common.{ap, ◌∙◌}
use Rattle.ps_mem.specs.Heap.{Heap, object_at}
use Rattle.ps_mem.specs.Plain.{plain_space}
use Rattle.ps_mem.proofs.EmptyLemmas.{object_at-empty}
use Rattle.ps_mem.proofs.marked.plain_with_marks.Goals as goal

pub new-requires-2 : goal.new-requires-2
new-requires-2 c = record {
  empty = λ address. ap (λ (h : Heap). object_at h address) c.new.ensures
      ∙ object_at-empty plain_space address;
}

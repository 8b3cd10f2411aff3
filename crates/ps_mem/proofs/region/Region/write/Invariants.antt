use Rattle.std.proofs.Common.{◌≡◌, ◌+◌, length, take}
use Rattle.ps_mem.specs.Heap.{Space, stored}
use Rattle.ps_mem.specs.Objects.{heap_in}
use Rattle.ps_mem.proofs.region.Region.write.Given as goal

-- the words up to the index are stored
abbrev pub invariant-loop-word : goal.invariant-loop-word
invariant-loop-word l =
    (l.at ≡ l.place + l.word-index)
    × ((space : Space) → heap_in l.self.words l.self.used l.self.next space
    ≡ stored (heap_in l.initial.self.words l.initial.self.used l.initial.self.next space) l.address l.place
    (take l.word-index l.items))
    × ((l.self.used ≡ l.initial.self.used) × (l.self.next ≡ l.initial.self.next)
    × (length l.self.words ≡ length l.initial.self.words))

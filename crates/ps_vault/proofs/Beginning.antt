-- A memory in which nothing stands, and one that grows.
use Rattle.std.proofs.Common.{◌≡◌, ℕ, List, refl, sym, ap, ◌∙◌, arith}
use Rattle.ps_mem.specs.Heap.{Space, Heap, empty_heap}
use Rattle.ps_mem.specs.Objects.{heap_in}
use Rattle.ps_mem.specs.Plain.{plain_space, plain_grants}
use Rattle.ps_ctx_start.specs.Starts.{IsEmptyHeap}
use Rattle.ps_vault.specs.Holds.{Grows}

pub nothing_stands : (h : Heap) (space : Space) → h ≡ empty_heap space → IsEmptyHeap h
unfolding empty_heap
nothing_stands h space is = is ∙ ap empty_heap (sym (ap (λ (heap : Heap). heap.space) is))

pub plain_grows : (words : List ℕ) (size used next : ℕ)
    → Grows (heap_in words used next plain_space) (plain_grants size used next)
unfolding heap_in
plain_grows words size used next =
    record { grows = refl; opened = λ slot below. refl; free = λ slot below. omega arith }

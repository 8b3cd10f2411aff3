-- What stands in a plain memory, from its words alone.
use Rattle.std.specs.Prelude.{◌≡◌, ◌≤◌, ℕ, List, length, take}
use Rattle.std.proofs.Common.{refl, ◌∙◌, ap, sym}
use Rattle.std.proofs.lemmas.List.{length-take-le}
use Rattle.std.proofs.Math.Seq.{take-length}
use Rattle.ps_mem.specs.Heap.{Space, Heap}
use Rattle.ps_mem.specs.Objects.{heap_in, object_in}
use Rattle.ps_mem.specs.Plain.{plain_space, heap_of_image}

-- these are the words of the objects, and so many
heap_by : (words : List ℕ) (used next : ℕ) → Heap
heap_by words used next =
    record { at = object_in words 0; next = next; used = used; space = plain_space }

is_by : (words : List ℕ) (used next : ℕ)
    → heap_in words used next plain_space ≡ heap_by (take used words) used next
unfolding heap_in heap_by
is_by words used next = refl

pub heap-of-image : (words : List ℕ) (used next : ℕ) → used ≤ length words
    → heap_in words used next plain_space ≡ heap_of_image (take used words) next
heap-of-image words used next within =
    let standing = take used words in
    is_by words used next
    ∙ (ap (λ ws. heap_by ws used next) (sym (take-length standing))
    ∙ (ap (λ n. heap_by (take (length standing) standing) n next)
    (sym (length-take-le used words within))
    ∙ sym (is_by standing (length standing) next)))

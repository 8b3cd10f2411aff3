-- No fewer words stand where what stood still stands, and where it stands.
use Rattle.std.proofs.Common.{◌≡◌, ℕ, zero, suc, ◌^◌, ◌≤◌, Option, Some, None, refl, sym, subst, ◌∙◌, arith}
use Rattle.ps_word.specs.Format.{IsAddress}
use Rattle.ps_mem.specs.Heap.{Heap, Standing, object_at, size_of, words_below, standing_words}
use Rattle.ps_mem.specs.Keeps.{Keeps}
use Rattle.ps_mem.specs.Stands.{IsAddressed}

size-kept : (g h : Heap) → Keeps g h → (a : ℕ) (found : Option Standing) → object_at g a ≡ found
    → size_of found ≤ size_of (object_at h a)
size-kept g h keeps a None is = omega arith
size-kept g h keeps a (Some o) is =
    let still = keeps.stays a o is in
    let count = still.count in
    subst (λ (now : Option Standing). size_of (Some o) ≤ size_of now) (sym still.at)
    (omega (arith, count))

below-kept : (g h : Heap) → Keeps g h → (n : ℕ) → words_below g.at n ≤ words_below h.at n
unfolding words_below object_at
below-kept g h keeps zero = omega arith
below-kept g h keeps (suc n) =
    let before = below-kept g h keeps n in
    let one = size-kept g h keeps n (object_at g n) refl in
    omega (arith, before, one)

pub standing-kept : (g h : Heap) → Keeps g h → standing_words g ≤ standing_words h
unfolding standing_words
standing-kept g h keeps = below-kept g h keeps (2 ^ 24)

-- it has an address of 24 bits where it has one then
pub addressed-kept : (g h : Heap) → Keeps g h → IsAddressed h → IsAddressed g
addressed-kept g h keeps addressed a stands = by (object_at g a) refl
  where
    by : (found : Option Standing) → object_at g a ≡ found → IsAddress a
    by None is = absurd (stands is)
    by (Some o) is =
        let still = keeps.stays a o is in
        addressed a (λ none.
        let clash : None ≡ Some still.now = sym none ∙ still.at in absurd (cc))

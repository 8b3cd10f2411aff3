-- How many words stand: after a move no more than before.
use Rattle.std.proofs.Common.{◌≡◌, ◌≢◌, ◌^◌, ℕ, zero, suc, ◌+◌, ◌<◌, ◌≤◌, length, Some, None, Option, refl, sym, ap}
use Rattle.std.proofs.Common.{◌∙◌, arith}
use Rattle.ps_mem.specs.Heap.{Heap, Standing, object_at, size_of, words_below, standing_words}
use Rattle.ps_mem.proofs.LessWords.{without, there, words_less}
use Rattle.ps_core_laws.specs.Moves.{Forwarding, moved_object, IsMovedTo, KeepsRoom}
use Rattle.ps_core_laws.proofs.Words.{length-moved_fields}

-- an object of these words below this address, and its replica
record IsSource (at : ℕ → Option Standing) (forward : Forwarding) (n b words : ℕ) : Type 0 where
  a : ℕ
  moved : forward a ≡ Some b
  low : a < n
  size : size_of (at a) ≡ words

module _ (forward : Forwarding) (now : ℕ → Option Standing) (n : ℕ) where
  abbrev HasSources : (ℕ → Option Standing) → ℕ → Type 0
  HasSources at m = (b : ℕ) (o : Standing) → b < m → now b ≡ Some o
      → IsSource at forward n b (2 + length o.fields)

  no_more : (m : ℕ) (at : ℕ → Option Standing) → HasSources at m
      → words_below now m ≤ words_below at n
  unfolding words_below
  no_more zero at sources = omega arith
  no_more (suc m) at sources = elim (now m) as
      (λ x. now m ≡ x → words_below now m + size_of (now m) ≤ words_below at n) [
        | None ↦ λ e.
            let rest = no_more m at (λ b o lt. sources b o (omega arith)) in
            let none : size_of (now m) ≡ 0 = ap size_of e in
            omega (arith, rest, none)
        | Some o ↦ λ e.
            let source = sources m o (omega arith) e in
            let others : HasSources (without at source.a) m = λ b p lt is.
            let other = sources b p (omega arith) is in
            let apart : source.a ≢ other.a = λ same.
            let one : Some m ≡ Some b = sym source.moved ∙ (ap forward same ∙ other.moved) in
            let clash : m ≡ b = cc in omega arith in
            record {
              a = other.a;
              moved = other.moved;
              low = other.low;
              size = ap size_of (there at source.a other.a apart) ∙ other.size;
            } in
            let rest = no_more m (without at source.a) others in
            let less = words_less at source.a n source.low in
            let size = source.size in
            let some : size_of (now m) ≡ 2 + length o.fields = ap size_of e in
            omega (arith, rest, less, size, some)
      ] refl

pub room-moved : (h now : Heap) (forward : Forwarding) → IsMovedTo h now forward
    → KeepsRoom h now forward
unfolding standing_words object_at
room-moved h now forward moves =
    no_more forward now.at (2 ^ 24) (2 ^ 24) h.at (λ b o lt at.
    let there = moves.only b o at in
    let r = moves.replicas there.0 b there.1 in
    let one : Some (moved_object forward r.object) ≡ Some o =
    sym r.stands ∙ at in
    let same : moved_object forward r.object ≡ o = cc in
    let long = length-moved_fields forward r.object.kind r.object.fields in
    let was : size_of (h.at there.0) ≡ 2 + length r.object.fields = ap size_of r.stood in
    let is : length o.fields ≡ length r.object.fields =
    ap (λ (x : Standing). length x.fields) (sym same) ∙ long in
    record {
      a = there.0;
      moved = there.1;
      low = r.from;
      size = was ∙ ap (λ k. 2 + k) (sym is);
    })

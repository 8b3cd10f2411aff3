-- Where nothing stands.
use Rattle.std.proofs.Common.{◌≡◌, ℕ, List, [], Some, None, refl, sym, ◌∙◌}
use Rattle.ps_mem.specs.Heap.{Space, Standing, object_at, empty_heap}
use Rattle.ps_mem.specs.Objects.{object_in, heap_in}
use Rattle.ps_mem.specs.Shows.{IsSound, Shows}

pub object_at-empty : (space : Space) (a : ℕ) → object_at (empty_heap space) a ≡ None
unfolding object_at empty_heap
object_at-empty space a = refl

nothing : (space : Space) (a : ℕ) (o : Standing) → object_at (empty_heap space) a ≡ Some o → ⊥
nothing space a o at = let clash : None ≡ Some o = sym (object_at-empty space a) ∙ at in cc

pub IsSound-empty : (space : Space) → IsSound (empty_heap space)
IsSound-empty space = record {
  single = λ a b o p at at' body body' one. absurd (nothing space a o at);
  below = λ a o at. absurd (nothing space a o at);
  fields = λ a o at. absurd (nothing space a o at);
}

-- the empty store is shown, whatever names are met
pub Shows-empty : (space : Space) (names : List (List ℕ)) → Shows (empty_heap space) names []
unfolding empty_heap
Shows-empty space names = record {
  next = refl;
  objects = λ a o at body. absurd (nothing space a o at);
  within = λ a o at text. absurd (nothing space a o at);
}

-- no word is used
pub heap_in-none : (words : List ℕ) (space : Space) → heap_in words 0 0 space ≡ empty_heap space
unfolding heap_in empty_heap object_in
heap_in-none words space = refl

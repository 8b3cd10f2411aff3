-- What stays of a heap.
use Rattle.std.specs.Prelude.{ℕ, ◌≡◌, length, Some}
use Rattle.ps_mem.specs.Heap.{Heap, Standing, object_at}

-- an object still stands, of the same kind, birth number and number of fields
pub record StandsStill (h : Heap) (address : ℕ) (o : Standing) : Type 0 where
  pub now : Standing
  pub at : object_at h address ≡ Some now
  pub kind : now.kind ≡ o.kind
  pub birth : now.birth ≡ o.birth
  pub count : length now.fields ≡ length o.fields

-- what stood still stands so, and the space is the same
pub record Keeps (old new : Heap) : Type 0 where
  pub stays : (address : ℕ) (o : Standing) → object_at old address ≡ Some o
      → StandsStill new address o
  pub space : new.space ≡ old.space

-- nothing of this birth number has changed
pub record KeepsBirth (old new : Heap) (birth : ℕ) : Type 0 where
  pub same : (address : ℕ) (o : Standing) → object_at old address ≡ Some o → o.birth ≡ birth
      → object_at new address ≡ Some o

-- everything that stood stands as it was, and the space is the same
pub record Extends (old new : Heap) : Type 0 where
  pub same : (address : ℕ) (o : Standing) → object_at old address ≡ Some o → object_at new address
      ≡ Some o
  pub space : new.space ≡ old.space

-- Which addresses and birth numbers what stands in a memory may have.
use Rattle.std.specs.Prelude.{ℕ, ◌≡◌, ◌≢◌, Some, None}
use Rattle.ps_language.specs.declared.kinds.Kind.TheVariants.{Body}
use Rattle.ps_word.specs.Format.{IsAddress}
use Rattle.ps_mem.specs.Heap.{Heap, Standing, object_at}

-- what stands has an address of 24 bits
abbrev pub IsAddressed : Heap → Type 0
IsAddressed h = (address : ℕ) → object_at h address ≢ None → IsAddress address

-- an object of this birth number stands that is no body
pub record IsStanding (h : Heap) (birth : ℕ) : Type 0 where
  pub address : ℕ
  pub object : Standing
  pub at : object_at h address ≡ Some object
  pub whole : object.kind ≢ Body
  pub born : object.birth ≡ birth

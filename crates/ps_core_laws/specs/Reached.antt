-- What words reach in a memory, and memories in which nothing else stands.
use Rattle.std.specs.Prelude.{ℕ, ◌≡◌, ◌≢◌, true, List, Some, None}
use Rattle.std.specs.List.{Contains}
use Rattle.ps_language.specs.declared.kinds.Kind.TheVariants.{Text}
use Rattle.ps_word.specs.declared.words.Word.{Word}
use Rattle.ps_word.specs.Format.{address_in}
use Rattle.ps_word.specs.Readers.{is_reference}
use Rattle.ps_mem.specs.Heap.{Heap, Standing, object_at}
use Rattle.ps_core_laws.specs.Moves.{Forwarding}

-- the addresses that the roots name, and those that what stands there names; bodies too, which
-- their dictionaries name. The words of a string name nothing
pub data IsReached (h : Heap) (roots : List Word) : ℕ → Type 0 where
  by_root : (w : Word) → Contains roots w → is_reference w.0 ≡ true
      → IsReached h roots (address_in w.0)
  by_field : (a : ℕ) (o : Standing) (w : Word) → IsReached h roots a → object_at h a ≡ Some o
      → o.kind ≢ Text → Contains o.fields w → is_reference w.0 ≡ true
      → IsReached h roots (address_in w.0)

-- nothing stands but what the roots reach
abbrev pub AreReached : Heap → (roots : List Word) → Type 0
AreReached h roots = (a : ℕ) → object_at h a ≢ None → IsReached h roots a

-- nothing has a replica but what the roots reach
abbrev pub MovesReached : Heap → Forwarding → (roots : List Word) → Type 0
MovesReached h forward roots = (a : ℕ) → forward a ≢ None → IsReached h roots a

-- What renaming does to the words of the format: to values of each type, in objects of each kind.
use Rattle.std.specs.Prelude.{◌≡◌, ℕ, List, Some, None}
use Rattle.ps_language.specs.declared.kinds.Kind.{Kind}
use Rattle.ps_language.specs.declared.kinds.Kind.TheVariants.{Array, Text, Dictionary, Lock}
use Rattle.ps_language.specs.declared.kinds.Kind.TheVariants.{Condition, Body}
use Rattle.ps_word.specs.declared.headers.Header.{Header}
use Rattle.ps_word.specs.declared.values.Value.{Value}
use Rattle.ps_word.specs.Format.{packed, IsInFormat}
use Rattle.ps_word.specs.Headers.{header_packed, IsHeader}
use Rattle.ps_word.specs.Readers.{address_of, with_address}
use Rattle.ps_core_machine.specs.declared.events.Pair.{Pair}
use Rattle.ps_core_machine.specs.Objects.{pair_of, renamed_value, renamed}
use Rattle.ps_core_machine.specs.Steps.{State}

-- the value, naming another address
abbrev pub led_to : Value → ℕ → Value
led_to v address = record v { content = with_address v.content address }

-- a value that is no reference stays, and so does a reference to what has no replica; another leads
-- to the replica, with its type, part, access and attribute
pub record RenamesValue (pairs : List Pair) (v : Value) : Type 0 where
  pub plain : address_of v.content ≡ None → renamed_value pairs (packed v) ≡ packed v
  pub alone : (a : ℕ) → address_of v.content ≡ Some a → pair_of pairs a ≡ None
      → renamed_value pairs (packed v) ≡ packed v
  pub moved : (a : ℕ) (p : Pair) → address_of v.content ≡ Some a → pair_of pairs a ≡ Some p
      → renamed_value pairs (packed v) ≡ packed (led_to v p.replica)

-- a word of an object of each kind: those of a string stay
abbrev pub renamed_in : Kind → List Pair → ℕ → ℕ
renamed_in Array pairs w = renamed_value pairs w
renamed_in Text pairs w = w
renamed_in Dictionary pairs w = renamed_value pairs w
renamed_in Lock pairs w = renamed_value pairs w
renamed_in Condition pairs w = renamed_value pairs w
renamed_in Body pairs w = renamed_value pairs w

pub record Renames (s : State) : Type 0 where
  pub values : (v : Value) → IsInFormat v → RenamesValue s.gc.pairs v
  pub words : (h : Header) (w : ℕ) → IsHeader h
      → renamed s.gc.pairs (header_packed h) w ≡ renamed_in h.kind s.gc.pairs w

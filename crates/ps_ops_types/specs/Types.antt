-- The types of contents, by their places.
use Rattle.std.specs.Prelude.{ℕ}
use Rattle.ps_word.specs.declared.values.Content.{Content}
use Rattle.ps_word.specs.declared.values.Content.TheVariants.{Null, Integer, Boolean, Mark, Name}
use Rattle.ps_word.specs.declared.values.Content.TheVariants.{Operator, Array, Text, Dictionary}
use Rattle.ps_word.specs.declared.values.Content.TheVariants.{Lock, Condition, Body}

-- the places of the types among the types
abbrev pub type_place : Content → ℕ
type_place (Integer number) = 0
type_place (Boolean truth) = 1
type_place Null = 2
type_place Mark = 3
type_place (Name number) = 4
type_place (Operator operator) = 5
type_place (Array part) = 6
type_place (Text part) = 7
type_place (Dictionary address) = 8
type_place (Lock address) = 9
type_place (Condition address) = 10
type_place (Body address) = 2

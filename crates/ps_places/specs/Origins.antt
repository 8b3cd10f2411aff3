-- Where the tokens of a program begin that made objects.
use Rattle.std.specs.Prelude.{ℕ, ◌-◌, ◌<◌, ⊤, Option, Some, None, List, [], ◌∷◌, nat_le}
use Rattle.std.specs.Prelude.{if◌then◌else◌}
use Rattle.std.specs.List.{AllByRecursion}
use Rattle.std.specs.Option.{option_or, option_and_then}
use Rattle.ps_places.specs.declared.origins.Origin.{Origin}
use Rattle.ps_places.specs.declared.origins.OriginFault.{OriginFault}
use Rattle.ps_places.specs.declared.origins.OriginFault.TheVariants.{Memory, Unordered}
use Rattle.ps_places.specs.Objects as objects

-- it was born later than another, and lies further on in the text
pub record IsAbove (origin below : Origin) : Type 0 where
  pub birth : below.birth < origin.birth
  pub begin : below.begin < origin.begin

-- it is above each of these
abbrev pub IsBehind : Origin → List Origin → Type 0
IsBehind origin origins = AllByRecursion (IsAbove origin) origins

-- each is above those before it
abbrev pub AreRising : List Origin → Type 0
AreRising [] = ⊤
AreRising (origin ∷ origins) =
    AllByRecursion (λ later. IsAbove later origin) origins × AreRising origins

-- why an origin isn't noted behind others
abbrev pub IsNoteFault : Origin → List Origin → OriginFault → Type 0
IsNoteFault origin origins Memory = IsBehind origin origins
IsNoteFault origin origins Unordered = ¬ IsBehind origin origins

-- the last one whose first object wasn't born later
abbrev pub origin_in : (birth : ℕ) → List Origin → Option Origin
origin_in birth [] = None
origin_in birth (origin ∷ origins) = option_or (origin_in birth origins)
    (if nat_le origin.birth birth then Some origin else None)

-- where the object of a birth number begins in the text
unfoldable pub object_begin : (text : List ℕ) (origins : List Origin) (birth : ℕ) → Option ℕ
object_begin text origins birth =
    option_and_then (λ origin. objects.object_begin text origin.begin (birth - origin.birth))
    (origin_in birth origins)

-- where an element of it begins
unfoldable pub element_begin : (text : List ℕ) (origins : List Origin) (birth element : ℕ)
    → Option ℕ
element_begin text origins birth element =
    option_and_then
    (λ origin. objects.element_begin text origin.begin (birth - origin.birth) element)
    (origin_in birth origins)

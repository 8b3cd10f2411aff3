-- The topmost items of a stack, seen as a list with the topmost first.
use Rattle.std.specs.Prelude.{ℕ, Option, Some, None, List, [], ◌∷◌, ◌++◌, take, drop}

-- the topmost
abbrev pub first_of : {A : Type 0} → List A → Option A
first_of [] = None
first_of (x ∷ rest) = Some x

-- the two topmost
abbrev pub first_two_of : {A : Type 0} → List A → Option (A × A)
first_two_of [] = None
first_two_of (x ∷ []) = None
first_two_of (x ∷ y ∷ rest) = Some (x, y)

-- the three topmost
abbrev pub first_three_of : {A : Type 0} → List A → Option (A × A × A)
first_three_of [] = None
first_three_of (x ∷ []) = None
first_three_of (x ∷ y ∷ []) = None
first_three_of (x ∷ y ∷ z ∷ rest) = Some (x, y, z)

-- the first items behind the others
abbrev pub rotated : {A : Type 0} → ℕ → List A → List A
rotated places items = drop places items ++ take places items

-- Hexadecimal digits behind a first half of a byte.
use Rattle.std.specs.Prelude.{ℕ, ◌+◌, ◌*◌, List, [], ◌∷◌, Option, Some, None}
use Rattle.ps_language.specs.Bytes.{digit_of}
use Rattle.ps_language.specs.Reading.{pairs}

-- the bytes that digits write behind a high half, if there is one
abbrev pub pairs_behind : Option ℕ → List ℕ → List ℕ
pairs_behind None digits = pairs digits
pairs_behind (Some high) [] = (high * 16) ∷ []
pairs_behind (Some high) (low ∷ digits) = (high * 16 + digit_of low) ∷ pairs digits

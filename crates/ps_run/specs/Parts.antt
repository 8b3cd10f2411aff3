-- Files that are read part by part.
use Rattle.std.specs.Prelude.{◌≡◌, ◌++◌, ℕ, List, [], Option, Some}

-- the next bytes of what is left of a file stand behind others, and the rest is left; there are
-- none
-- only where nothing was left
pub record ReadsNext (known : List ℕ) (left : Option (List ℕ)) (old new : List ℕ) : Type 0 where
  pub part : List ℕ
  pub rest : List ℕ
  pub is : known ≡ part ++ rest
  pub is_left : left ≡ Some rest
  pub appended : new ≡ old ++ part
  pub some : part ≡ [] → rest ≡ []

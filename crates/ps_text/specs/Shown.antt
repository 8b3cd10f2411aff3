-- Texts that are cut at an end, and the texts of which the text of `==` is made.
use Rattle.std.specs.Prelude.{ℕ, zero, suc, ◌≤◌, ◌≡◌, Bool, List, [], ◌∷◌, take, length, codes}
use Rattle.ps_language.specs.Value.{What, Value, Store}
use Rattle.ps_language.specs.Texts.{full_text_in, text_within}

-- new bytes begin with the old, and don't go past the end
pub record GoesOn (end : ℕ) (old new : List ℕ) : Type 0 where
  pub begins : take (length old) new ≡ old
  pub short : length new ≤ end

-- the text of what isn't gone into: an array has none of its own
abbrev pub simple_text : Store → Bool → What → List ℕ
simple_text store = full_text_in store (λ executable part. codes "-array-")

-- the text of a value whose arrays are gone into so many deep
unfoldable pub text_to : ℕ → Store → Value → List ℕ
text_to depth store v = text_within depth store v

-- what stands before the element of an index
abbrev pub separator : ℕ → List ℕ
separator zero = []
separator (suc index) = 32 ∷ []

-- The names that a run has met: texts, each once, in the order of meeting.
use Rattle.std.specs.Prelude.{ℕ, ◌≤◌, ◌≢◌, Option, List, map, length, position, All, AllPairs, Vec}
use Rattle.std.specs.Str.{bytes_eq}
use Rattle.ps_language.specs.Limits.{name_limit, names_limit}

-- the texts in buffers
abbrev pub texts_of : {A : Type 0} → List (Vec ℕ A) → List (List ℕ)
texts_of buffers = map (λ buffer. buffer.items) buffers

-- where a text stands, if it stands
abbrev pub place_of : List ℕ → List (List ℕ) → Option ℕ
place_of text names = position (bytes_eq text) names

-- no text stands twice, none is too long, and they are not too many
pub record AreNames (names : List (List ℕ)) : Type 0 where
  pub different : AllPairs (λ first later. first ≢ later) names
  pub short : All (λ text. length text ≤ name_limit) names
  pub few : length names ≤ names_limit

-- The new names of a procedure, from the least on.
use Rattle.std.specs.Prelude.{◌≡◌, ℕ, ◌&&◌, not, Bool, true, false, Option, Some, None, List}
use Rattle.std.specs.Prelude.{if◌then◌else◌}
use Rattle.std.specs.Cmp.Lexicographic.{slice_cmp}
use Rattle.std.specs.List.{list_any}
use Rattle.std.specs.Ordering.{is_lt, nat_cmp}
use Rattle.std.specs.Str.{bytes_eq}

-- a text is one of them
abbrev pub IsAmong : List ℕ → List (List ℕ) → Type 0
IsAmong text texts = list_any (bytes_eq text) texts ≡ true

-- it comes before another, byte by byte
abbrev pub is_before : List ℕ → List ℕ → Bool
is_before first later = is_lt (slice_cmp nat_cmp first later)

-- behind the last one, if any
abbrev pub is_behind : Option (List ℕ) → List ℕ → Bool
is_behind None text = true
is_behind (Some last) text = is_before last text

-- not met, and behind the last one
abbrev pub is_new : (names : List (List ℕ)) → (last : Option (List ℕ)) → List ℕ → Bool
is_new names last text = not (list_any (bytes_eq text) names) && is_behind last text

-- the lesser of two
abbrev pub lesser : Option (List ℕ) → Option (List ℕ) → Option (List ℕ)
lesser None other = other
lesser (Some first) None = Some first
lesser (Some first) (Some other) = if is_before other first then Some other else Some first

-- the least of the texts that pass a test; None: none does
abbrev pub IsLeast : (test : List ℕ → Bool) → List (List ℕ) → Option (List ℕ) → Type 0
IsLeast test texts None = (text : List ℕ) → IsAmong text texts → test text ≡ false
IsLeast test texts (Some least) =
    IsAmong least texts × (test least ≡ true)
    × ((text : List ℕ) → IsAmong text texts → test text ≡ true → is_before text least ≡ false)

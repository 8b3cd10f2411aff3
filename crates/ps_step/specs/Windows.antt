-- Bytes of a string that were read into a list (PLRM2, 3.2).
use Rattle.std.specs.Prelude.{◌≡◌, ℕ, ◌+◌, ◌≤◌, ⊤, List, length, slice_range}
use Rattle.ps_language.specs.Access.{bytes}
use Rattle.ps_language.specs.Scan.{scan}
use Rattle.ps_language.specs.Token.{found}
use Rattle.ps_language.specs.Value.{Store}
use Rattle.ps_word.specs.declared.values.Part.{Part}
use Rattle.ps_mem.specs.Heap.{Heap, birth_at}
use Rattle.ps_mem.specs.Shows.{Shows}
use Rattle.ps_scan.specs.declared.tokens.Token.{Token}
use Rattle.ps_scan.specs.Shown.{token_of}
use Rattle.ps_ops_control.specs.declared.frames.Source.{Source}
use Rattle.ps_ops_control.specs.declared.frames.Source.TheVariants.{Program, Text}
use Rattle.ps_step.specs.declared.windows.Window.{Window}

-- in every store that the memory shows the list is so many bytes of a string, from a place on
abbrev pub AreRead : Heap → (address start : ℕ) → List ℕ → Type 0
AreRead h address start list = (names : List (List ℕ)) (s : Store) → Shows h names s
    → start + length list ≤ length (bytes s (birth_at h address))
    → list ≡ slice_range (bytes s (birth_at h address)) start (start + length list)

-- it is some of the string that is the source
abbrev pub IsWindow : Heap → Source → Window → Type 0
IsWindow h Program window = ⊤
IsWindow h (Text part) window = AreRead h part.address window.start window.bytes.items
    × (window.start + length window.bytes.items ≤ part.offset + part.length)

-- whatever bytes they are of which the list was read from a place on, behind a place of a part of
-- these this token stands
abbrev pub StandsBehind : Part → (at start : ℕ) → (list : List ℕ) → Token → Type 0
StandsBehind part at start list token =
    (all : List ℕ) → part.offset + part.length ≤ length all
    → list ≡ slice_range all start (start + length list)
    → scan (slice_range all part.offset (part.offset + part.length)) at
    ≡ found (token_of list token.kind) token.end

-- Parts of a text: those of the user in an XML document (Extensible Markup Language 1.0, 2.2 and
-- 2.4), and numbers.
use Rattle.std.specs.Prelude.{ℕ, ◌==◌, ◌&&◌, List, [], ◌∷◌, ◌++◌, nat_le, codes, if◌then◌else◌}
use Rattle.std.specs.List.{flat_map}
use Rattle.std.specs.Fmt.{decimal}

-- markup begins with & (38) and <; a byte that is no printable ASCII may be no character at all
abbrev pub escaped_byte : ℕ → List ℕ
escaped_byte b = if b == 38 then codes "&amp;" else (if b == 60 then codes "&lt;"
    else (if b == 62 then codes "&gt;" else (if nat_le 32 b && nat_le b 126 then b ∷ []
    else codes "?")))

abbrev pub escaped : List ℕ → List ℕ
escaped bytes = flat_map escaped_byte bytes

-- a number between two texts
unfoldable pub number_text : (before : List ℕ) (number : ℕ) (behind : List ℕ) → List ℕ
number_text before number behind = before ++ (decimal number ++ behind)

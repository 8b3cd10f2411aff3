-- How the bytes of a program are shown.
use Rattle.std.specs.Prelude.{ℕ, ◌==◌, ◌&&◌, ◌||◌, Bool, nat_le, if◌then◌else◌}
use Rattle.ps_views.specs.declared.bytes.Showing.{Showing}
use Rattle.ps_views.specs.declared.bytes.Showing.TheVariants.{Word, Line, Source, Blank}

-- printable ASCII, from the space to the tilde
abbrev pub is_printable : ℕ → Bool
is_printable b = nat_le 32 b && nat_le b 126

-- a tab, a line feed or a carriage return
abbrev pub is_space : ℕ → Bool
is_space b = (b == 9) || (b == 10) || (b == 13)

-- what stands for a byte: 63 is ?, 9 is the tab
abbrev pub shown_byte : Showing → ℕ → ℕ
shown_byte Word b = if is_printable b then b else 63
shown_byte Line b = if is_printable b then b else (if is_space b then 32 else 63)
shown_byte Source b = if is_printable b || (b == 9) then b else 63
shown_byte Blank b = if b == 9 then b else 32

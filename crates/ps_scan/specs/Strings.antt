-- Strings by their parts and their extent.
use Rattle.std.specs.Prelude.{◌≡◌, ℕ, ◌+◌, ◌<◌, ◌≤◌, List, length, drop, Option, Some, None}
use Rattle.std.specs.Prelude.{option_to_list, Result, Ok, Err}
use Rattle.ps_language.specs.Token.{string_token}
use Rattle.ps_language.specs.Reading.{Reading, token_then, Ending, string_end, unfinished}
use Rattle.ps_language.specs.Reading.{with_front}
use Rattle.ps_language.specs.Scan.{string_from}
use Rattle.ps_scan.specs.declared.strings.Extent.{Extent}
use Rattle.ps_scan.specs.declared.strings.Part.{Part}
use Rattle.ps_scan.specs.declared.tokens.ScanFault.{ScanFault}
use Rattle.ps_scan.specs.Shown.{IsStuckBy}

-- how many bytes an ending has behind so many, and what is left behind it
abbrev pub extent_of : (so_far : ℕ) → Ending → Option (ℕ × List ℕ)
extent_of so_far (string_end value rest) = Some (so_far + length value, rest)
extent_of so_far unfinished = None

-- the extent of the string that is read, or the fault that is
abbrev pub IsSized : (text : List ℕ) (at : ℕ) → Result Extent ScanFault → Reading → Type 0
IsSized text at (Ok extent) reading =
    (value : List ℕ) × (reading ≡ token_then (string_token value) (drop extent.end text))
    × (length value ≡ extent.length) × (extent.length ≤ 65535) × (at < extent.end)
    × (extent.end ≤ length text)
IsSized text at (Err fault) reading = IsStuckBy ⊥ reading fault

-- how a string goes on at any depth: with the byte of a part and what follows it, or to the end of
-- the text
abbrev pub PartReads : (text : List ℕ) → Option Part → (reading : ℕ → Ending) → Type 0
PartReads text (Some part) reading = (depth : ℕ) → reading depth
    ≡ with_front (option_to_list part.byte) (string_from depth (drop part.next text))
PartReads text None reading = (depth : ℕ) → reading depth ≡ unfinished

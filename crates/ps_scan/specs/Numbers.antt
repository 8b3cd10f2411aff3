-- What number a run of regular bytes writes.
use Rattle.std.specs.Prelude.{◌^◌, nat_lt, if◌then◌else◌}
use Rattle.ps_language.specs.Reading.{Word, integer_word, radix_word, real_word, name_word}
use Rattle.ps_language.specs.Reading.{fits_integer, as_signed}
use Rattle.ps_scan.specs.declared.numbers.Number.{Number}
use Rattle.ps_scan.specs.declared.numbers.Number.TheVariants.{Integer, PastLimits, NoNumber}

-- an integer of 32 bits, a number past the limits, or none
abbrev pub number_in : Word → Number
number_in (integer_word number) = if fits_integer number then Integer number else PastLimits
number_in (radix_word number) =
    if nat_lt number (2 ^ 32) then Integer (as_signed number) else PastLimits
number_in real_word = PastLimits
number_in name_word = NoNumber

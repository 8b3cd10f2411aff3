-- The word of a name once it is formed.
use Rattle.std.specs.Prelude.{◌≡◌, ℕ, false}
use Rattle.ps_word.specs.declared.words.Word.{Word}
use Rattle.ps_word.specs.declared.values.Content.TheVariants.{Name}
use Rattle.ps_word.specs.Format.{value_in, IsWord}
use Rattle.ps_step_lookup.specs.declared.keys.Key.{Key}
use Rattle.ps_step_lookup.specs.declared.keys.Key.TheVariants.{Met, Unmet, TooLong}

-- the word is the literal name of a number
abbrev pub IsNumbered : (number : ℕ) → Word → Type 0
IsNumbered number w =
    (value_in w.0 ≡ record { content = Name number; executable = false }) × IsWord w.0

-- that of a key that was met; or of the last name, behind so many others
abbrev pub IsFormedWord : Key → (count : ℕ) → Word → Type 0
IsFormedWord (Met v) count w = w ≡ v
IsFormedWord (Unmet text) count w = IsNumbered count w
IsFormedWord TooLong count w = IsNumbered count w

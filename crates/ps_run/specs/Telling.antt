-- What an output has of the texts that it is told.
use Rattle.std.specs.Prelude.{◌≡◌, Bool, true, false, ℕ, List, Option}
use Rattle.std.specs.Io.KnownBytes.{Appends}
use Rattle.ps_vault.specs.Screens.{AppendsPart}

-- an output's bytes, as far as they are known, and whether it did not take all that it was told
pub record Told : Type 0 where
  pub bytes : Option (List ℕ)
  pub failed : Bool

-- it is told a text: it has a beginning of it, and all of it where it has not failed; one that had
-- failed is left alone
pub record Tells (old new : Told) (text : List ℕ) : Type 0 where
  pub part : AppendsPart old.bytes new.bytes text
  pub whole : new.failed ≡ false → Appends old.bytes new.bytes text
  pub silent : old.failed ≡ true → new ≡ old

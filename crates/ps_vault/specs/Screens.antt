-- What is shown of the bytes that a run prints.
use Rattle.std.specs.Prelude.{◌≡◌, ◌≤◌, ◌++◌, ℕ, Bool, true, false, List, Option, length, take}
use Rattle.std.specs.Io.KnownBytes.{Appends}
use Rattle.ps_language.specs.declared.schedules.Entry.{Entry}
use Rattle.ps_language.specs.Worlds.{printed}

-- known bytes grow by a beginning of these
pub record AppendsPart (old new : Option (List ℕ)) (bytes : List ℕ) : Type 0 where
  pub part : List ℕ
  pub rest : List ℕ
  pub is : bytes ≡ part ++ rest
  pub written : Appends old new part

-- what a viewer was shown, whether it watches, how many of a run's bytes it was shown, and whether
-- there is a part of the next, and no more comes
pub record Sight : Type 0 where
  pub seen : Option (List ℕ)
  pub watching : Bool
  pub shown : ℕ
  pub failed : Bool

-- behind what there was first, so many of the printed bytes are seen; or a beginning of them
abbrev pub AreSeen : (failed : Bool) → (first now : Option (List ℕ)) → (shown : ℕ)
    → (printed : List ℕ) → Type 0
AreSeen false first now shown printed = Appends first now (take shown printed)
AreSeen true first now shown printed = AppendsPart first now printed

pub record HasShown (first : Option (List ℕ)) (sight : Sight) (printed : List ℕ) : Type 0 where
  pub within : sight.shown ≤ length printed
  pub seen : AreSeen sight.failed first sight.seen sight.shown printed

-- what is shown of the bytes before is shown of those after, and perhaps more of them
abbrev pub ShowsOn : (old : Sight) → (before : List ℕ) → (new : Sight) → (after : List ℕ) → Type 0
ShowsOn old before new after =
    (first : Option (List ℕ)) → HasShown first old before → HasShown first new after

-- what was shown is of what a program prints under a schedule
abbrev pub HasShownSome : (program : List ℕ) → (first : Option (List ℕ)) → Sight → Type 0
HasShownSome program first sight =
    (schedule : List Entry) × HasShown first sight (printed program schedule)

-- What is printed, and how much more may be.
use Rattle.std.specs.Prelude.{◌≡◌, ℕ, ◌+◌, ◌<◌, ◌≤◌, ◌++◌, List, Result, OnOk, OnErr, length}

-- the printed bytes, how many there may be, and how many more find room before memory is asked for
-- or the bound is passed
pub record Printed : Type 0 where
  pub bytes : List ℕ
  pub most : ℕ
  pub room : ℕ

-- the bound stays, and no fewer bytes find room in all
pub record StaysBounded (old new : Printed) : Type 0 where
  pub most : new.most ≡ old.most
  pub capacity : length old.bytes + old.room ≤ length new.bytes + new.room

-- a text came behind what was printed; or it has no room
pub record Prints {E : Type 0} (result : Result Unit E) (text : List ℕ) (old new : Printed)
    : Type 0 where
  pub ok : OnOk result (new.bytes ≡ old.bytes ++ text)
  pub full : OnErr result (old.room < length text)

-- What a table ends as, where a `&mut` to an item is returned.
use Rattle.std.specs.Prelude.{ℕ, List, Option, Some}
use Rattle.std.specs.Borrow.{Lends, Fml, RattleType, MutBor}
use Rattle.ps_ctx_table.specs.Seats.{with_item}
use Rattle.ps_ctx_table.specs.contracts.table.Table.{the_row}

module _ (T : RattleType) (identifier : ℕ) (table : MutBor (List (Option T.Denot))) where
  -- once the borrow r ends, the item is the last value written through r
  abbrev pub lends_item : MutBor T.Denot → Fml
  lends_item r = Lends (the_row T) T table r (λ item. with_item table.now identifier (Some item))

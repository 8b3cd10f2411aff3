-- What a stack ends as, where a `&mut` to an item is returned.
use Rattle.std.specs.Prelude.{List, ◌∷◌, drop}
use Rattle.std.specs.Borrow.{Lends, Fml, RattleType, MutBor}
use Rattle.ps_stacks.specs.contracts.stack.Stack.{the_row}

module _ (T LIMIT : RattleType) (s : MutBor (List T.Denot)) where
  -- once the borrow r ends, the topmost item is the last value written through r
  abbrev pub lends_top : MutBor T.Denot → Fml
  lends_top r = Lends (the_row T LIMIT) T s r (λ w. w ∷ drop 1 s.now)

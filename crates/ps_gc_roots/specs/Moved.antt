-- What contexts keep while a collector moves the objects of their memory (PLRM2, 7.1).
use Rattle.std.specs.Prelude.{◌≡◌, ℕ, Some}
use Rattle.ps_language.specs.Contexts.{context_at}
use Rattle.ps_language.specs.Live.{Live}
use Rattle.ps_language.specs.Lowest.{HasFirstDictionaries}
use Rattle.ps_language.specs.World.{Context, World}
use Rattle.ps_mem.specs.Heap.{Heap}
use Rattle.ps_ctx_table.specs.Desks.{IsSteady}
use Rattle.ps_ctx.specs.Held.{Held, IsAt, AreFramedBy}

-- they are at each world that they were at, what holds in every memory still holds, and the program
-- stays
pub record KeepsWorlds (old new : Held) : Type 0 where
  pub at : (w : World) → IsAt old w → IsAt new w
  pub steady : IsSteady old.desk → IsSteady new.desk
  pub framed : AreFramedBy old.calling old.desk → AreFramedBy new.calling new.desk
  pub program : new.desk.program ≡ old.desk.program
  pub most : new.desk.most ≡ old.desk.most

-- ---- what lives

-- a context is left, whose lowest dictionaries are the first two
pub record IsLeft (w : World) : Type 0 where
  pub identifier : ℕ
  pub context : Context
  pub found : context_at w identifier ≡ Some context
  pub first : HasFirstDictionaries context.dictionaries

-- the words that are used are those of what lives
abbrev pub UsesLive : Heap → World → Type 0
UsesLive h w = IsLeft w → Live w h.used

-- Operators that neither see nor change frames, and what an operator left that did nothing.
use Rattle.std.specs.Prelude.{◌++◌, ℕ, Bool, true, false, List}
use Rattle.ps_language.specs.Value.{Store}
use Rattle.ps_language.specs.Rows.{Row, scene_row, world_row}
use Rattle.ps_mem.specs.Keeps.{Keeps}
use Rattle.ps_ops_operands.specs.Changes.{KeepsLogsWithin}
use Rattle.ps_ops_control.specs.declared.frames.Frame.{Frame}
use Rattle.ps_ops_state.specs.Acts.{IsSame, Stays}
use Rattle.ps_ops_state.specs.Lent.{Lent, IsShown, IsGood}

-- those of every row but two: frames are pushed or unwound, or the world is changed
abbrev pub is_unframed : Row → Bool
is_unframed (scene_row does) = false
is_unframed (world_row does) = false
is_unframed row = true

-- more frames above those that stand
abbrev pub under : List Frame → Lent → Lent
under above l = record l { frames = above ++ l.frames }

-- for every store that is shown nothing has changed but what was granted, and how much room the
-- output and the lists have; no record was put
pub record IsUndone (slot : ℕ) (old new : Lent) : Type 0 where
  pub same : (store : Store) → IsShown old store → IsSame old new
  pub good : IsGood new
  pub keeps : Keeps old.heap new.heap
  pub stays : Stays old new
  pub logs : KeepsLogsWithin 0 old.grants new.grants slot

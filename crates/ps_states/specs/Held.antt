-- What is asked of a context whose lines are told, in every memory, and over a store.
use Rattle.std.specs.Prelude.{ℕ, List}
use Rattle.ps_language.specs.Value.{Store}
use Rattle.ps_mem.specs.Heap.{Heap}
use Rattle.ps_mem.specs.Shows.{AreValues, AreWithin, Shows}
use Rattle.ps_ops_control.specs.Frames.{AreFrames, AreFramesWithin}
use Rattle.ps_ctx_table.specs.declared.members.Member.{Member}
use Rattle.ps_ctx_table.specs.Desks.{IsCourseHeld}

-- what it refers to stands
pub record IsMemberHeld (h : Heap) (member : Member) : Type 0 where
  pub operands : AreValues h member.context.operands
  pub dictionaries : AreValues h member.context.dictionaries
  pub size : ℕ
  pub frames : AreFrames h size member.context.frames
  pub course : IsCourseHeld h member.course

-- the store is shown, and what the context has is within it
pub record IsMemberShown (h : Heap) (names : List (List ℕ)) (s : Store) (member : Member)
    : Type 0 where
  pub shows : Shows h names s
  pub operands : AreWithin h names s member.context.operands
  pub frames : AreFramesWithin h names s member.context.frames

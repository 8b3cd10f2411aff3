-- Control leaves the dictionary stack alone: each fact of it stays.
use Rattle.std.specs.Prelude.{ℕ, List, [], ◌∷◌}
use Rattle.ps_language.specs.Value.{Part, Value}
use Rattle.ps_language.specs.World.{Frame}
use Rattle.ps_language.specs.Effect.{Scene}
use Rattle.ps_language.specs.Outcome.{Outcome}
use Rattle.ps_language.specs.Control.{with_operand, with_frame, entered, exec_row, if_row, ifelse_row, for_row}
use Rattle.ps_language.specs.Control.{repeat_row, loop_row, forall_row, stopped_row, bind_row}
use Rattle.ps_language.specs.StepBind.{Bound, at_end, at_inner, no_access, bound_scene, bind_step}
use Rattle.ps_language.specs.StepFrames.{with_turn_operands}
use Rattle.ps_language.proofs.Leaving.{Leaves, left_with, left_none, leaving}

module _ (P : List Value → Type 0) where
  abbrev pub LeavesStack : Outcome Scene → Type 0
  LeavesStack outcome = Leaves (λ scene. P scene.dictionaries) outcome

  abbrev pub RowKeepsStack : (List Value → Scene → Outcome Scene) → Type 0
  RowKeepsStack row = (operands : List Value) (scene : Scene) → P scene.dictionaries
      → LeavesStack (row operands scene)

  pub with_operand-stack : (value : Value) (scene : Scene) → P scene.dictionaries
      → LeavesStack (with_operand value scene)
  with_operand-stack value scene has = search leaving

  pub with_frame-stack : (frame : Frame) (scene : Scene) → P scene.dictionaries
      → LeavesStack (with_frame frame scene)
  with_frame-stack frame scene has = search leaving

  pub entered-stack : (body : Part) (scene : Scene) → P scene.dictionaries
      → LeavesStack (entered body scene)
  entered-stack body scene has = search leaving

  pub with_turn_operands-stack : (values : List Value) (scene : Scene) → P scene.dictionaries
      → LeavesStack (with_turn_operands values scene)
  with_turn_operands-stack [] scene has = left_with has
  with_turn_operands-stack (value ∷ values) scene has = search leaving

  bound_scene-stack : (over : Part) (at depth : ℕ) (below : List Frame) (scene : Scene)
      (bound : Bound) → P scene.dictionaries
      → LeavesStack (bound_scene over at depth below scene bound)
  bound_scene-stack over at depth below scene (at_end values) has = left_with has
  bound_scene-stack over at depth below scene (at_inner values inner) has = search leaving
  bound_scene-stack over at depth below scene no_access has = left_none

  pub bind_step-stack : (over : Part) (at depth : ℕ) (below : List Frame) (scene : Scene)
      → P scene.dictionaries → LeavesStack (bind_step over at depth below scene)
  unfolding bind_step
  bind_step-stack over at depth below scene has = bound_scene-stack over at depth below scene _ has

  pub exec_row-stack : RowKeepsStack exec_row
  exec_row-stack [] scene has = left_none
  exec_row-stack (x ∷ rest) scene has = search leaving

  pub if_row-stack : RowKeepsStack if_row
  if_row-stack [] scene has = left_none
  if_row-stack (p ∷ []) scene has = left_none
  if_row-stack (p ∷ t ∷ rest) scene has = search leaving depth 9

  pub ifelse_row-stack : RowKeepsStack ifelse_row
  ifelse_row-stack [] scene has = left_none
  ifelse_row-stack (q ∷ []) scene has = left_none
  ifelse_row-stack (q ∷ p ∷ []) scene has = left_none
  ifelse_row-stack (q ∷ p ∷ t ∷ rest) scene has = search leaving depth 9

  pub for_row-stack : RowKeepsStack for_row
  for_row-stack [] scene has = left_none
  for_row-stack (p ∷ []) scene has = left_none
  for_row-stack (p ∷ k ∷ []) scene has = left_none
  for_row-stack (p ∷ k ∷ j ∷ []) scene has = left_none
  for_row-stack (p ∷ k ∷ j ∷ i ∷ rest) scene has = search leaving depth 9

  pub repeat_row-stack : RowKeepsStack repeat_row
  repeat_row-stack [] scene has = left_none
  repeat_row-stack (p ∷ []) scene has = left_none
  repeat_row-stack (p ∷ n ∷ rest) scene has = search leaving depth 9

  pub loop_row-stack : RowKeepsStack loop_row
  loop_row-stack [] scene has = left_none
  loop_row-stack (p ∷ rest) scene has = search leaving

  pub forall_row-stack : RowKeepsStack forall_row
  forall_row-stack [] scene has = left_none
  forall_row-stack (p ∷ []) scene has = left_none
  forall_row-stack (p ∷ x ∷ rest) scene has = search leaving

  pub stopped_row-stack : RowKeepsStack stopped_row
  stopped_row-stack [] scene has = left_none
  stopped_row-stack (x ∷ rest) scene has = search leaving

  pub bind_row-stack : RowKeepsStack bind_row
  bind_row-stack [] scene has = left_none
  bind_row-stack (p ∷ rest) scene has = search leaving

-- A turn, or an operator, that enters a procedure, up to its frame.
use Rattle.std.proofs.Common.{◌≡◌, ℕ, suc, ◌+◌, ◌<◌, ◌≤◌, ◌==◌, Bool, true, false, List, [], ◌∷◌, drop, length, Some}
use Rattle.std.proofs.Common.{refl, sym, subst, arith}
use Rattle.std.specs.Prelude.{if◌then◌else◌}
use Rattle.std.proofs.lemmas.Bool.Decides.{nat_tests}
use Rattle.std.proofs.lemmas.List.{length-drop}
use Rattle.ps_language.specs.Effect.{Scene}
use Rattle.ps_language.specs.Outcome.{Outcome}
use Rattle.ps_language.specs.Value.{Value}
use Rattle.ps_stacks.specs.Tops.{first_of}
use Rattle.ps_word.specs.declared.words.Word.{Word}
use Rattle.ps_word.specs.declared.values.Part.{Part}
use Rattle.ps_mem.specs.Heap.{Heap}
use Rattle.ps_ops_control.specs.declared.ahead.Ahead.{Ahead}
use Rattle.ps_ops_control.specs.declared.ahead.Ahead.TheVariants.{Enters, Goes}
use Rattle.ps_ops_control.specs.declared.frames.Frame.{Frame}
use Rattle.ps_ops_control.specs.Ahead.{entered_ahead, ControlsAhead, HasRoom}
use Rattle.ps_ops_control.specs.Controls as controls
use Rattle.ps_ops_control.specs.Controls.{stacks, IsReadyFor}
use Rattle.ps_ops_control.specs.Frames.{IsHeld}
use Rattle.ps_ops_control.proofs.Controlling.{controls_entered, controls_pushed, begins_entered, within_procedure}

-- no deeper than before
pub room_kept : (frames : List Frame) → 2 + length frames ≤ 250
    → 2 + suc (length (drop 1 frames)) ≤ 250
room_kept frames room = omega (arith, length-drop 1 frames, room)

-- one has room where two have
pub one_fits : (frames : List Frame) → 2 + length frames ≤ 250 → length frames < 250
one_fits frames room = omega (arith, room)

-- what has a topmost frame has one
pub some_frame : (frames : List Frame) (top : Frame) → Some top ≡ first_of frames
    → 1 ≤ length frames
some_frame [] top none = cc
some_frame (frame ∷ frames) top is = omega arith

-- a row that takes so many operands and enters a procedure
module _ (row : List Value → Scene → Outcome Scene) (h : Heap) (size : ℕ) (operands : List Word)
    (frames : List Frame) (ready : IsReadyFor h size (stacks operands frames)) (count : ℕ)
    (body : Part) (enters : controls.Enters row h operands count body) (held : IsHeld h body)
  where
    abbrev Comes : Ahead → Type 0
    Comes ahead = HasRoom 1 ahead frames
        → ControlsAhead row ahead h size (stacks operands frames)
        (stacks (drop count operands) frames)

    comes_by : (empty : Bool) → (body.length == 0) ≡ empty
        → Comes (if empty then Goes else Enters body)
    comes_by true none room =
        controls_entered row h size operands frames ready count body
        (grind (arith, nat_tests, none)) enters
    comes_by false some room =
        let elements : 1 ≤ body.length = grind (arith, nat_tests, some) in
        controls_pushed row h size operands frames ready count _
        (begins_entered row h size operands frames ready count body elements enters)
        (omega (arith, room))
        (held, elements) (within_procedure h operands frames body)

    pub enters_ahead : (came : Ahead) → came ≡ entered_ahead body → Comes came
    enters_ahead came is = subst Comes (sym is) (comes_by (body.length == 0) refl)

-- What the lines of a state and of steps are, by examples that a near neighbour of the definitions fails.
use Rattle.std.proofs.Common.{◌≡◌, refl, [], ◌++◌, Some, None, true, false, append_assoc}
use Rattle.std.specs.Prelude.{codes, pos, negsuc}
use Rattle.std.specs.Fmt.{decimal, signed_decimal}
use Rattle.ps_language.specs.declared.errors.ErrorName.TheVariants.{StackUnderflow}
use Rattle.ps_places.specs.declared.positions.Position.{Position}
use Rattle.ps_views.specs.declared.bytes.Showing.TheVariants.{Line}
use Rattle.ps_views.specs.declared.frames.Coming.TheVariants.{Value, Turn, Unwinding}
use Rattle.ps_views.specs.declared.frames.FrameLine.TheVariants.{Program, Text, Procedure, Pending, Repeat, Monitor}
use Rattle.ps_views.specs.declared.states.StatusLine.TheVariants.{Ready, InMonitor, ForCondition}
use Rattle.ps_views.specs.declared.steps.Remark.TheVariants.{Raises}
use Rattle.ps_views.specs.Bytes.{shown_byte}
use Rattle.ps_views.specs.Frames.{frame_text, coming_text, repeat_text, for_text}
use Rattle.ps_views.specs.Lines.{cut_line, at_right, at_left}
use Rattle.ps_views.specs.Places.{position_text}
use Rattle.ps_views.specs.States.{head_text, context_text, next_text, operand_text, lock_text}
use Rattle.ps_views.specs.Steps.{remark_text, behind_bar, doing_text}

-- ---- texts in one line

-- a line's end is a space, and an escape never reaches the terminal
end_is_space : shown_byte Line 10 ≡ 32
end_is_space = refl

return_is_space : shown_byte Line 13 ≡ 32
return_is_space = refl

escape_hidden : shown_byte Line 27 ≡ 63
escape_hidden = refl

-- a text of the width stays whole, a longer one ends in two dots within the width
whole : cut_line 5 (codes "abcde") ≡ codes "abcde"
whole = refl

cut : cut_line 5 (codes "abcdef") ≡ codes "abc.."
cut = refl

-- what is wider than its column isn't cut
wide : at_left 2 (codes "abc") ≡ codes "abc"
wide = refl

right : at_right 4 (codes "ab") ≡ codes "  ab"
right = refl

-- ---- frames

-- where nothing is left of the program
at_end : frame_text (codes "a.ps") (Program None) None ≡ codes "  frame program at its end\n"
unfolding frame_text
at_end = refl

-- the name stands before the place, and the count behind it
named : (p : Position) → frame_text (codes "a.ps") (Procedure (Some p) 3) (Some (codes "count-up"))
    ≡ codes "  frame procedure count-up at " ++ (position_text (codes "a.ps") p
    ++ (codes ", " ++ (decimal 3 ++ codes " left\n")))
unfolding frame_text
named p = simp append_assoc

-- a procedure that the program built has neither
built : frame_text (codes "a.ps") (Procedure None 3) None
    ≡ codes "  frame procedure, " ++ (decimal 3 ++ codes " left\n")
unfolding frame_text
built = simp append_assoc

in_string : frame_text [] (Text 7 3) None
    ≡ codes "  frame string " ++ (decimal 7 ++ (codes " at byte " ++ (decimal 3 ++ codes "\n")))
unfolding frame_text
in_string = simp append_assoc

under_lock : frame_text [] (Monitor 3) None ≡ codes "  frame monitor of lock " ++ (decimal 3 ++ codes "\n")
unfolding frame_text
under_lock = refl

pending : frame_text [] Pending (Some (codes "add")) ≡ codes "  frame pending add\n"
unfolding frame_text
pending = refl

-- ---- what comes

-- the turn behind the last one ends the loop
repeat_ends : repeat_text 0 ≡ codes "repeat: ends"
repeat_ends = refl

repeat_last : repeat_text 1 ≡ codes "repeat: " ++ (decimal 1 ++ codes " more")
repeat_last = refl

-- the limit itself still has a turn, upward and downward
for_last : for_text (pos 10) (pos 1) (pos 10) ≡ codes "for: " ++ signed_decimal (pos 10)
for_last = refl

for_past : for_text (pos 11) (pos 1) (pos 10) ≡ codes "for: ends"
for_past = refl

down_last : for_text (pos 1) (negsuc 0) (pos 1) ≡ codes "for: " ++ signed_decimal (pos 1)
down_last = refl

down_past : for_text (pos 0) (negsuc 0) (pos 1) ≡ codes "for: ends"
down_past = refl

-- an unwinding names the frame that goes, and no value
goes : coming_text 30 (Unwinding (Procedure None 3)) (codes "add") ≡ codes "unwinds procedure"
unfolding coming_text
goes = refl

-- ---- lines of a state

head : head_text (record { step = 24; steps = 41; bytes = 2; lines = 1 })
    ≡ (codes "step " ++ (decimal 24 ++ (codes " of " ++ (decimal 41 ++ codes "\n"))))
    ++ (codes "printed " ++ (decimal 2 ++ (codes " bytes in " ++ (decimal 1 ++ codes " lines\n"))))
unfolding head_text
head = refl

detached : context_text (record { identifier = 2; is_detached = true; status = Ready })
    ≡ codes "context " ++ (decimal 2 ++ codes " (detached) ready\n")
unfolding context_text
detached = refl

-- the lock before who has it
held_up : context_text (record { identifier = 3; is_detached = false; status = InMonitor 5 2 })
    ≡ codes "context " ++ (decimal 3 ++ (codes " waits in monitor for lock "
    ++ ((decimal 5 ++ (codes ", which context " ++ (decimal 2 ++ codes " has"))) ++ codes "\n")))
unfolding context_text
held_up = refl

-- the condition before the lock
awaiting : context_text (record { identifier = 3; is_detached = false; status = ForCondition 4 5 })
    ≡ codes "context " ++ (decimal 3 ++ (codes " waits for condition "
    ++ ((decimal 4 ++ (codes ", to retake lock " ++ decimal 5)) ++ codes "\n")))
unfolding context_text
awaiting = refl

-- the value is cut, the place never
next_at : (p : Position) → next_text (codes "a.ps") Value (codes "add") (Some p)
    ≡ codes "  next add at " ++ (position_text (codes "a.ps") p ++ codes "\n")
unfolding next_text coming_text
next_at p = refl

-- the number of a lock stands behind its text
lock_operand : operand_text (codes "-lock-") (Some 3) ≡ codes "  operand -lock- " ++ (decimal 3 ++ codes "\n")
unfolding operand_text
lock_operand = refl

lock_first : lock_text 3 2 ≡ codes "lock " ++ (decimal 3 ++ (codes " of context " ++ (decimal 2 ++ codes "\n")))
unfolding lock_text
lock_first = refl

-- ---- lines of steps

error_named : remark_text (Raises StackUnderflow) ≡ codes "error stackunderflow"
error_named = refl

-- nothing stands behind the bar where there is nothing to see
bare : behind_bar [] [] ≡ []
bare = refl

alone : behind_bar [] (codes "finishes") ≡ codes "    -- finishes"
alone = refl

operands_alone : behind_bar (codes "1 2") [] ≡ codes " 1 2"
operands_alone = refl

both : behind_bar (codes "1") (codes "ends") ≡ codes " 1   -- ends"
both = refl

-- a step that takes nothing of the program has no place
placeless : doing_text (record { step = 7; context = 1; position = None; coming = Turn (Repeat 0) }) []
    ≡ codes "-       repeat: ends       |"
unfolding coming_text
placeless = refl

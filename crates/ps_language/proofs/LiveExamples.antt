-- What lives in the worlds of whole programs, computed, and what an outcome asks for. Each number is
-- the sum of the objects' words by the standard's rules: 528 are there at the start.
use Rattle.std.specs.Prelude.{◌≡◌, ℕ, codes, [], ◌∷◌}
use Rattle.std.proofs.lemmas.Bool.{true≢false}
use mathlib.Core.Path.{refl, sym}
use Rattle.ps_language.specs.World.{World}
use Rattle.ps_language.specs.Live.{asked_words, roots}
use Rattle.ps_language.specs.Worlds.{starting_world, world, IsAllWaiting, IsFinished}
use Rattle.ps_language.proofs.Evaluation.{evaluation}
use Rattle.ps_language.proofs.Exists.{exists, finding}
use Rattle.ps_language.proofs.ProgramExamples.{turns}

-- what lives, as it is found round by round
live : World → ℕ
live w = (exists w).0

-- a new body stands beside the old one
growth_asks : asked_words (world (codes "1 dict dup /a 1 put dup /b 2 put") (turns 1 9 ∷ [])) 1 ≡ 20
unfolding evaluation
growth_asks = refl

-- and the old one doesn't live behind it
growth_lives : live (world (codes "1 dict dup /a 1 put dup /b 2 put") (turns 1 10 ∷ [])) ≡ 554
unfolding evaluation finding live
growth_lives = refl

-- a finished context's operands live, with its $error, until it is joined
finished_lives : live (world (codes "mark {1000 array} fork") (turns 1 3 ∷ turns 2 2 ∷ [])) ≡ 1562
unfolding evaluation finding live
finished_lives = refl

-- then they are its joiner's
joined_lives : live (world (codes "mark {1000 array} fork join")
    (turns 1 3 ∷ turns 2 2 ∷ turns 1 1 ∷ [])) ≡ 1530
unfolding evaluation finding live
joined_lives = refl

-- and nothing of an ended context lives
ended_lives : live (world (codes "mark {1000 array} fork join cleartomark")
    (turns 1 3 ∷ turns 2 2 ∷ turns 1 2 ∷ [])) ≡ 528
unfolding evaluation finding live
ended_lives = refl

-- a new context has a $error of its own
forked_lives : live (world (codes "mark {} fork") (turns 1 3 ∷ [])) ≡ 560
unfolding evaluation finding live
forked_lives = refl

-- what a frame alone named doesn't live once it is taken off
unwound_lives : live (world (codes "{ {stop 1 2 3} exec } stopped") (turns 1 12 ∷ [])) ≡ 528
unfolding evaluation finding live
unwound_lives = refl

-- ---- what a context's frames and keys refer to: systemdict, userdict, the dictionary stack with
-- its two, then the frames from the topmost, then $error

-- the procedure that bind looks at, and its operand
bind_roots : roots (world (codes "{1 {add}} bind") (turns 1 2 ∷ [])) ≡ 0 ∷ 1 ∷ 4 ∷ 1
    ∷ 0 ∷ 4 ∷ 2 ∷ []
unfolding evaluation
bind_roots = refl

-- what a loop over elements goes through, and its procedure
forall_roots : roots (world (codes "[1 2] {pop} forall") (turns 1 6 ∷ [])) ≡ 0 ∷ 1 ∷ 1 ∷ 0
    ∷ 3 ∷ 4 ∷ 2 ∷ []
unfolding evaluation
forall_roots = refl

-- a value that is yet to be executed
pending_roots : roots (world (codes "{1} exec") (turns 1 2 ∷ [])) ≡ 0 ∷ 1 ∷ 1 ∷ 0 ∷ 3 ∷ 2
    ∷ []
unfolding evaluation
pending_roots = refl

-- a string whose tokens are read
text_roots : roots (world (codes "(1 2) cvx exec") (turns 1 4 ∷ [])) ≡ 0 ∷ 1 ∷ 1 ∷ 0 ∷ 3
    ∷ 2 ∷ []
unfolding evaluation
text_roots = refl

-- the body of a loop without an end
loop_roots : roots (world (codes "{1} loop") (turns 1 2 ∷ [])) ≡ 0 ∷ 1 ∷ 1 ∷ 0 ∷ 3 ∷ 2 ∷ []
unfolding evaluation
loop_roots = refl

-- of one that is made so many times
repeat_roots : roots (world (codes "2 {1} repeat") (turns 1 3 ∷ [])) ≡ 0 ∷ 1 ∷ 1 ∷ 0 ∷ 3 ∷ 2 ∷ []
unfolding evaluation
repeat_roots = refl

-- of one that counts
for_roots : roots (world (codes "1 2 6 {=} for") (turns 1 5 ∷ [])) ≡ 0 ∷ 1 ∷ 1 ∷ 0 ∷ 3 ∷ 2 ∷ []
unfolding evaluation
for_roots = refl

-- the lock that a notified context retakes: the second context's, behind its $error
retaking_roots : roots (world (codes
    "/l lock def /c condition def mark {l {l c wait} monitor} fork l {c notify} monitor")
    (turns 1 9 ∷ turns 2 6 ∷ turns 1 5 ∷ [])) ≡ 0 ∷ 1 ∷ 1 ∷ 0 ∷ 3 ∷ 2 ∷ 1 ∷ 0 ∷ 3 ∷ 7 ∷ 3 ∷ []
unfolding evaluation
retaking_roots = refl

-- an array that is a key
key_lives : live (world (codes "1 dict dup [1] 2 put") (turns 1 8 ∷ [])) ≡ 542
unfolding evaluation finding live
key_lives = refl

-- ---- sizes

-- a lock's owner, and the two words of the header
lock_lives : live (world (codes "lock") (turns 1 1 ∷ [])) ≡ 531
unfolding evaluation finding live
lock_lives = refl

condition_lives : live (world (codes "condition") (turns 1 1 ∷ [])) ≡ 531
unfolding evaluation finding live
condition_lives = refl

-- eight bytes are a word, and the last word may have fewer
string_lives : live (world (codes "(abcdefghi)") (turns 1 1 ∷ [])) ≡ 532
unfolding evaluation finding live
string_lives = refl

-- ---- outcomes

-- not all wait where one is ready
ready_waits : IsAllWaiting (starting_world (codes "1")) → ⊥
unfolding evaluation
ready_waits all = true≢false (sym all)

-- a run that printed an error's line has not finished well
faulted_finish : IsFinished (world (codes "pop") (turns 1 2 ∷ [])) → ⊥
unfolding evaluation
faulted_finish all = true≢false (sym all)

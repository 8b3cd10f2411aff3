-- Whole programs, computed: contexts, locks, conditions, memory and schedules. Each value is what
-- the rules of the standard and of this profile say.
use Rattle.std.specs.Prelude.{◌≡◌, true, false, None, Some, pos, negsuc, [], ◌∷◌, replicate, codes}
use mathlib.Core.Path.{refl}
use Rattle.ps_language.specs.declared.errors.ErrorName.TheVariants.{StackOverflow}
use Rattle.ps_language.specs.Effect.{nothing, turn_ends, shows_memory, wishes}
use Rattle.ps_language.specs.Outcome.{fails}
use Rattle.ps_language.specs.Readers.{null}
use Rattle.ps_language.specs.Contexts.{context_at, vmstatus_row}
use Rattle.ps_language.specs.Locks.{is_ready}
use Rattle.ps_language.specs.Schedules.{joins}
use Rattle.ps_language.specs.Step.{stepped}
use Rattle.ps_language.specs.Live.{roots, asked_words, asked_births}
use Rattle.ps_language.specs.Worlds.{first_context, starting_world, world, printed, IsAllWaiting}
use Rattle.ps_language.proofs.Evaluation.{evaluation}
use Rattle.ps_language.proofs.ProgramExamples.{turns}

-- ---- making, joining, detaching

-- 32 contexts may stand that aren't ended; those that are finished count
full_table : printed (codes "31 {mark {} fork pop} repeat (ok) = mark {} fork") (turns 1 170 ∷ []) ≡
    codes "ok\n%%[ Error: limitcheck; OffendingCommand: fork ]%%\n"
unfolding evaluation
full_table = refl

-- what the procedure allows comes before the limit
full_table_unreadable : printed (codes "31 {mark {} fork pop} repeat mark {} noaccess fork")
    (turns 1 170 ∷ []) ≡ codes "%%[ Error: invalidaccess; OffendingCommand: fork ]%%\n"
unfolding evaluation
full_table_unreadable = refl

-- nothing is left of a context that was joined
joined_context : context_at (world (codes "mark {} fork join") (turns 1 4 ∷ [])) 2 ≡ None
unfolding evaluation
joined_context = refl

-- nor of a detached one that has finished
ended_context : context_at (world (codes "mark {1} fork detach") (turns 1 4 ∷ turns 2 1 ∷ [])) 2 ≡
    None
unfolding evaluation
ended_context = refl

-- nor of a finished one that is detached
detached_at_once : context_at (world (codes "mark {} fork detach") (turns 1 4 ∷ [])) 2 ≡ None
unfolding evaluation
detached_at_once = refl

-- one that is detached can't be joined
detached_join : printed (codes "mark {1} fork dup detach join") (turns 1 7 ∷ []) ≡ codes
    "%%[ Error: invalidcontext; OffendingCommand: join ]%%\n"
unfolding evaluation
detached_join = refl

-- nor can the context itself
own_join : printed (codes "currentcontext join") (turns 1 3 ∷ []) ≡ codes
    "%%[ Error: invalidcontext; OffendingCommand: join ]%%\n"
unfolding evaluation
own_join = refl

-- who joins a context that isn't finished can't step
unready_join : is_ready (world (codes "mark {1} fork join") (turns 1 4 ∷ [])) 1 ≡ false
unfolding evaluation
unready_join = refl

-- and can once it is
ready_join : is_ready (world (codes "mark {1} fork join") (turns 1 4 ∷ turns 2 1 ∷ [])) 1 ≡ true
unfolding evaluation
ready_join = refl

-- the mark that join pushes counts among the 500 operands
joined_full : printed (codes "mark {50 {1 1 1 1 1 1 1 1 1 1} repeat} fork join")
    (turns 1 3 ∷ turns 2 560 ∷ turns 1 3 ∷ []) ≡ codes
    "%%[ Error: stackoverflow; OffendingCommand: join ]%%\n"
unfolding evaluation
joined_full = refl

-- ---- locks

-- what the procedure allows comes before whose lock it is
own_lock_unreadable : printed (codes "/l lock def l {l {} noaccess monitor} monitor")
    (turns 1 14 ∷ []) ≡ codes "%%[ Error: invalidaccess; OffendingCommand: monitor ]%%\n"
unfolding evaluation
own_lock_unreadable = refl

-- ---- conditions

-- notify wakes those that wait for this condition
other_condition : IsAllWaiting
    (world (codes "/l lock def /d condition def mark {l {l condition wait} monitor} fork l {d notify} monitor")
    (turns 1 9 ∷ turns 2 6 ∷ turns 1 7 ∷ turns 2 3 ∷ []))
unfolding evaluation
other_condition = refl

-- a lock is taken again once it is free
retaken_lock : printed (codes
    "/l lock def /c condition def mark {l {l c wait (on) =} monitor} fork l {c notify (in) =} monitor")
    (turns 1 9 ∷ turns 2 6 ∷ turns 1 5 ∷ turns 2 4 ∷ turns 1 3 ∷ turns 2 4 ∷ []) ≡ codes "in\non\n"
unfolding evaluation
retaken_lock = refl

-- and who has it keeps the others out
owned_again : printed (codes
    "/l lock def /c condition def /p {l {l c wait currentcontext = currentcontext =} monitor} def mark {p} fork mark {p} fork l {c notify} monitor") (turns 1 15 ∷ turns 2 7 ∷ turns 3 7 ∷ turns 1 6 ∷ turns 2 3 ∷ turns 3 5 ∷ turns 2 3 ∷ turns 3 6 ∷ []) ≡ codes "2\n2\n3\n3\n"
unfolding evaluation
owned_again = refl

-- the roots of one context that waits: systemdict and userdict, its dictionary stack, the lock of
-- its Monitor frame, $error, and the lock and the condition of its status
waiting_roots : roots (world (codes "lock dup {condition wait} monitor") (turns 1 6 ∷ [])) ≡ 0 ∷ 1
    ∷ 1 ∷ 0 ∷ 3 ∷ 2 ∷ 3 ∷ 5 ∷ []
unfolding evaluation
waiting_roots = refl

-- ---- what the maker of a step must know

after_lock : (stepped (world (codes "lock {} monitor") (turns 1 2 ∷ [])) 1 false None).note ≡
    nothing
unfolding evaluation
after_lock = refl

after_yield : (stepped (starting_world (codes "yield")) 1 false None).note ≡ turn_ends
unfolding evaluation
after_yield = refl

after_wait : (stepped (world (codes "lock dup {condition wait} monitor") (turns 1 5 ∷ [])) 1 false
    None).note ≡ turn_ends
unfolding evaluation
after_wait = refl

after_unfinished_join : (stepped (world (codes "mark {1} fork join") (turns 1 3 ∷ [])) 1 false
    None).note ≡ turn_ends
unfolding evaluation
after_unfinished_join = refl

after_join : (stepped (world (codes "mark {1} fork join") (turns 1 3 ∷ turns 2 1 ∷ [])) 1 false
    None).note ≡ nothing
unfolding evaluation
after_join = refl

after_vmstatus : (stepped (starting_world (codes "vmstatus")) 1 false
    (Some (pos 528, pos 4096))).note ≡ shows_memory
unfolding evaluation
after_vmstatus = refl

after_vmreclaim : (stepped (world (codes "-2 vmreclaim") (turns 1 1 ∷ [])) 1 false None).note ≡
    wishes (negsuc 1)
unfolding evaluation
after_vmreclaim = refl

-- ---- memory

-- a vmstatus finds no room for three
full_vmstatus : vmstatus_row (replicate 498 null)
    (record { caller = 1; context = first_context; shown = None; world = starting_world [] }) ≡
    fails StackOverflow
unfolding evaluation
full_vmstatus = refl

vmreclaim_past_range : printed (codes "3 vmreclaim") (turns 1 4 ∷ []) ≡ codes
    "%%[ Error: rangecheck; OffendingCommand: vmreclaim ]%%\n"
unfolding evaluation
vmreclaim_past_range = refl

vmreclaim_below_range : printed (codes "-3 vmreclaim") (turns 1 4 ∷ []) ≡ codes
    "%%[ Error: rangecheck; OffendingCommand: vmreclaim ]%%\n"
unfolding evaluation
vmreclaim_below_range = refl

-- 8 pairs of $error: four fields, a body of 26 words, and the two words of the header
fork_asks : asked_words (world (codes "mark {1} fork") (turns 1 2 ∷ [])) 1 ≡ 32
unfolding evaluation
fork_asks = refl

fork_takes : asked_births (world (codes "mark {1} fork") (turns 1 2 ∷ [])) 1 ≡ 1
unfolding evaluation
fork_takes = refl

-- inner objects too: a string of 1 byte and its procedure, and the procedure outside
procedure_asks : asked_words (starting_world (codes "{{(a)}}")) 1 ≡ 9
unfolding evaluation
procedure_asks = refl

-- each of them takes a birth number
procedure_takes : asked_births (starting_world (codes "{{(a)}}")) 1 ≡ 3
unfolding evaluation
procedure_takes = refl

-- and a new body of an old object takes none
growth_takes : asked_births (world (codes "1 dict dup /a 1 put dup /b 2 put") (turns 1 9 ∷ [])) 1 ≡
    0
unfolding evaluation
growth_takes = refl

-- ---- entries

-- an entry is full at 2^32 - 1 steps
full_entry : joins (turns 1 4294967295) 1 ≡ false
unfolding evaluation
full_entry = refl

unfilled_entry : joins (turns 1 4294967294) 1 ≡ true
unfolding evaluation
unfilled_entry = refl

-- a refused step raises another error first
refused_error : printed (codes "-1 array")
    ((record { context = 1; steps = 2; refused = true; shown = None }) ∷ turns 1 1 ∷ []) ≡ codes
    "%%[ Error: rangecheck; OffendingCommand: array ]%%\n"
unfolding evaluation
refused_error = refl

-- a refused fork too is a VMerror, and nothing is made
refused_fork : printed (codes "mark {1} fork")
    (turns 1 2 ∷ (record { context = 1; steps = 1; refused = true; shown = None }) ∷ turns 1 1 ∷ [])
    ≡ codes "%%[ Error: VMerror; OffendingCommand: fork ]%%\n"
unfolding evaluation
refused_fork = refl

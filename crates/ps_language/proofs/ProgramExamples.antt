-- Whole programs, computed: what each prints under a schedule.
use Rattle.std.specs.Prelude.{◌≡◌, ℕ, ◌+◌, true, false, None, Some, pos, [], ◌∷◌, length, sum_by, codes}
use mathlib.Core.Path.{refl}
use Rattle.ps_language.specs.declared.schedules.Entry.{Entry}
use Rattle.ps_language.specs.Objects.{size_of}
use Rattle.ps_language.specs.Operators.{operator_count}
use Rattle.ps_language.specs.Worlds.{system_pairs, first_names, first_store, world, printed, IsProper, IsFinished}
use Rattle.ps_language.specs.Worlds.{IsAllWaiting}
use Rattle.ps_language.proofs.Evaluation.{evaluation}

-- so many ordinary steps of a context
abbrev pub turns : (context steps : ℕ) → Entry
turns context steps = record { context = context; steps = steps; refused = false; shown = None }

-- ---- the start: entries of systemdict, names, words

system_count : length system_pairs ≡ operator_count + 5
unfolding evaluation
system_count = refl

name_count : length first_names ≡ 35 + operator_count
unfolding evaluation
name_count = refl

first_words : sum_by size_of first_store ≡ 528
unfolding evaluation
first_words = refl

-- ---- programs

-- an empty file prints nothing
empty_program : printed (codes "") (turns 1 1 ∷ []) ≡ []
unfolding evaluation
empty_program = refl

-- five steps: a number, a number, an operator, an operator, the end
sum : printed (codes "1 2 add =") (turns 1 5 ∷ []) ≡ codes "3\n"
unfolding evaluation
sum = refl

-- what was printed stays where the steps are used up
sum_cut_short : printed (codes "1 2 add =") (turns 1 4 ∷ []) ≡ codes "3\n"
unfolding evaluation
sum_cut_short = refl

-- an error that nothing catches prints its line
unknown_name : printed (codes "foo") (turns 1 2 ∷ []) ≡ codes
    "%%[ Error: undefined; OffendingCommand: foo ]%%\n"
unfolding evaluation
unknown_name = refl

-- its command is the operator
failed_operator : printed (codes "1 0 idiv") (turns 1 4 ∷ []) ≡ codes
    "%%[ Error: undefinedresult; OffendingCommand: idiv ]%%\n"
unfolding evaluation
failed_operator = refl

-- a fault of the scanner has no command
faulty_text : printed (codes "(abc") (turns 1 2 ∷ []) ≡ codes
    "%%[ Error: syntaxerror; OffendingCommand: --nostringval-- ]%%\n"
unfolding evaluation
faulty_text = refl

-- stopped catches an error, and $error tells it
caught_error : printed (codes "{1 0 idiv} stopped = $error /errorname get = stack")
    (turns 1 14 ∷ []) ≡ codes "true\nundefinedresult\n0\n1\n"
unfolding evaluation
caught_error = refl

-- stop alone prints nothing
uncaught_stop : printed (codes "{} stopped = {stop} stopped = stop (x) =") (turns 1 13 ∷ []) ≡ codes
    "false\ntrue\n"
unfolding evaluation
uncaught_stop = refl

-- exit leaves the innermost loop
left_loop : printed (codes "{{exit} loop (a) =} stopped =") (turns 1 13 ∷ []) ≡ codes "a\nfalse\n"
unfolding evaluation
left_loop = refl

-- exit does not pass a Stopped frame
exit_in_stopped : printed (codes "1 {{exit} stopped} repeat =") (turns 1 12 ∷ []) ≡ codes "true\n"
unfolding evaluation
exit_in_stopped = refl

-- for
counted_loop : printed (codes "1 2 6 {=} for") (turns 1 13 ∷ []) ≡ codes "1\n3\n5\n"
unfolding evaluation
counted_loop = refl

-- forall goes over pairs in the order of insertion
over_dictionary : printed (codes "<</b 1 /a 2>> {exch = =} forall") (turns 1 18 ∷ []) ≡ codes
    "b\n1\na\n2\n"
unfolding evaluation
over_dictionary = refl

-- forall shows the elements as they stand
over_changed_array : printed (codes "[1 2 3] dup 1 9 put {=} forall") (turns 1 19 ∷ []) ≡ codes
    "1\n9\n3\n"
unfolding evaluation
over_changed_array = refl

-- bind
bound_procedure : printed (codes "/x {1 (a) {add} /y y add} def /x load == /x load bind ==")
    (turns 1 14 ∷ []) ≡ codes "{1 (a) {add} /y y add}\n{1 (a) {--add--} /y y --add--}\n"
unfolding evaluation
bound_procedure = refl

-- a name behind // is replaced by its value
immediate_name : printed (codes "/y 7 def {//y y} /y 8 def exec = =") (turns 1 14 ∷ []) ≡ codes
    "8\n7\n"
unfolding evaluation
immediate_name = refl

-- an executable string is scanned
executed_string : printed (codes "(1 2 add =) cvx exec") (turns 1 10 ∷ []) ≡ codes "3\n"
unfolding evaluation
executed_string = refl

-- quit ends the context
quit_program : printed (codes "{quit} stopped 1 =") (turns 1 6 ∷ []) ≡ []
unfolding evaluation
quit_program = refl

-- join gives a mark and the operands of the other context
forked_context : printed (codes "mark {1} fork join cleartomark (ok) =")
    (turns 1 4 ∷ turns 2 1 ∷ turns 1 5 ∷ []) ≡ codes "ok\n"
unfolding evaluation
forked_context = refl

-- contexts share one memory
shared_dictionary : printed (codes "/x 1 def mark {/x x 1 add def} fork join cleartomark x =")
    (turns 1 7 ∷ turns 2 5 ∷ turns 1 5 ∷ []) ≡ codes "2\n"
unfolding evaluation
shared_dictionary = refl

-- an error ends its own context alone
failed_context : printed (codes "mark {1 0 idiv} fork join counttomark =")
    (turns 1 4 ∷ turns 2 3 ∷ turns 1 4 ∷ []) ≡ codes
    "%%[ Error: undefinedresult; OffendingCommand: idiv ]%%\n2\n"
unfolding evaluation
failed_context = refl

-- a detached context ends by itself
detached_context : printed (codes "mark {(a) =} fork detach") (turns 1 5 ∷ turns 2 2 ∷ []) ≡ codes
    "a\n"
unfolding evaluation
detached_context = refl

-- a lock can not be taken twice, and an unwinding frees it
lock_twice : printed (codes "/l lock def {l {l {} monitor} monitor} stopped = l {(ok) =} monitor")
    (turns 1 22 ∷ []) ≡ codes "true\nok\n"
unfolding evaluation
lock_twice = refl

-- who waits for a condition goes on once it is notified
told_condition : printed (codes
    "/l lock def /c condition def /v [null] def mark {l {{v 0 get null ne {exit} if l c wait} loop v 0 get =} monitor} fork l {v 0 42 put c notify} monitor join cleartomark") (turns 1 14 ∷ turns 2 7 ∷ turns 1 3 ∷ turns 2 9 ∷ turns 1 9 ∷ turns 2 17 ∷ turns 1 3 ∷ []) ≡ codes "42\n"
unfolding evaluation
told_condition = refl

-- exit passes a Monitor frame and frees its lock
left_monitor : printed (codes "/l lock def {l {exit} monitor} loop l {(ok) =} monitor")
    (turns 1 19 ∷ []) ≡ codes "ok\n"
unfolding evaluation
left_monitor = refl

-- notify wakes all that wait
told_both : printed (codes
    "/l lock def /c condition def /p {l {l c wait (on) =} monitor} def mark {p} fork mark {p} fork yield l {c notify} monitor join cleartomark join cleartomark") (turns 1 16 ∷ turns 2 7 ∷ turns 3 7 ∷ turns 1 7 ∷ turns 2 4 ∷ turns 3 4 ∷ turns 1 5 ∷ []) ≡ codes "on\non\n"
unfolding evaluation
told_both = refl

-- after an error the operands are as before
kept_operands : printed (codes "{1 true add} stopped = = =") (turns 1 11 ∷ []) ≡ codes
    "true\ntrue\n1\n"
unfolding evaluation
kept_operands = refl

-- the operand stack holds 500
full_stack : printed (codes "500 {1} repeat count =") (turns 1 1006 ∷ []) ≡ codes
    "%%[ Error: stackoverflow; OffendingCommand: count ]%%\n"
unfolding evaluation
full_stack = refl

-- and the execution stack 250 frames
deep_stack : printed (codes "/p {p 1} def p") (turns 1 503 ∷ []) ≡ codes
    "%%[ Error: execstackoverflow; OffendingCommand: p ]%%\n"
unfolding evaluation
deep_stack = refl

-- steps of a context that is not there change nothing
absent_context : printed (codes "1 2 add =") (turns 1 2 ∷ turns 9 3 ∷ turns 1 3 ∷ []) ≡ codes "3\n"
unfolding evaluation
absent_context = refl

-- a refused step that needs an object raises VMerror
refused_step : printed (codes "2 array length =")
    (turns 1 1 ∷ (record { context = 1; steps = 1; refused = true; shown = None }) ∷ turns 1 9 ∷ [])
    ≡ codes "%%[ Error: VMerror; OffendingCommand: array ]%%\n"
unfolding evaluation
refused_step = refl

-- vmstatus pushes what it is shown
shown_memory : printed (codes "vmstatus = = =")
    ((record { context = 1; steps = 1; refused = false; shown = Some (pos 528, pos 4096) })
    ∷ turns 1 4 ∷ []) ≡ codes "4096\n528\n0\n"
unfolding evaluation
shown_memory = refl

-- ---- schedules and outcomes

-- each step is one of a ready context
is_proper : IsProper (codes "mark {1} fork join cleartomark (ok) =")
    (turns 1 4 ∷ turns 2 1 ∷ turns 1 5 ∷ [])
unfolding evaluation
is_proper = refl

is_finished : IsFinished (world (codes "mark {1} fork join cleartomark (ok) =")
    (turns 1 4 ∷ turns 2 1 ∷ turns 1 5 ∷ []))
unfolding evaluation
is_finished = refl

-- a context that nobody notifies waits for ever
is_all_waiting : IsAllWaiting
    (world (codes "/l lock def /c condition def l {l c wait} monitor") (turns 1 12 ∷ []))
unfolding evaluation
is_all_waiting = refl

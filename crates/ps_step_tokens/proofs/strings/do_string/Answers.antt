-- A string is made, or there is an error or no room.
use Rattle.std.proofs.Common.{◌≡◌, ℕ, ◌+◌, ◌++◌, List, [], ◌∷◌, arith, refl, subst, length}
use Rattle.std.proofs.lemmas.Bool.Decides.{nat_tests}
use Rattle.ps_language.specs.declared.errors.ErrorName.TheVariants.{StackOverflow}
use Rattle.ps_language.specs.Token.{string_token}
use Rattle.ps_language.specs.Value.{string_object, Store}
use Rattle.ps_mem.specs.Heap.{birth_at}
use Rattle.ps_mem.specs.Keeps.{Extends}
use Rattle.ps_mem.specs.References.{words_for}
use Rattle.ps_mem.specs.Shows.{IsValue, Shows}
use Rattle.ps_mem.proofs.KeepsLemmas.{Keeps-Extends, AreValues-kept}
use Rattle.ps_ops_operands.specs.Changes.{IsRoomReason}
use Rattle.ps_ops_operands.proofs.Making.{whole_part, string_stands_whole}
use Rattle.ps_ops_operands.proofs.Ready.{plain_value, plain_within}
use Rattle.ps_ops_state.specs.Lent.{Lent, lent_of}
use Rattle.ps_ops_state.proofs.Meeting.{at_least-same}
use Rattle.ps_step_outcome.specs.Turns.{nothing_more}
use Rattle.ps_step_tokens.specs.Tokens.{token_turn}
use Rattle.ps_step_tokens.proofs.Alike.{raised, lacked}
use Rattle.ps_step_tokens.proofs.Makes.{no_room, makes_turns}
use Rattle.ps_step_tokens.proofs.Plain.{asked_logs, used_logs}
use Rattle.ps_step_tokens.proofs.StringTurns.{string_overflows, string_lacks, string_wants, string_makes}
use Rattle.ps_step_tokens.proofs.strings.do_string.Goals as goal

pub raise-requires-clause-held : goal.raise-requires-clause-held
raise-requires-clause-held g c = plain_value _ _ c.null-command.ensures.plain

pub returns-then-is_full : goal.returns-then-is_full
returns-then-is_full g c =
    let l : Lent = (lent_of g.M.Memory.heap g.M.Memory.grants c.args.context.now c.args.runtime.now) in
    raised _ _ c.args.attempt _ l _ c.null-command.result
    (λ s shown. plain_within _ _ s _ c.null-command.ensures.plain) StackOverflow
    (λ s shown. string_overflows l c.args.bytes.now c.null-command.result
    (c.null-command.ensures.value _ _)
    (grind (arith, nat_tests, c.is_full.ensures, c.if-is_full.true)) s) c.raise.ensures

pub raise-requires-then-attempt-clause-held : goal.raise-requires-then-attempt-clause-held
raise-requires-then-attempt-clause-held g c = plain_value _ _ c.null-command.ensures.plain

pub returns-then-attempt : goal.returns-then-attempt
returns-then-attempt g c =
    let l : Lent = (lent_of g.M.Memory.heap g.M.Memory.grants c.args.context.now c.args.runtime.now) in
    lacked _ _ c.args.attempt _ l _ c.null-command.result
    (λ s shown. plain_within _ _ s _ c.null-command.ensures.plain)
    (λ s shown. string_lacks l c.args.bytes.now c.null-command.result
    (c.null-command.ensures.value _ _)
    (grind (arith, nat_tests, c.is_full.ensures, c.if-is_full.false)) c.args.attempt _ _
    c.if-attempt.true s) c.raise-then-attempt.ensures

pub returns-in-Err : goal.returns-in-Err
returns-in-Err g c =
    let l : Lent = (lent_of g.M.Memory.heap g.M.Memory.grants c.args.context.now c.args.runtime.now) in
    let text = c.args.bytes.now in
    rw c.in-Err.ensures.heap
    (no_room nothing_more (token_turn (string_token text)) c.args.attempt l c.requires.good
    c.if-attempt.false (2 + words_for (length text)) 1 (omega arith) c.in-Err.reason
    (subst (λ (n : ℕ). IsRoomReason c.in-Err.reason l.heap (2 + n) 1)
    c.words_of_string-words.ensures c.in-Err.ensures.reason)
    (g.M.Memory.grants c.granted.new.memory)
    (asked_logs l.grants _ c.args.attempt.slot c.in-Err.ensures.kept)
    (λ s shown. string_wants l text c.null-command.result (c.null-command.ensures.value _ _)
    (grind (arith, nat_tests, c.is_full.ensures, c.if-is_full.false)) c.args.attempt
    c.requires.good c.if-attempt.false (2 + words_for (length text)) refl s))

pub returns : goal.returns
returns g c =
    let l : Lent = (lent_of g.M.Memory.heap g.M.Memory.grants c.args.context.now c.args.runtime.now) in
    let text = c.args.bytes.now in
    let heap = g.M.Memory.heap c.make_string-part.new.memory in
    let part = c.make_string-part.result in
    let part_is : part ≡ whole_part part.address (length text) = c.make_string-part.ensures.part in
    let same = c.granted.ensures.heap in
    let extends : Extends l.heap heap = rw same at c.make_string-part.ensures.extends in
    let born : birth_at heap part.address ≡ l.heap.next = rw same at c.make_string-part.ensures.birth in
    let shows : (names : List (List ℕ)) (s : Store) → Shows l.heap names s
    → Shows heap names (s ++ string_object text ∷ [])
    = rw same at c.make_string-part.ensures.shows in
    let keeps = Keeps-Extends l.heap heap extends in
    let held : IsValue heap c.string_word.result = c.string_word.ensures.held heap
    (string_stands_whole heap part (length text) part_is c.make_string-part.ensures.known) in
    rw c.push_reserved.ensures
    (makes_turns nothing_more (token_turn (string_token text)) c.args.attempt l c.requires.good
    c.if-attempt.false heap _ (c.string_word.result ∷ l.operands) l.scratch keeps
    c.make_string-part.ensures.sound
    (held, AreValues-kept l.heap heap keeps l.operands c.requires.good.operands)
    (used_logs l.grants _ c.args.attempt.slot c.granted.ensures.kept _ _ _ _
    c.make_string-part.ensures.grants) c.requires.good.empty (at_least-same _)
    (λ s shown. string_makes l text c.null-command.result (c.null-command.ensures.value _ _)
    (grind (arith, nat_tests, c.is_full.ensures, c.if-is_full.false)) c.args.attempt
    c.requires.good c.if-attempt.false heap _ keeps c.string_word.result part part_is born
    (λ births names. c.string_word.ensures.value births names)
    (λ births names s inside. c.string_word.ensures.within births names s inside) s shown
    (shows l.names s shown.shows)))

-- The objects are made, refused, or have no room.
use Rattle.std.proofs.Common.{ℕ, ◌∷◌, ◌<◌, length, vec_capacity, arith, rules, sym, ap, subst, ◌∙◌}
use Rattle.std.specs.Prelude.{◌^◌}
use Rattle.ps_mem.proofs.KeepsLemmas.{Keeps-Extends, AreValues-kept}
use Rattle.ps_ops_operands.specs.Changes.{IsRoomReason}
use Rattle.ps_ops_operands.proofs.Ready.{plain_value, plain_within}
use Rattle.ps_ops_state.specs.declared.lent.Scratch.{Scratch}
use Rattle.ps_ops_state.specs.Lent.{Lent, lent_of}
use Rattle.ps_ops_state.proofs.Meeting.{at_least-same, logs-same}
use Rattle.ps_step_tokens.specs.Made.{IsMade, formed_asks, formed_turn, whole_made}
use Rattle.ps_step_tokens.specs.Procedures.{procedure_births, procedure_words, tokens_in}
use Rattle.ps_step_tokens.proofs.Alike.{lacked}
use Rattle.ps_step_tokens.proofs.FormedTurns.{formed_lacks, formed_wants, formed_unlisted, formed_makes}
use Rattle.ps_step_tokens.proofs.Makes.{no_room, makes_turns}
use Rattle.ps_step_tokens.proofs.Plain.{asked_logs, made_logs}
use Rattle.ps_step_tokens.proofs.RoomLemmas.{on_err, on_ok, listed_few, listed_many}
use Rattle.ps_step_tokens.proofs.procedures.do_formed.Goals as goal

pub raise-requires : goal.raise-requires
raise-requires g c = record {
  good = c.requires.good;
  held = plain_value _ _ c.null.ensures.plain;
}

pub returns-then-attempt : goal.returns-then-attempt
returns-then-attempt g c =
    let l : Lent = (lent_of g.M.Memory.heap g.M.Memory.grants c.args.context.now c.args.runtime.now) in
    let content = tokens_in c.args.text.now c.args.elements.now in
    lacked (formed_asks content) (formed_turn content) c.args.attempt _ l _ c.null.result
    (λ s shown. plain_within _ _ s _ c.null.ensures.plain)
    (λ s shown. formed_lacks l content c.null.result (c.null.ensures.value _ _) c.args.attempt _ _
    c.if-attempt.true s) c.raise.ensures

pub granted-requires : goal.granted-requires
granted-requires g c =
    let words = c.in-Some.ensures.words c.args.text.now in
    record { some = omega (arith, words) }

pub returns-in-Err : goal.returns-in-Err
returns-in-Err g c =
    let l : Lent = (lent_of g.M.Memory.heap g.M.Memory.grants c.args.context.now c.args.runtime.now) in
    let content = tokens_in c.args.text.now c.args.elements.now in
    let words = c.in-Some.ensures.words c.args.text.now in
    let births = c.in-Some.ensures.births c.args.text.now in
    rw c.in-Err.ensures.heap
    (no_room (formed_asks content) (formed_turn content) c.args.attempt l c.requires.good
    c.if-attempt.false (procedure_words content) (procedure_births content) (omega arith)
    c.in-Err.reason
    (subst (λ (n : ℕ). IsRoomReason c.in-Err.reason l.heap n (procedure_births content)) words
    (subst (λ (n : ℕ). IsRoomReason c.in-Err.reason l.heap c.in-Some.room.words n) births
    c.in-Err.ensures.reason))
    (g.M.Memory.grants c.granted.new.memory)
    (asked_logs l.grants _ c.args.attempt.slot c.in-Err.ensures.kept)
    (λ s shown. formed_wants l content c.args.attempt c.requires.good c.if-attempt.false s))

pub returns-then-is_err : goal.returns-then-is_err
returns-then-is_err g c =
    let l : Lent = (lent_of g.M.Memory.heap g.M.Memory.grants c.args.context.now c.args.runtime.now) in
    let content = tokens_in c.args.text.now c.args.elements.now in
    let words = c.in-Some.ensures.words c.args.text.now in
    let full = on_err c.reserve.result (sym c.is_err.ensures.value ∙ c.if-is_err.true)
    c.reserve.ensures.full in
    let empty = c.requires.good.empty in
    let none = ap length empty.words in
    let few : c.in-Some.room.words < 2 ^ 32 = search rules in
    let is = listed_few (procedure_words content) (omega (arith, few, words)) in
    let scratch : Scratch = record l.scratch { words = c.reserve.new.self } in
    let capacity = c.reserve.ensures.capacity in
    rw c.in_default-granted.ensures.heap
    (formed_unlisted l content c.args.attempt c.requires.good c.if-attempt.false
    (omega (arith, full, words, is, none, l.scratch.words.ok.0))
    (g.M.Memory.grants c.granted.new.memory)
    (asked_logs l.grants _ c.args.attempt.slot c.in_default-granted.ensures.kept) scratch
    (record {
      text = empty.text;
      sought = empty.sought;
      words = c.reserve.ensures.items ∙ empty.words;
    })
    (record { text = omega arith; sought = omega arith; words = omega (arith, capacity) }))

pub returns : goal.returns
returns g c =
    let l : Lent = (lent_of g.M.Memory.heap g.M.Memory.grants c.args.context.now c.args.runtime.now) in
    let content = tokens_in c.args.text.now c.args.elements.now in
    let heap = g.M.Memory.heap c.make_elements-word.new.memory in
    let made_here = c.make_elements-word.ensures.made in
    let made : IsMade (whole_made content) l.names l.dictionaries l.heap heap
    c.make_elements-word.result
    = rw c.in_default-granted.ensures.heap at made_here in
    let keeps = Keeps-Extends l.heap heap made.extends in
    let empty = c.requires.good.empty in
    let scratch : Scratch = record l.scratch { words = c.make_elements-word.new.words } in
    let capacity = c.reserve.ensures.capacity in
    let more = c.make_elements-word.ensures.capacity in
    rw c.push_reserved.ensures
    (makes_turns (formed_asks content) (formed_turn content) c.args.attempt l c.requires.good
    c.if-attempt.false heap (g.M.Memory.grants c.make_elements-word.new.memory)
    (c.make_elements-word.result ∷ l.operands) scratch keeps made.sound
    (made.held, AreValues-kept l.heap heap keeps l.operands c.requires.good.operands)
    (made_logs l.grants _ c.args.attempt.slot c.in_default-granted.ensures.kept _
    c.make_elements-word.ensures.logs)
    (record {
      text = empty.text;
      sought = empty.sought;
      words = c.make_elements-word.ensures.items ∙ (c.reserve.ensures.items ∙ empty.words);
    })
    (record { text = omega arith; sought = omega arith; words = omega (arith, capacity, more) })
    (λ s shown. formed_makes l content c.args.attempt c.requires.good c.if-attempt.false heap
    (g.M.Memory.grants c.make_elements-word.new.memory) keeps c.make_elements-word.result scratch
    made s shown))

pub make_elements-word-requires-clause-list : goal.make_elements-word-requires-clause-list
make_elements-word-requires-clause-list g c =
    let words = c.in-Some.ensures.words c.args.text.now in
    let room = on_ok c.reserve.result (sym c.is_err.ensures.value ∙ c.if-is_err.false)
    c.reserve.ensures.ok in
    omega (arith, room, words)

pub returns-in_default : goal.returns-in_default
returns-in_default g c =
    let l : Lent = (lent_of g.M.Memory.heap g.M.Memory.grants c.args.context.now c.args.runtime.now) in
    let content = tokens_in c.args.text.now c.args.elements.now in
    let past = c.in_default.ensures.past c.args.text.now in
    let is = listed_many (procedure_words content) past in
    let capacity : vec_capacity l.scratch.words < 2 ^ 64 = search rules in
    formed_unlisted l content c.args.attempt c.requires.good c.if-attempt.false
    (omega (arith, is, capacity)) l.grants (logs-same 0 l.grants c.args.attempt.slot) l.scratch
    c.requires.good.empty (at_least-same _)

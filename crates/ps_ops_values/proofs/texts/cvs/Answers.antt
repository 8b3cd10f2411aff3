-- The text at the front of the string, or why not.
use Rattle.std.proofs.Common.{ℕ, ◌≤◌, arith, List, length, sym, ap, subst, ◌∙◌, inl}
use Rattle.std.specs.Prelude.{vec_capacity}
use Rattle.ps_language.specs.declared.errors.ErrorName.TheVariants.{RangeCheck}
use Rattle.ps_language.specs.Access.{with_part_bytes}
use Rattle.ps_mem.specs.Heap.{birth_at}
use Rattle.ps_mem.specs.Meaning.{part_of}
use Rattle.ps_mem.specs.Shows.{IsValue, IsWithin, Shows}
use Rattle.ps_ops_operands.specs.declared.failure.NotMade.TheVariants.{Memory}
use Rattle.ps_ops_operands.proofs.Held.{first_of_two_held, second_held}
use Rattle.ps_ops_state.specs.Lent.{rooms_of}
use Rattle.ps_ops_state.proofs.Meeting.{logs-same, at_least-same}
use Rattle.ps_ops_state.proofs.Acting.{raising_acts}
use Rattle.ps_ops_sequences.specs.declared.pairs.Sequence.TheVariants.{Strings}
use Rattle.ps_ops_sequences.specs.Asks.{IsStoreReason}
use Rattle.ps_ops_values.proofs.CvsRow.{string_length, text_reason, cvs_long, cvs_wants, cvs_acts}
use Rattle.ps_ops_values.proofs.texts.cvs.Goals as goal

pub returns-in-Err-TooLong-clause-acts : goal.returns-in-Err-TooLong-clause-acts
returns-in-Err-TooLong-clause-acts g c =
    let h = g.M.Memory.heap c.args.runtime.now.memory in
    let good = c.requires.good in
    let same = at_least-same (rooms_of c.args.runtime.now.shared.scratch) in
    let reads = rw c.in-Err-TooLong.field-0-is at c.in-Err-TooLong.ensures.reads in
    rw (c.read_text.ensures.heap, c.read_text.ensures.grants) (raising_acts _ _ _ _ good _ _ _
    (omega arith) (record {
      text = c.read_text.ensures.room;
      sought = same.sought;
      words = same.words;
    }) (record {
      text = c.in-Err-TooLong.ensures.empty;
      sought = good.empty.sought;
      words = good.empty.words;
    }) (logs-same 0 _ _) RangeCheck (λ store shown.
    cvs_long _ good c.args.attempt _ _ c.in-Some.ensures c.in-Some-string_of.part
    (c.in-Some-string_of.ensures.part _ _) (sym c.is_writable.ensures ∙ c.if-not-is_writable.false)
    store shown (reads store shown.shows (second_held (IsWithin (birth_at h) _ store) _
    shown.operands _ _ c.in-Some.ensures))))

pub returns-in-Err-Memory-clause-acts : goal.returns-in-Err-Memory-clause-acts
returns-in-Err-Memory-clause-acts g c =
    let h = g.M.Memory.heap c.args.runtime.now.memory in
    let good = c.requires.good in
    let same = at_least-same (rooms_of c.args.runtime.now.shared.scratch) in
    let reads = rw c.in-Err-Memory.field-0-is at c.in-Err-Memory.ensures.reads in
    rw (c.read_text.ensures.heap, c.read_text.ensures.grants) (cvs_wants _ good c.args.attempt _ _
    c.in-Some.ensures c.in-Some-string_of.part
    (c.in-Some-string_of.ensures.part _ _) (sym c.is_writable.ensures ∙ c.if-not-is_writable.false)
    (λ store shown. (reads store shown.shows (second_held (IsWithin (birth_at h) _ store) _
    shown.operands _ _ c.in-Some.ensures)).0) _ _ (record {
      text = c.read_text.ensures.room;
      sought = same.sought;
      words = same.words;
    }) (record {
      text = c.in-Err-Memory.ensures.empty;
      sought = good.empty.sought;
      words = good.empty.words;
    }) (logs-same 0 _ _) Memory (λ store shown. inl (reads store shown.shows
    (second_held (IsWithin (birth_at h) _ store) _ shown.operands _ _ c.in-Some.ensures)).1))

-- a string that may be read is copied

pub returns-then-from-part-clause-acts : goal.returns-then-from-part-clause-acts
returns-then-from-part-clause-acts g c =
    let h = g.M.Memory.heap c.args.runtime.now.memory in
    let good = c.requires.good in
    let from = c.in-Some-readable_part.from in
    let long = c.if-from-part.true in
    raising_acts _ _ _ _ good _ _ _ (omega arith)
    (at_least-same (rooms_of c.args.runtime.now.shared.scratch)) good.empty (logs-same 0 _ _) RangeCheck
    (λ store shown.
    let count = string_length _ _ _ c.in-Some.ensures from
    (c.in-Some-readable_part.ensures.text (birth_at h) c.args.runtime.now.shared.names)
    (c.in-Some-readable_part.ensures.within (birth_at h) c.args.runtime.now.shared.names) store shown in
    cvs_long _ good c.args.attempt _ _ c.in-Some.ensures c.in-Some-string_of.part
    (c.in-Some-string_of.ensures.part _ _) (sym c.is_writable.ensures ∙ c.if-not-is_writable.false)
    store shown (omega (arith, long, count)))

pub returns-in-Err-clause-acts : goal.returns-in-Err-clause-acts
returns-in-Err-clause-acts g c =
    let h = g.M.Memory.heap c.args.runtime.now.memory in
    let good = c.requires.good in
    let from = c.in-Some-readable_part.from in
    let short = c.if-from-part.false in
    let count = string_length _ _ _ c.in-Some.ensures from
    (c.in-Some-readable_part.ensures.text (birth_at h) c.args.runtime.now.shared.names)
    (c.in-Some-readable_part.ensures.within (birth_at h) c.args.runtime.now.shared.names) in
    rw c.in-Err.ensures.same (cvs_wants _ good c.args.attempt _ _ c.in-Some.ensures
    c.in-Some-string_of.part
    (c.in-Some-string_of.ensures.part _ _) (sym c.is_writable.ensures ∙ c.if-not-is_writable.false)
    (λ store shown. let long = count store shown in omega (arith, short, long)) _ _
    c.copy_contents.ensures.room c.copy_contents.ensures.empty c.in-Err.ensures.spends
    c.in-Err.reason
    (λ store shown. subst (λ n. IsStoreReason Strings n c.args.runtime.now.shared.scratch c.args.attempt.slot
    (g.M.Memory.grants c.args.runtime.now.memory) (g.M.Memory.grants c.copy_contents.new.memory)
    c.in-Err.reason) (sym (count store shown)) c.in-Err.ensures.reason))

pub returns-in-Some-readable_part-clause-acts : goal.returns-in-Some-readable_part-clause-acts
returns-in-Some-readable_part-clause-acts g c =
    let h = g.M.Memory.heap c.args.runtime.now.memory in
    let good = c.requires.good in
    let from = c.in-Some-readable_part.from in
    let short = c.if-from-part.false in
    let text = c.in-Some-readable_part.ensures.text (birth_at h) c.args.runtime.now.shared.names in
    let within = c.in-Some-readable_part.ensures.within (birth_at h) c.args.runtime.now.shared.names in
    let count = string_length _ _ _ c.in-Some.ensures from text within in
    let target = first_of_two_held (IsValue h) _ good.operands _ _ c.in-Some.ensures in
    rw c.replace.ensures (cvs_acts _ good c.args.attempt _ _ c.in-Some.ensures
    c.in-Some-string_of.part
    (c.in-Some-string_of.ensures.part _ _) (sym c.is_writable.ensures ∙ c.if-not-is_writable.false)
    (λ store shown. let long = count store shown in omega (arith, short, long)) _ _ _
    c.copy_contents.ensures.room c.copy_contents.ensures.empty
    c.in_default-copy_contents.ensures.keeps c.in_default-copy_contents.ensures.sound from.length
    count c.in_default-copy_contents.ensures.spends
    (λ store shown. subst (λ (t : List ℕ). Shows (g.M.Memory.heap c.copy_contents.new.memory)
    c.args.runtime.now.shared.names (with_part_bytes store (part_of (birth_at h) c.in-Some-string_of.part)
    0 t)) (sym (text store)) (c.in_default-copy_contents.ensures.shows _ store shown.shows record {
      from = within store (second_held (IsWithin (birth_at h) _ store) _ shown.operands _ _
          c.in-Some.ensures);
      to = c.in-Some-string_of.ensures.within (birth_at h) _ store (first_of_two_held
          (IsWithin (birth_at h) _ store) _ shown.operands _ _ c.in-Some.ensures);
    }))
    c.string_interval.result (c.string_interval.ensures.held h target)
    (c.string_interval.ensures.value (birth_at h) c.args.runtime.now.shared.names)
    (λ store within. c.string_interval.ensures.within (birth_at h) _ store within))

pub returns-in-Err-write_text-clause-acts : goal.returns-in-Err-write_text-clause-acts
returns-in-Err-write_text-clause-acts g c =
    let h = g.M.Memory.heap c.args.runtime.now.memory in
    let good = c.requires.good in
    let room = c.read_text.ensures.room in
    let more = c.write_text.ensures.room in
    let text : (rooms_of c.args.runtime.now.shared.scratch).text
    ≤ (rooms_of c.write_text.new.scratch).text = omega (arith, room, more.text) in
    let read = c.read_text.new.text.items in
    let same = rw c.read_text.ensures.heap at c.in-Err-write_text.ensures.same in
    let spends = rw c.read_text.ensures.grants at c.in-Err-write_text.ensures.spends in
    let reason = rw c.read_text.ensures.grants at c.in-Err-write_text.ensures.reason in
    rw same (cvs_wants _ good c.args.attempt _ _ c.in-Some.ensures c.in-Some-string_of.part
    (c.in-Some-string_of.ensures.part _ _) (sym c.is_writable.ensures ∙ c.if-not-is_writable.false)
    (λ store shown. subst (λ (t : List ℕ). length t ≤ c.in-Some-string_of.part.length)
    (c.in-Ok.ensures.reads store shown.shows (second_held (IsWithin (birth_at h) _ store) _
    shown.operands _ _ c.in-Some.ensures)) c.in-Ok.ensures.few) _ _ (record {
      text = text;
      sought = more.sought;
      words = more.words;
    }) c.write_text.ensures.empty spends c.in-Err-write_text.reason
    (λ store shown. subst (λ (t : List ℕ). IsStoreReason Strings (length t)
    c.args.runtime.now.shared.scratch c.args.attempt.slot (g.M.Memory.grants c.args.runtime.now.memory)
    (g.M.Memory.grants c.write_text.new.memory) c.in-Err-write_text.reason)
    (c.in-Ok.ensures.reads store shown.shows (second_held (IsWithin (birth_at h) _ store) _
    shown.operands _ _ c.in-Some.ensures))
    (text_reason c.in-Err-write_text.reason (length read) (vec_capacity c.args.runtime.now.shared.scratch.text)
    (vec_capacity c.args.runtime.now.shared.scratch.words) c.args.attempt.slot
    (g.M.Memory.grants c.args.runtime.now.memory) (g.M.Memory.grants c.write_text.new.memory) reason)))

pub returns-clause-acts : goal.returns-clause-acts
returns-clause-acts g c =
    let h = g.M.Memory.heap c.args.runtime.now.memory in
    let good = c.requires.good in
    let read = c.read_text.new.text.items in
    let room = c.read_text.ensures.room in
    let more = c.write_text.ensures.room in
    let text : (rooms_of c.args.runtime.now.shared.scratch).text
    ≤ (rooms_of c.write_text.new.scratch).text = omega (arith, room, more.text) in
    let keeps = rw c.read_text.ensures.heap at c.in_default-write_text.ensures.keeps in
    let shows = rw c.read_text.ensures.heap at c.in_default-write_text.ensures.shows in
    let spends = rw c.read_text.ensures.grants at c.in_default-write_text.ensures.spends in
    let target = first_of_two_held (IsValue h) _ good.operands _ _ c.in-Some.ensures in
    rw c.replace-2.ensures (cvs_acts _ good c.args.attempt _ _ c.in-Some.ensures
    c.in-Some-string_of.part
    (c.in-Some-string_of.ensures.part _ _) (sym c.is_writable.ensures ∙ c.if-not-is_writable.false)
    (λ store shown. subst (λ (t : List ℕ). length t ≤ c.in-Some-string_of.part.length)
    (c.in-Ok.ensures.reads store shown.shows (second_held (IsWithin (birth_at h) _ store) _
    shown.operands _ _ c.in-Some.ensures)) c.in-Ok.ensures.few) _ _ _ (record {
      text = text;
      sought = more.sought;
      words = more.words;
    }) c.write_text.ensures.empty keeps c.in_default-write_text.ensures.sound
    (length read)
    (λ store shown. sym (ap length (c.in-Ok.ensures.reads store shown.shows
    (second_held (IsWithin (birth_at h) _ store) _ shown.operands _ _ c.in-Some.ensures))))
    spends
    (λ store shown. subst (λ (t : List ℕ). Shows (g.M.Memory.heap c.write_text.new.memory)
    c.args.runtime.now.shared.names (with_part_bytes store (part_of (birth_at h) c.in-Some-string_of.part)
    0 t)) (c.in-Ok.ensures.reads store shown.shows (second_held (IsWithin (birth_at h) _ store) _
    shown.operands _ _ c.in-Some.ensures)) (shows _ store shown.shows
    (c.in-Some-string_of.ensures.within (birth_at h) _ store (first_of_two_held
    (IsWithin (birth_at h) _ store) _ shown.operands _ _ c.in-Some.ensures))))
    c.string_interval-2.result (c.string_interval-2.ensures.held h target)
    (rw c.count_of-count.ensures at
    (c.string_interval-2.ensures.value (birth_at h) c.args.runtime.now.shared.names))
    (λ store within. c.string_interval-2.ensures.within (birth_at h) _ store within))

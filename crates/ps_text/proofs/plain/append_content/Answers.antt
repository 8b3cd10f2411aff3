use Rattle.std.proofs.Common.{◌≡◌, ◌++◌, ◌<◌, List, ℕ, length, sym, subst}
use Rattle.std.specs.Prelude.{OnOk, OnErr, vec_capacity}
use Rattle.ps_mem.specs.Heap.{birth_at}
use Rattle.ps_text.proofs.Shown.{no_text_is}
use Rattle.ps_text.proofs.plain.append_content.Goals as goal

pub returns-in-Text-clause-ok : goal.returns-in-Text-clause-ok
returns-in-Text-clause-ok g c =
    rw c.in-Text.is (λ s shows within. c.append_text.ensures.ok c.args.names.now s shows within)

pub returns-in-Text-clause-full : goal.returns-in-Text-clause-full
returns-in-Text-clause-full g c =
    rw c.in-Text.is (λ s shows within. c.append_text.ensures.full c.args.names.now s shows within)

pub returns-in-Null-clause-ok : goal.returns-in-Null-clause-ok
returns-in-Null-clause-ok g c = λ s shows within.
    subst (λ (t : List ℕ). OnOk c.append_ended-in-Null.result (c.append_ended-in-Null.new.output.items
    ≡ c.args.output.now.items ++ (t ++ c.args.ending.now)))
    (sym (no_text_is (birth_at (g.M.Memory.heap c.args.memory.now)) c.args.names.now s c.args.content
    c.in-Null.is)) c.append_ended-in-Null.ensures.ok

pub returns-in-Null-clause-full : goal.returns-in-Null-clause-full
returns-in-Null-clause-full g c = λ s shows within.
    subst (λ (t : List ℕ). OnErr c.append_ended-in-Null.result (vec_capacity c.args.output.now
    < length (c.args.output.now.items ++ (t ++ c.args.ending.now))))
    (sym (no_text_is (birth_at (g.M.Memory.heap c.args.memory.now)) c.args.names.now s c.args.content
    c.in-Null.is)) c.append_ended-in-Null.ensures.full

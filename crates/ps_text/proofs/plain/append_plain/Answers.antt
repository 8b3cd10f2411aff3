use Rattle.std.proofs.Common.{◌≡◌, ◌++◌, ◌<◌, List, ℕ, length, sym, subst}
use Rattle.std.specs.Prelude.{OnOk, OnErr, vec_capacity}
use Rattle.ps_mem.specs.Heap.{birth_at}
use Rattle.ps_text.proofs.Shown.{known_content, within_content, plain_is}
use Rattle.ps_text.proofs.plain.append_plain.Goals as goal

pub append_content-requires-clause-known : goal.append_content-requires-clause-known
append_content-requires-clause-known g c =
    known_content c.args.word c.content.result c.content.ensures _ c.requires.held.known

pub returns-clause-ok : goal.returns-clause-ok
returns-clause-ok g c = λ s shows within.
    let b = birth_at (g.M.Memory.heap c.args.memory.now) in
    let names = c.args.names.now in
    subst (λ (t : List ℕ). OnOk c.append_content.result (c.append_content.new.output.items
    ≡ c.args.output.now.items ++ (t ++ c.args.ending.now)))
    (sym (plain_is c.args.word c.content.result c.content.ensures b names s))
    (c.append_content.ensures.ok s shows
    (within_content c.args.word c.content.result c.content.ensures b names s within))

pub returns-clause-full : goal.returns-clause-full
returns-clause-full g c = λ s shows within.
    let b = birth_at (g.M.Memory.heap c.args.memory.now) in
    let names = c.args.names.now in
    subst (λ (t : List ℕ). OnErr c.append_content.result (vec_capacity c.args.output.now
    < length (c.args.output.now.items ++ (t ++ c.args.ending.now))))
    (sym (plain_is c.args.word c.content.result c.content.ensures b names s))
    (c.append_content.ensures.full s shows
    (within_content c.args.word c.content.result c.content.ensures b names s within))

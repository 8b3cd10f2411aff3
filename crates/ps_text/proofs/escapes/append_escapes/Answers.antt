use Rattle.std.proofs.Common.{◌≡◌, ◌<◌, List, ℕ, ◌++◌, length, take, sym, subst}
use Rattle.std.specs.Prelude.{OnOk, OnErr, vec_capacity}
use Rattle.ps_text.proofs.escapes.append_escapes.Goals as goal

pub returns-then-are_plain-clause-ok : goal.returns-then-are_plain-clause-ok
returns-then-are_plain-clause-ok c =
    subst (λ (t : List ℕ). OnOk c.append_cut.result (c.append_cut.new.output.items
    ≡ take c.args.end (c.args.output.now.items ++ t)))
    (sym (c.are_plain.ensures c.if-are_plain.true)) c.append_cut.ensures.ok

pub returns-then-are_plain-clause-full : goal.returns-then-are_plain-clause-full
returns-then-are_plain-clause-full c =
    subst (λ (t : List ℕ). OnErr c.append_cut.result (vec_capacity c.args.output.now
    < length (take c.args.end (c.args.output.now.items ++ t))))
    (sym (c.are_plain.ensures c.if-are_plain.true)) c.append_cut.ensures.full

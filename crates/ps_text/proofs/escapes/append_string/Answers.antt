use Rattle.std.proofs.Common.{◌≡◌, true, [], ◌∷◌, ◌++◌, length, take, ◌<◌, List, ℕ, sym, ◌∙◌, subst, arith}
use Rattle.std.specs.Prelude.{OnOk, OnErr, vec_capacity}
use Rattle.std.specs.List.{flat_map}
use Rattle.ps_language.specs.Access.{is_readable, part_bytes}
use Rattle.ps_language.specs.Texts.{escaped}
use Rattle.ps_mem.specs.Heap.{birth_at}
use Rattle.ps_mem.specs.Meaning.{part_of}
use Rattle.ps_text.proofs.Cuts.{cut_three, full_three, full_first, full_next, err_given}
use Rattle.ps_text.proofs.Shown.{readable_string}
use Rattle.ps_text.proofs.escapes.append_string.Goals as goal

pub returns-clause-ok : goal.returns-clause-ok
returns-clause-ok g c = λ names s shows within.
    let p = part_of (birth_at (g.M.Memory.heap c.args.memory.now)) c.args.part in
    let readable : is_readable p.access ≡ true = sym c.is_readable.ensures ∙ c.if-not-is_readable.false in
    subst (λ (t : List ℕ). OnOk c.append_cut-3.result (c.append_cut-3.new.output.items
    ≡ take c.args.end (c.args.output.now.items ++ t))) (sym (readable_string s p readable))
    (cut_three c.args.end c.args.output.now.items (40 ∷ [])
    (flat_map escaped (part_bytes s p)) _ c.in_ok-append_cut.ensures.ok _
    (c.in_ok-append_escaped.ensures.ok names s shows within) c.append_cut-3.result
    (41 ∷ []) _ c.append_cut-3.ensures.ok)

pub returns-clause-full : goal.returns-clause-full
returns-clause-full g c = λ names s shows within.
    let p = part_of (birth_at (g.M.Memory.heap c.args.memory.now)) c.args.part in
    let readable : is_readable p.access ≡ true = sym c.is_readable.ensures ∙ c.if-not-is_readable.false in
    let grown = c.append_cut-2.ensures.capacity in
    let again = c.append_escaped.ensures.capacity in
    subst (λ (t : List ℕ). OnErr c.append_cut-3.result (vec_capacity c.args.output.now
    < length (take c.args.end (c.args.output.now.items ++ t)))) (sym (readable_string s p readable))
    (full_three c.args.end c.args.output.now.items (40 ∷ [])
    (flat_map escaped (part_bytes s p)) _ c.in_ok-append_cut.ensures.ok _
    (c.in_ok-append_escaped.ensures.ok names s shows within) c.append_cut-3.result (41 ∷ []) _ _
    (omega (arith, grown, again)) c.append_cut-3.ensures.full)

pub returns-in_err-append_escaped-clause-full : goal.returns-in_err-append_escaped-clause-full
returns-in_err-append_escaped-clause-full g c = λ names s shows within.
    let p = part_of (birth_at (g.M.Memory.heap c.args.memory.now)) c.args.part in
    let readable : is_readable p.access ≡ true = sym c.is_readable.ensures ∙ c.if-not-is_readable.false in
    let text = flat_map escaped (part_bytes s p) in
    let end = c.args.end in
    let old = c.args.output.now.items in
    let less : vec_capacity c.args.output.now < length (take end (old ++ ((40 ∷ []) ++ text))) =
    full_next end old (40 ∷ []) text _ _ _ c.in_ok-append_cut.ensures.ok c.append_cut-2.ensures.capacity
    (c.in_err-append_escaped.ensures.full names s shows within) in
    subst (λ (t : List ℕ). OnErr c.from_residual-in_err-append_escaped.result (vec_capacity c.args.output.now
    < length (take end (old ++ t)))) (sym (readable_string s p readable))
    (err_given _ c.from_residual-in_err-append_escaped.result (full_first end old ((40 ∷ []) ++ text) (41 ∷ []) _ less))

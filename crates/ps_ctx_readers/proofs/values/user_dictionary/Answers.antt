-- The second from below is userdict.
use Rattle.std.proofs.Common.{ℕ, ap, sym, ◌∙◌, ◌-◌}
use Rattle.std.specs.Prelude.{option_map}
use Rattle.ps_mem.specs.Heap.{birth_at}
use Rattle.ps_mem.specs.Shows.{IsValue}
use Rattle.ps_ctx_readers.proofs.Valued.{all_at, read_stands, user_is, user_gone}
use Rattle.ps_ctx_readers.proofs.values.user_dictionary.Goals as goal

pub returns-in-Some-clause-stands : goal.returns-in-Some-clause-stands
returns-in-Some-clause-stands c = λ h are.
    read_stands h c.in-Some.user _
    (all_at (IsValue h) c.args.dictionaries.now _ c.in-Some.user are (sym c.in-Some.ensures))
    c.as_dictionary.ensures

pub returns-in-Some-clause-birth : goal.returns-in-Some-clause-birth
returns-in-Some-clause-birth c = λ h names first.
    ap (option_map (birth_at h)) c.as_dictionary.ensures
    ∙ user_is h names c.args.dictionaries.now c.saturating_sub-above.result
    (c.saturating_sub-above.ensures ∙ ap (λ (n : ℕ). n - 2) c.len.ensures.count) first
    c.in-Some.user c.in-Some.ensures

pub returns-in-None-clause-birth : goal.returns-in-None-clause-birth
returns-in-None-clause-birth c = λ h names first.
    absurd (user_gone h names c.args.dictionaries.now c.saturating_sub-above.result
    (c.saturating_sub-above.ensures ∙ ap (λ (n : ℕ). n - 2) c.len.ensures.count) first
    c.in-None.ensures)

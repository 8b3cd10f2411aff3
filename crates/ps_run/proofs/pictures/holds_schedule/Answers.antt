use Rattle.std.proofs.Common.{◌≡◌, ◌≢◌, ℕ, List, IfSome, rules, subst}
use Rattle.std.specs.Str.{bytes_eq}
use Rattle.ps_run_schedules.specs.Texts.{text_of}
use Rattle.ps_run.proofs.Held.{held, not_held}
use Rattle.ps_run.proofs.pictures.holds_schedule.Goals as goal

pub returns-clause-holds : goal.returns-clause-holds
returns-clause-holds g c = λ is.
    let text : c.as_slice.result.now ≡ text_of c.args.schedule = search rules in
    subst (λ (bytes : List ℕ). IfSome (g.F.FileSet.contents c.args.files.now c.args.name.now)
    (λ known. known ≡ bytes)) text
    (held _ c.as_slice.result.now c.holds.result c.holds.ensures is)

pub returns-clause-apart : goal.returns-clause-apart
returns-clause-apart g c = λ is.
    let text : c.as_slice.result.now ≡ text_of c.args.schedule = search rules in
    subst (λ (bytes : List ℕ). IfSome (g.F.FileSet.contents c.args.files.now c.args.name.now)
    (λ known. known ≢ bytes)) text
    (not_held _ c.as_slice.result.now c.holds.result c.holds.ensures is)

use Rattle.std.proofs.Common.{◌≡◌, ◌+◌, ◌-◌, ◌<◌, ◌∙◌, ℕ, Some, ap, sym, refl, arith, subst, nat_lt, get_or}
use Rattle.std.specs.Prelude.{slice_get, slice_set, if◌then◌else◌}
use Rattle.std.proofs.lemmas.Option.{slice_get-get_or}
use Rattle.ps_mem.specs.Index.{placed}
use Rattle.ps_dict.proofs.Freeing.{free-here_in}
use Rattle.ps_dict.proofs.Probing.{below_test}
use Rattle.ps_dict.proofs.index.free_in.Goals as goal

-- nothing behind a start is the start
at_start : (s n : ℕ) → s < n → s ≡ (if nat_lt (s + 0) n then s + 0 else s + 0 - n)
at_start s n below =
    let none : s + 0 ≡ s = omega arith in
    sym (rw (below_test (s + 0) n (omega (arith, below))) none)

pub returns-in-None-clause-placed : goal.returns-in-None-clause-placed
returns-in-None-clause-placed c = λ spots words count small has position.
    let s = c.args.start in
    let n = c.args.capacity in
    let is = at_start s n c.requires.start in
    subst (λ q. placed position s spots ≡ slice_set spots q (Some position)) (sym is)
    (free-here_in c.args.places.now n spots words count small s c.requires.start 0 (omega (arith, c.requires.start))
    (get_or c.args.places.now s _)
    (ap (slice_get c.args.places.now) (sym is)
    ∙ slice_get-get_or c.args.places.now s _ (omega (arith, c.requires.start, c.requires.all)))
    (sym c.as_integer.ensures ∙ c.in-None.is) refl position)

-- A text stands at one number alone.
use Rattle.std.proofs.Common.{[], ap, sym, ◌∙◌}
use Rattle.std.specs.Prelude.{unwrap_or}
use Rattle.std.proofs.lemmas.Bool.Decides.{Decides-eqb}
use Rattle.std.proofs.lemmas.Slice.Eq.{slice_eq-Decides}
use Rattle.ps_names.specs.Names.{place_of}
use Rattle.ps_names.proofs.Places.{stands_at}
use Rattle.ps_names.proofs.names.Names.is_at.Goals as goal

pub returns-then-from-len-clause-is : goal.returns-then-from-len-clause-is
returns-then-from-len-clause-is c =
    let same = slice_eq-Decides Decides-eqb c.text.result.now c.args.text.now c.eq.result c.eq.ensures in (
      (λ is. ap (λ t. place_of t c.args.self.now) (sym (same.0 is))
          ∙ c.text.ensures.found (rw (← c.len.ensures.count, ← c.from.ensures) c.if-from-len.true)),
      (λ at. same.1 (c.text.ensures.bytes
          ∙ ap (λ o. unwrap_or o []) (stands_at c.args.text.now c.args.self.now c.args.id.0 at))),
    )

use Rattle.std.proofs.Common.{inl, inr, refl, sym, ◌∙◌}
use Rattle.indexmap.proofs.CallerLemmas.{insert_entry-new}
use Rattle.ps_searches.proofs.Telling.{looked_up, none_of, not_looked_up}
use Rattle.ps_searches.proofs.found.add_ending.Goals as goal

pub returns-in_ok-insert-clause-added : goal.returns-in_ok-insert-clause-added
returns-in_ok-insert-clause-added g c =
    let none = none_of _ (sym c.contains_key.ensures ∙ c.if-not-contains_key.true) in
    inr (
      c.in_ok-insert.ensures.entries
          ∙ insert_entry-new g.E.PartialEq.eq c.args.endings.now c.args.ending _ none,
      not_looked_up (g.E.PartialEq.eq c.args.ending) c.args.endings.now.entries none,
    )

pub returns-else-not-contains_key-clause-added : goal.returns-else-not-contains_key-clause-added
returns-else-not-contains_key-clause-added g c =
    inl (
      refl,
      looked_up (g.E.PartialEq.eq c.args.ending) c.args.endings.now.entries
          (sym c.contains_key.ensures ∙ c.if-not-contains_key.false),
    )

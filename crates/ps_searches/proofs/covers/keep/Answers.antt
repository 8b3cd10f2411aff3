use Rattle.std.proofs.Common.{◌∷◌, [], arith, length, subst, sym, ◌∙◌}
use Rattle.indexmap.proofs.CallerLemmas.{insert_entry-new}
use Rattle.ps_searches.proofs.Telling.{looked_up, none_of}
use Rattle.ps_searches.proofs.Worlds.{kept_push, known_alike, known_push, near_push}
use Rattle.ps_searches.proofs.covers.keep.Goals as goal

pub returns-then-contains_key-clause-known : goal.returns-then-contains_key-clause-known
returns-then-contains_key-clause-known g c path at =
    known_alike (g.G.RunGraph.price c.args.graph.now) (g.G.RunGraph.IsImage c.args.graph.now)
    g.G.RunGraph.Makes g.G.RunGraph.steps g.G.Image.PartialEq.eq
    (g.met.G.RunGraph.alike c.args.graph.now) c.args.kept.now.entries
    (length (g.G.RunGraph.path c.args.run.now)) c.in_ok-image.image path c.requires.near
    (looked_up _ _ (sym c.contains_key.ensures ∙ c.if-contains_key.true))
    (c.in_ok-image.ensures.image path at)

pub returns-in-Ok-clause-grows : goal.returns-in-Ok-clause-grows
returns-in-Ok-clause-grows g c = (
  (c.in_ok-image.image, c.in_ok-schedule.schedule) ∷ [],
  c.in-Ok.ensures.entries ∙ insert_entry-new _ c.args.kept.now c.in_ok-image.image
      c.in_ok-schedule.schedule (none_of _ (sym c.contains_key.ensures ∙ c.if-contains_key.false)),
)

pub returns-in-Ok-clause-known : goal.returns-in-Ok-clause-known
returns-in-Ok-clause-known g c path at =
    let own = g.G.RunGraph.path c.args.run.now in
    let makes : g.G.RunGraph.Makes c.in_ok-schedule.schedule own =
    subst (λ run. g.G.RunGraph.Makes c.in_ok-schedule.schedule (g.G.RunGraph.path run))
    c.image.ensures.same c.in_ok-schedule.ensures in
    let grown = c.in-Ok.ensures.entries ∙ insert_entry-new _ c.args.kept.now c.in_ok-image.image
    c.in_ok-schedule.schedule
    (none_of _ (sym c.contains_key.ensures ∙ c.if-contains_key.false)) in
    let counts = sym (g.met.G.RunGraph.counts c.in_ok-schedule.schedule own makes) in
    known_push (g.G.RunGraph.price c.args.graph.now) (g.G.RunGraph.IsImage c.args.graph.now)
    g.G.RunGraph.Makes g.G.RunGraph.steps c.args.kept.now.entries c.insert.new.self.entries
    (c.in_ok-image.image, c.in_ok-schedule.schedule) (length own) path grown counts
    (c.in_ok-image.ensures.image path at)

pub returns-in-Ok-clause-near : goal.returns-in-Ok-clause-near
returns-in-Ok-clause-near g c =
    let own = g.G.RunGraph.path c.args.run.now in
    let makes : g.G.RunGraph.Makes c.in_ok-schedule.schedule own =
    subst (λ run. g.G.RunGraph.Makes c.in_ok-schedule.schedule (g.G.RunGraph.path run))
    c.image.ensures.same c.in_ok-schedule.ensures in
    let grown = c.in-Ok.ensures.entries ∙ insert_entry-new _ c.args.kept.now c.in_ok-image.image
    c.in_ok-schedule.schedule
    (none_of _ (sym c.contains_key.ensures ∙ c.if-contains_key.false)) in
    let counts = sym (g.met.G.RunGraph.counts c.in_ok-schedule.schedule own makes) in
    near_push (g.G.RunGraph.price c.args.graph.now) (g.G.RunGraph.IsImage c.args.graph.now)
    g.G.RunGraph.Makes g.G.RunGraph.steps c.args.kept.now.entries c.insert.new.self.entries
    (c.in_ok-image.image, c.in_ok-schedule.schedule) (length own) grown counts c.requires.near

pub returns-in-Ok-clause-kept : goal.returns-in-Ok-clause-kept
returns-in-Ok-clause-kept g c =
    let own = g.G.RunGraph.path c.args.run.now in
    let makes : g.G.RunGraph.Makes c.in_ok-schedule.schedule own =
    subst (λ run. g.G.RunGraph.Makes c.in_ok-schedule.schedule (g.G.RunGraph.path run))
    c.image.ensures.same c.in_ok-schedule.ensures in
    let grown = c.in-Ok.ensures.entries ∙ insert_entry-new _ c.args.kept.now c.in_ok-image.image
    c.in_ok-schedule.schedule
    (none_of _ (sym c.contains_key.ensures ∙ c.if-contains_key.false)) in
    let counts = sym (g.met.G.RunGraph.counts c.in_ok-schedule.schedule own makes) in
    kept_push (g.G.RunGraph.price c.args.graph.now) (g.G.RunGraph.IsImage c.args.graph.now)
    g.G.RunGraph.Makes g.G.RunGraph.steps c.args.most c.args.kept.now.entries
    c.insert.new.self.entries (c.in_ok-image.image, c.in_ok-schedule.schedule) (length own) grown
    counts c.requires.kept c.requires.near (omega (arith, c.if-len-most.false, c.len.ensures.len))
    (record {
      path = own;
      makes = makes;
      proper = c.requires.proper;
      image = c.in_ok-image.ensures.image own c.requires.here;
    })

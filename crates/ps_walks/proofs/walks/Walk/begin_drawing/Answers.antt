use Rattle.std.proofs.Common.{◌∙◌, [], length, subst, sym, ap, arith}
use Rattle.ps_states.specs.declared.presences.Tie.TheVariants.{Joins, Notifies}
use Rattle.ps_states.specs.Moments.{ArePresences}
use Rattle.ps_states.proofs.Each.{made_all}
use Rattle.ps_walks.specs.Timelines.{labels_of, moments_of, related_at, starts_at}
use Rattle.ps_walks.proofs.Drawing.{each_none, ever_none, lanes_grown, no_lanes, none_done, none_untold}
use Rattle.ps_walks.proofs.Following.{walked_none}
use Rattle.ps_walks.proofs.walks.Walk.begin_drawing.Goals as goal

pub returns-clause-drawn : goal.returns-clause-drawn
returns-clause-drawn g c = λ w is.
    let runtime = c.args.self.now.runtime in
    let contexts = c.args.self.now.world.contexts in
    let all = made_all (g.M.Memory.heap runtime.memory) runtime.shared.names contexts.table w is.contexts in
    let none = c.new-lanes.ensures.items in
    record {
      count = omega (
        arith,
        c.in_ok-grow_lanes.ensures.count,
        ap length none,
        c.made.ensures.made,
        all,
        ever_none w,
      );
      lanes = lanes_grown (moments_of w []) (labels_of w []) 0 c.new-lanes.result.items
          c.grow_lanes.new.lanes.items (λ place late. none_done w place)
          (λ place late. none_untold w place) c.in_ok-grow_lanes.ensures.each
          (no_lanes (moments_of w []) (labels_of w []) c.new-lanes.result.items none);
      seen = subst (ArePresences c.tell_presences.new.seen.items) (sym (walked_none w))
          (c.in_ok-tell_presences.ensures.told w is);
      forks = c.new.ensures.items ∙ sym (each_none starts_at 0 w);
      joins = c.new-2.ensures.items ∙ sym (each_none (related_at Joins) 0 w);
      notifies = c.new-3.ensures.items ∙ sym (each_none (related_at Notifies) 0 w);
    }

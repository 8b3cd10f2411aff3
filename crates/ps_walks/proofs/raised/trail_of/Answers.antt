-- A frame more is told, or there is none.
use Rattle.std.proofs.Common.{◌≡◌, ◌∷◌, [], ◌++◌, ◌+◌, List, sym, ap, ◌∙◌, rules}
use Rattle.ps_mem.specs.Heap.{birth_at}
use Rattle.ps_ctx_readers.specs.Frames.{frames_at}
use Rattle.ps_walks.specs.declared.raised.CallSite.{CallSite}
use Rattle.ps_walks.specs.declared.taken.Taken.{Taken}
use Rattle.ps_walks.specs.Places.{are_meant, caller_of, calls_of, trail_of}
use Rattle.ps_walks.proofs.Trailing.{caller_at, caller_below, caller_top, calls_end, calls_on, front_all, front_first, front_more, left, trail_first}
use Rattle.ps_walks.proofs.Walking.{world_same}
use Rattle.ps_walks.proofs.raised.trail_of.Given as givens
use Rattle.ps_walks.proofs.raised.trail_of.Goals as goal
use Rattle.ps_walks.proofs.raised.trail_of.Goals.{then-depth-eq0, else-depth-eq0}

pub loop-depth-init : goal.loop-depth-init
loop-depth-init g c =
    let m = c.args.map in
    let births = birth_at (g.M.Memory.heap c.args.runtime.now.memory) in
    let names = c.args.runtime.now.shared.names in
    record {
      heap = search rules;
      grants = search rules;
      shared = search rules;
      trail = λ w is. front_first (trail_of m w c.args.taken) (calls_of m w (c.args.taken ∷ []))
          (are_meant births names c.push_call.new.trail.items)
          (left c.args.taken m.token m w (frames_at w m.context) 0)
          (are_meant births names c.new-trail.result.items) (trail_first m w c.args.taken)
          (c.in_ok-push_call.ensures.pushed w is)
          (ap (λ (items : List CallSite). are_meant births names items) c.new-trail.ensures.items);
    }

pub returns-in_default-clause-trail : goal.returns-in_default-clause-trail
returns-in_default-clause-trail g c = λ w is.
    let m = c.args.map in
    let inv = c.loop-depth.invariant in
    let births = birth_at (g.M.Memory.heap c.args.runtime.now.memory) in
    let names = c.args.runtime.now.shared.names in
    let at = world_same g.M.Memory.heap g.M.Memory.grants c.args.world.now c.args.runtime.now
    c.loop-depth.runtime inv.heap inv.grants inv.shared w is in
    let none = sym (c.frame_at.ensures.view w at) ∙ c.in_default.is in
    let frames = frames_at w m.context in
    front_all (trail_of m w c.args.taken) (are_meant births names c.loop-depth.trail.items)
    (left c.args.taken m.token m w frames c.loop-depth.depth) (inv.trail w is)
    (calls_end c.args.taken m.token m w frames c.loop-depth.depth none)

-- what is told of the frame
caller_is : (g : givens.Over) (c : goal.In_ok-push_call-2 g) → c.if-depth-eq0.caller
    ≡ caller_at c.args.taken c.args.map.token c.loop-depth.depth c.in-Some.frame
caller_is g c = elim c.if-depth-eq0.branch [
  | then-depth-eq0 w ↦
      w.caller-is ∙ w.caller_of-caller.ensures
      ∙ ap (caller_of c.args.taken) c.last_of-last.ensures
      ∙ caller_top c.args.taken c.args.map.token c.loop-depth.depth c.in-Some.frame
      w.if-depth-eq0.true
  | else-depth-eq0 w ↦
      w.caller-is ∙ c.last_of-last.ensures
      ∙ caller_below c.args.taken c.args.map.token c.loop-depth.depth c.in-Some.frame
      w.if-depth-eq0.false
]

pub loop-depth-preserved : goal.loop-depth-preserved
loop-depth-preserved g c = record {
  heap = search rules;
  grants = search rules;
  shared = search rules;
  trail = λ w is.
      let m = c.args.map in
      let inv = c.loop-depth.invariant in
      let births = birth_at (g.M.Memory.heap c.args.runtime.now.memory) in
      let names = c.args.runtime.now.shared.names in
      let at = world_same g.M.Memory.heap g.M.Memory.grants c.args.world.now c.args.runtime.now
      c.loop-depth.runtime inv.heap inv.grants inv.shared w is in
      let then = world_same g.M.Memory.heap g.M.Memory.grants c.args.world.now c.loop-depth.runtime
      c.frame_at.new.runtime c.frame_at.ensures.heap c.frame_at.ensures.grants
      c.frame_at.ensures.shared w at in
      let some = sym (c.frame_at.ensures.view w at) ∙ c.in-Some.is in
      let frames = frames_at w m.context in
      let told = c.in_ok-push_call-2.ensures.pushed w then in
      let pushed = rw (c.frame_at.ensures.heap, inv.heap, c.frame_at.ensures.shared, inv.shared)
      at told in
      let old = are_meant births names c.loop-depth.trail.items in
      let depth = c.loop-depth.depth in
      front_more (trail_of m w c.args.taken) old
      (calls_of m w (caller_at c.args.taken m.token depth c.in-Some.frame ∷ []))
      (are_meant births names c.push_call-in-loop-depth.new.trail.items)
      (left c.args.taken m.token m w frames depth) (left c.args.taken m.token m w frames (depth + 1))
      (inv.trail w is) (calls_on c.args.taken m.token m w frames depth c.in-Some.frame some)
      (pushed ∙ ap (λ (taken : Taken). old ++ calls_of m w (taken ∷ [])) (caller_is g c));
}

use Rattle.std.proofs.Common.{◌≡◌, ◌≢◌, ◌∙◌, ◌≤◌, ◌<◌, ◌++◌, ◌∷◌, [], suc, length, subst, sym, ap, refl, arith, inl, inr}
use Rattle.std.specs.Prelude.{slice_get}
use Rattle.std.proofs.Math.ListN.{set}
use Rattle.std.proofs.lemmas.Bool.{cases_lt}
use Rattle.std.proofs.lemmas.List.{length-set}
use Rattle.std.proofs.lemmas.Option.{slice_get_read, slice_get_within}
use Rattle.ps_states.specs.Moments.{moment_of}
use Rattle.ps_walks.specs.Timelines.{IsLane, labels_by}
use Rattle.ps_walks.proofs.Drawing.{as_lanes, of_lanes, set_here, set_there}
use Rattle.ps_walks.proofs.drawn.note_lanes.Goals as goal

pub note_lane-requires : goal.note_lane-requires
note_lane-requires g c = record {
  steady = rw (c.loop-place.invariant.heap, c.loop-place.invariant.grants, c.loop-place.invariant.shared)
      c.requires.steady;
  step = c.requires.step;
}

pub loop-place-preserved : goal.loop-place-preserved
loop-place-preserved g c =
    let here = c.loop-place.place in
    let lanes = c.loop-place.lanes.items in
    let within : here < length lanes =
    omega (arith, c.loop-place-test.true, c.len-place-end.ensures, c.loop-place.invariant.count) in
    let told = c.in_ok-note_lane.ensures.noted in
    let noted = rw (c.loop-place.invariant.heap, c.loop-place.invariant.grants, c.loop-place.invariant.shared) at told in
    record {
      heap = c.note_lane.ensures.heap ∙ c.loop-place.invariant.heap;
      grants = c.note_lane.ensures.grants ∙ c.loop-place.invariant.grants;
      shared = c.note_lane.ensures.shared ∙ c.loop-place.invariant.shared;
      count = length-set lanes here c.note_lane.new.lane ∙ c.loop-place.invariant.count;
      done = λ w moments labels is count are k lane below at. elim (cases_lt k here) [
        | inl before ↦
            let apart : k ≢ here = λ e. omega (arith, e, before) in
            c.loop-place.invariant.done w moments labels is count are k lane before
            (sym (set_there lanes here k c.note_lane.new.lane apart) ∙ at)
        | inr beyond ↦
            let same : k ≡ here = omega (arith, below, beyond) in
            let size : length lanes ≡ length lanes = refl in
            let old = slice_get_read lanes (length lanes) here c.index_mut.result.now size within
            c.index_mut.ensures.value in
            let was = of_lanes moments labels c.args.lanes.now.items are here c.index_mut.result.now
            (sym (c.loop-place.invariant.rest here (omega arith)) ∙ old) in
            let now = noted w (suc here) (moments (suc here)) (labels (suc here)) is (count (suc here)) was in
            let one = set_here lanes here c.note_lane.new.lane lane within
            (ap (slice_get (set lanes here c.note_lane.new.lane)) (sym same) ∙ at) in
            let beat = c.args.beat in
            subst (λ n. IsLane (suc n) (moments (suc n) ++ moment_of beat.end w (suc n) ∷ [])
            (labels (suc n) ++ labels_by (moment_of beat.end w (suc n)) beat.step w (suc n)) lane)
            (sym same)
            (subst (λ l. IsLane (suc here) (moments (suc here) ++ moment_of beat.end w (suc here) ∷ [])
            (labels (suc here) ++ labels_by (moment_of beat.end w (suc here)) beat.step w (suc here)) l)
            one now)
      ];
      rest = λ k above.
          let apart : k ≢ here = λ e. omega (arith, e, above) in
          let later : here ≤ k = omega (arith, above) in
          set_there lanes here k c.note_lane.new.lane apart ∙ c.loop-place.invariant.rest k later;
    }

pub returns-clause-noted : goal.returns-clause-noted
returns-clause-noted g c = λ w moments labels is count are.
    let beat = c.args.beat in
    as_lanes (λ context. moments context ++ moment_of beat.end w context ∷ [])
    (λ context. labels context ++ labels_by (moment_of beat.end w context) beat.step w context)
    c.loop-place.lanes.items
    (λ k lane at. c.loop-place.invariant.done w moments labels is count are k lane
    (omega (
      arith,
      slice_get_within c.loop-place.lanes.items k lane at,
      c.loop-place.invariant.count,
      c.loop-place-test.false,
      c.len-place-end.ensures,
    )) at)

use Rattle.std.proofs.Common.{◌∙◌, arith}
use Rattle.ps_states.specs.Waits.{status_in, waits_text}
use Rattle.ps_states.proofs.Each.{each_more, each_told, made_all}
use Rattle.ps_states.proofs.waits.append_waits.Goals as goal

pub append_status_at-requires : goal.append_status_at-requires
append_status_at-requires g c = record {
  steady = rw (
    c.loop-place.invariant.heap,
    c.loop-place.invariant.grants,
    c.loop-place.invariant.shared,
  ) c.requires.steady;
}

pub loop-place-preserved : goal.loop-place-preserved
loop-place-preserved g c =
    let h = g.M.Memory.heap c.args.runtime.now.memory in
    let names = c.args.runtime.now.shared.names in
    let told = c.in_ok-append_status_at.ensures.line in
    let line = rw (
      c.loop-place.invariant.heap,
      c.loop-place.invariant.grants,
      c.loop-place.invariant.shared,
    ) at told in
    record {
      heap = c.append_status_at.ensures.heap ∙ c.loop-place.invariant.heap;
      grants = c.append_status_at.ensures.grants ∙ c.loop-place.invariant.grants;
      shared = c.append_status_at.ensures.shared ∙ c.loop-place.invariant.shared;
      lines = λ w is.
          each_more (status_in w) w c.loop-place.place c.args.to.now.items c.loop-place.to.items
          c.append_status_at.new.to.items
          (omega (
            arith,
            c.loop-place-test.true,
            c.made-place-end.ensures.made,
            made_all h names c.args.crowd.now.contexts.now.table w is.contexts,
          ))
          (c.loop-place.invariant.lines w is) (line w is);
    }

pub returns-clause-lines : goal.returns-clause-lines
unfolding waits_text
returns-clause-lines g c = λ w is.
    let h = g.M.Memory.heap c.args.runtime.now.memory in
    let names = c.args.runtime.now.shared.names in
    each_told (status_in w) w c.loop-place.place c.args.to.now.items c.loop-place.to.items
    (omega (
      arith,
      c.loop-place-test.false,
      c.made-place-end.ensures.made,
      made_all h names c.args.crowd.now.contexts.now.table w is.contexts,
    ))
    (c.loop-place.invariant.lines w is)

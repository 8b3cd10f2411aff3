use Rattle.std.proofs.Common.{◌≡◌, ◌∙◌, length, sym, ap, arith}
use Rattle.ps_states.proofs.Each.{made_all}
use Rattle.ps_states.proofs.steps.known_of.Goals as goal

pub returns-clause-known : goal.returns-clause-known
returns-clause-known g c = λ w is.
    let h = g.M.Memory.heap c.args.runtime.now.memory in
    let names = c.args.runtime.now.shared.names in
    let ready = c.is_ready-is_made.ensures in
    let next_heap = c.step_next.ensures.heap ∙ ready.heap in
    let next_grants = c.step_next.ensures.grants ∙ ready.grants in
    let next_shared = c.step_next.ensures.shared ∙ ready.shared in
    let heap = c.locks_at.ensures.heap ∙ next_heap in
    let grants = c.locks_at.ensures.grants ∙ next_grants in
    let shared = c.locks_at.ensures.shared ∙ next_shared in
    let all = made_all h names c.args.crowd.now.contexts.now.table w is.contexts in
    let made : c.made.result ≡ length w.contexts = omega (arith, all, c.made.ensures.made) in
    let comes = c.in_ok-next.ensures.next in
    let next = rw (ready.heap, ready.grants, ready.shared) at comes in
    let told = c.in_ok-locks.ensures.locks in
    let locks = rw (next_heap, next_grants, next_shared) at told in
    let stop = c.stops_at.ensures in
    let stops = rw (heap, grants, shared) at stop in
    let slice = c.as_slice.ensures in
    let printed = rw shared at slice in
    let bytes : length c.as_slice.result.now ≡ length w.printed = ap length (printed ∙ sym is.printed) in
    λ i. record {
      step = c.args.by.step;
      context = c.args.by.context;
      is_made = ready.ready w is i;
      next = next w is i;
      contexts = made i;
      printed = bytes i;
      locks = locks w is i;
      stops = stops w is i;
    }

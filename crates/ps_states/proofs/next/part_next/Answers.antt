use Rattle.std.proofs.Common.{◌≡◌, ℕ, List, Option, ◌++◌, ap, subst, ◌∙◌}
use Rattle.std.specs.Prelude.{IfOk}
use Rattle.ps_language.specs.Access.{part_bytes}
use Rattle.ps_mem.specs.Heap.{birth_at}
use Rattle.ps_mem.specs.Meaning.{part_of}
use Rattle.ps_places.specs.declared.positions.Position.{Position}
use Rattle.ps_states.specs.Charts.{object_position, next_token}
use Rattle.ps_states.specs.Chosen.{chart_of, next_shown}
use Rattle.ps_states.specs.Next.{string_next}
use Rattle.ps_states.proofs.next.part_next.Goals as goal

pub returns-clause-next : goal.returns-clause-next
returns-clause-next g c = λ names s shows fits.
    let h = g.M.Memory.heap c.args.memory.now in
    let chart = chart_of c.args.chart.now in
    let told = c.in_ok-append_bytes.ensures.value in
    let read = rw c.birth_of.ensures.heap at told in
    let items = read names s shows fits in
    let text : c.as_slice.result.now ≡ part_bytes s (part_of (birth_at h) c.args.part) =
    c.as_slice.ensures.value ∙ items
    ∙ ap (λ front. front ++ part_bytes s (part_of (birth_at h) c.args.part)) c.new-text.ensures.items in
    let position : c.object_position-position.result ≡ object_position chart (birth_at h c.args.part.address) =
    c.object_position-position.ensures ∙ ap (object_position chart) c.birth_of.ensures.birth in
    subst (λ (t : List ℕ). IfOk c.string_next.result (λ next. next_shown next
    ≡ string_next (object_position chart (birth_at h c.args.part.address)) t (next_token t c.args.at))) text
    (subst (λ (p : Option Position). IfOk c.string_next.result (λ next. next_shown next
    ≡ string_next p c.as_slice.result.now (next_token c.as_slice.result.now c.args.at))) position
    c.string_next.ensures)

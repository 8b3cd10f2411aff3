use Rattle.std.proofs.Common.{arith, ap, ◌∙◌, length, length-append}
use Rattle.ps_ops_state.proofs.Acting.{raised_acts}
use Rattle.ps_ops_state.proofs.Lifts.{held}
use Rattle.ps_ops_operands.proofs.Tops.{top_values}
use Rattle.ps_ops_dictionaries.proofs.Ending.{end_raises, end_unmet, end_refused, end_noted}
use Rattle.ps_ops_dictionaries.proofs.Pairing.{end_roomless, end_made}
use Rattle.ps_ops_dictionaries.proofs.literals.end_dict.Goals as goal

pub returns-in-Err : goal.returns-in-Err
returns-in-Err g c =
    rw (c.test_elements.ensures.heap, c.test_elements.ensures.grants)
    (record {
      acts = raised_acts _ _ _ _ c.requires.good _
          (end_raises _ c.in-Some.depth c.in-Some.ensures.found _ c.topmost-elements.ensures _
          c.in-Err.ensures.error);
    })

pub form_names-requires-clause-held : goal.form_names-requires-clause-held
form_names-requires-clause-held g c = rw c.test_elements.ensures.heap
    (top_values (g.M.Memory.heap c.args.runtime.now.memory) c.args.context.now.operands c.in-Some.depth _
    c.requires.good.operands c.topmost-elements.ensures)

pub returns-in-Err-form_names : goal.returns-in-Err-form_names
returns-in-Err-form_names g c =
    let fault = rw c.test_elements.ensures.heap at c.in-Err-form_names.ensures.fault in
    rw (
      c.form_names.ensures.heap,
      c.form_names.ensures.grants,
      c.test_elements.ensures.heap,
      c.test_elements.ensures.grants,
    )
    (record {
      acts = end_unmet _ c.in-Some.depth c.in-Some.ensures.found _ c.topmost-elements.ensures
          c.in_default-test_elements.ensures.tested c.requires.good c.args.attempt
          c.in_default-test_elements.ensures.fits _ fault c.form_names.ensures.more.0 _ _
          c.form_names.ensures.more.1 c.len-count.result c.len-count.ensures.count
          c.truncate.ensures;
    })

pub returns-then-len-count : goal.returns-then-len-count
returns-then-len-count g c =
    let met = rw c.test_elements.ensures.heap at c.in_default-form_names.ensures.met in
    let now = c.len.ensures.count in
    let then = c.len-count.ensures.count in
    let same = c.if-len-count.true in
    rw (
      c.form_names.ensures.heap,
      c.form_names.ensures.grants,
      c.test_elements.ensures.heap,
      c.test_elements.ensures.grants,
    )
    (record {
      acts = end_refused _ c.in-Some.depth c.in-Some.ensures.found _ c.topmost-elements.ensures
          c.in_default-test_elements.ensures.tested c.requires.good c.args.attempt c.if-attempt.true
          c.form_names.ensures.more.0 _ c.form_names.ensures.more.1 met
          c.form_names.ensures.names (omega (arith, now, then, same));
    })

pub returns-then-attempt : goal.returns-then-attempt
returns-then-attempt g c =
    let met = rw c.test_elements.ensures.heap at c.in_default-form_names.ensures.met in
    let now = c.len.ensures.count in
    let then = c.len-count.ensures.count in
    let other = c.if-len-count.false in
    let size = ap length c.form_names.ensures.more.1
    ∙ length-append c.args.runtime.now.shared.names c.form_names.ensures.more.0 in
    let logs = rw (c.form_names.ensures.grants, c.test_elements.ensures.grants)
    at c.refuse.ensures.logs in
    let refused = rw (
      c.form_names.ensures.heap,
      c.form_names.ensures.grants,
      c.test_elements.ensures.heap,
      c.test_elements.ensures.grants,
    ) at c.refuse.ensures.refused in
    rw (c.refuse.ensures.heap, c.form_names.ensures.heap, c.test_elements.ensures.heap)
    (record {
      acts = end_noted _ c.in-Some.depth c.in-Some.ensures.found _ c.topmost-elements.ensures
          c.in_default-test_elements.ensures.tested c.requires.good c.args.attempt c.if-attempt.true
          c.form_names.ensures.more.0 _ c.form_names.ensures.more.1 met
          c.form_names.ensures.names (omega (arith, now, then, other, size)) _ logs _
          c.len-count.result c.len-count.ensures.count _ refused;
    })

pub make_pairs-requires-clause-ready : goal.make_pairs-requires-clause-ready
make_pairs-requires-clause-ready g c =
    rw (c.form_names.ensures.heap, c.test_elements.ensures.heap) (held c.requires.good)

pub returns-in-Err-make_pairs : goal.returns-in-Err-make_pairs
returns-in-Err-make_pairs g c =
    let unmade = rw (c.form_names.ensures.heap, c.test_elements.ensures.heap)
    at c.in-Err-make_pairs.ensures.unmade in
    let logs = rw (c.form_names.ensures.grants, c.test_elements.ensures.grants)
    at c.make_pairs.ensures.logs in
    rw (unmade.0, unmade.1)
    (record {
      acts = end_roomless _ c.in-Some.depth c.in-Some.ensures.found _ c.topmost-elements.ensures
          (omega (arith, c.in-Some.ensures.bound)) c.in_default-test_elements.ensures.even
          c.in_default-test_elements.ensures.tested c.requires.good c.args.attempt c.if-attempt.false
          _ (record c.args.runtime.now.shared.scratch { words = c.make_pairs.new.words })
          (record {
            text = omega arith;
            sought = omega arith;
            words = c.make_pairs.ensures.room;
          })
          (record {
            text = c.requires.good.empty.text;
            sought = c.requires.good.empty.sought;
            words = c.make_pairs.ensures.empty;
          }) (logs c.args.attempt.slot) _ unmade.2 c.form_names.ensures.more.0 _ _
          c.form_names.ensures.more.1 c.len-count.result c.len-count.ensures.count
          c.truncate-in-Err-make_pairs.ensures;
    })

pub returns : goal.returns
returns g c =
    let met = rw c.test_elements.ensures.heap at c.in_default-form_names.ensures.met in
    let logs = rw (c.form_names.ensures.grants, c.test_elements.ensures.grants)
    at c.make_pairs.ensures.logs in
    let ready = c.in_default-make_pairs.ensures.ready in
    let keeps = rw (c.form_names.ensures.heap, c.test_elements.ensures.heap)
    at c.in_default-make_pairs.ensures.keeps in
    let left = rw (c.form_names.ensures.heap, c.test_elements.ensures.heap)
    at c.in_default-make_pairs.ensures.left in
    record {
      acts = end_made _ c.in-Some.depth c.in-Some.ensures.found _ c.topmost-elements.ensures
          (omega (arith, c.in-Some.ensures.bound)) c.in_default-test_elements.ensures.even
          c.in_default-test_elements.ensures.tested c.requires.good c.args.attempt c.if-attempt.false
          _ (record c.args.runtime.now.shared.scratch { words = c.make_pairs.new.words })
          (record {
            text = omega arith;
            sought = omega arith;
            words = c.make_pairs.ensures.room;
          })
          (record {
            text = c.requires.good.empty.text;
            sought = c.requires.good.empty.sought;
            words = c.make_pairs.ensures.empty;
          }) (logs c.args.attempt.slot) c.form_names.ensures.more.0 _
          c.form_names.ensures.more.1 met c.form_names.ensures.names _ _ keeps ready
          (λ s pairs shows within met_again are. left s pairs shows within met_again are);
    }

-- The pairs are put together and written, or one of the errors, or there is a lack.
use Rattle.std.proofs.Common.{◌≤◌, arith, sym, ◌∙◌, inl, inr}
use Rattle.std.specs.Prelude.{vec_capacity}
use Rattle.ps_language.specs.declared.errors.ErrorName.TheVariants.{InvalidAccess, LimitCheck}
use Rattle.ps_ops_state.proofs.Acting.{raised_acts}
use Rattle.ps_ops_dictionaries.proofs.Copying.{target_stands, source_stands, copy_hidden, copy_full, copy_refused}
use Rattle.ps_ops_dictionaries.proofs.Copying.{copy_roomless, copy_lacking, copy_acts}
use Rattle.ps_ops_dictionaries.proofs.copies.copy_dictionary.Goals as goal

pub access-readable-requires-clause-known : goal.access-readable-requires-clause-known
access-readable-requires-clause-known g c = source_stands _ c.requires.good _ _
    c.requires.operands _ _ c.requires.target c.requires.source

pub access-writable-requires-clause-known : goal.access-writable-requires-clause-known
access-writable-requires-clause-known g c = rw c.access-readable.ensures.heap
    (target_stands _ c.requires.good _ _ c.requires.operands _ _ c.requires.target
    c.requires.source)

pub test_merge-requires-clause-target : goal.test_merge-requires-clause-target
test_merge-requires-clause-target g c =
    rw (c.access-writable.ensures.heap, c.access-readable.ensures.heap)
    (target_stands _ c.requires.good _ _ c.requires.operands _ _ c.requires.target
    c.requires.source)

pub test_merge-requires-clause-source : goal.test_merge-requires-clause-source
test_merge-requires-clause-source g c =
    rw (c.access-writable.ensures.heap, c.access-readable.ensures.heap)
    (source_stands _ c.requires.good _ _ c.requires.operands _ _ c.requires.target
    c.requires.source)

pub plan_merge-requires-clause-target : goal.plan_merge-requires-clause-target
plan_merge-requires-clause-target g c =
    rw (c.test_merge.ensures.heap, c.access-writable.ensures.heap, c.access-readable.ensures.heap)
    (target_stands _ c.requires.good _ _ c.requires.operands _ _ c.requires.target
    c.requires.source)

pub plan_merge-requires-clause-source : goal.plan_merge-requires-clause-source
plan_merge-requires-clause-source g c =
    rw (c.test_merge.ensures.heap, c.access-writable.ensures.heap, c.access-readable.ensures.heap)
    (source_stands _ c.requires.good _ _ c.requires.operands _ _ c.requires.target
    c.requires.source)

pub put_merged-requires-clause-target : goal.put_merged-requires-clause-target
put_merged-requires-clause-target g c =
    rw (
      c.asked.ensures.heap,
      c.plan_merge.ensures.heap,
      c.test_merge.ensures.heap,
      c.access-writable.ensures.heap,
      c.access-readable.ensures.heap,
    )
    (target_stands _ c.requires.good _ _ c.requires.operands _ _ c.requires.target
    c.requires.source)

pub put_merged-requires-clause-source : goal.put_merged-requires-clause-source
put_merged-requires-clause-source g c =
    rw (
      c.asked.ensures.heap,
      c.plan_merge.ensures.heap,
      c.test_merge.ensures.heap,
      c.access-writable.ensures.heap,
      c.access-readable.ensures.heap,
    )
    (source_stands _ c.requires.good _ _ c.requires.operands _ _ c.requires.target
    c.requires.source)

pub returns-then-not-may_copy : goal.returns-then-not-may_copy
returns-then-not-may_copy g c =
    let target_access = rw c.access-readable.ensures.heap at c.access-writable.ensures.value in
    rw (
      c.access-writable.ensures.heap,
      c.access-writable.ensures.grants,
      c.access-readable.ensures.heap,
      c.access-readable.ensures.grants,
    )
    (record {
      acts = raised_acts _ _ _ _ c.requires.good InvalidAccess
          (copy_hidden _ c.requires.good _ _ c.requires.operands _ _ c.requires.target
          c.requires.source _ _ c.access-readable.ensures.value target_access
          (sym c.may_copy.ensures ∙ c.if-not-may_copy.true));
    })

pub returns-in-Err : goal.returns-in-Err
returns-in-Err g c =
    let target_access = rw c.access-readable.ensures.heap at c.access-writable.ensures.value in
    let error = rw (c.access-writable.ensures.heap, c.access-readable.ensures.heap)
    at c.in-Err.ensures.error in
    rw (
      c.test_merge.ensures.heap,
      c.test_merge.ensures.grants,
      c.access-writable.ensures.heap,
      c.access-writable.ensures.grants,
      c.access-readable.ensures.heap,
      c.access-readable.ensures.grants,
    )
    (record {
      acts = elim error [
        | inl full ↦ rw full.0
            (raised_acts _ _ _ _ c.requires.good LimitCheck λ store shown.
            copy_full _ c.requires.good _ _ c.requires.operands _ _ c.requires.target
            c.requires.source _ _ c.access-readable.ensures.value target_access
            (sym c.may_copy.ensures ∙ c.if-not-may_copy.false) store shown full.1)
        | inr refused ↦ rw refused.0
            (copy_refused _ c.requires.good _ _ c.requires.operands _ _ c.requires.target
            c.requires.source _ _ c.access-readable.ensures.value target_access
            (sym c.may_copy.ensures ∙ c.if-not-may_copy.false) refused.1 c.args.attempt refused.2
            refused.3)
      ];
    })

pub returns-in_default-plan_merge : goal.returns-in_default-plan_merge
returns-in_default-plan_merge g c =
    let target_access = rw c.access-readable.ensures.heap at c.access-writable.ensures.value in
    let possible = rw (c.access-writable.ensures.heap, c.access-readable.ensures.heap)
    at c.in_default.ensures.possible in
    let room = rw (c.access-writable.ensures.heap, c.access-readable.ensures.heap)
    at c.in_default.ensures.room in
    let short = rw (
      c.test_merge.ensures.heap,
      c.access-writable.ensures.heap,
      c.access-readable.ensures.heap,
    ) at c.in_default-plan_merge.ensures.short in
    rw (
      c.plan_merge.ensures.heap,
      c.plan_merge.ensures.grants,
      c.test_merge.ensures.heap,
      c.test_merge.ensures.grants,
      c.access-writable.ensures.heap,
      c.access-writable.ensures.grants,
      c.access-readable.ensures.heap,
      c.access-readable.ensures.grants,
    )
    (record {
      acts = copy_roomless _ c.requires.good _ _ c.requires.operands _ _ c.requires.target
          c.requires.source _ _ c.access-readable.ensures.value target_access
          (sym c.may_copy.ensures ∙ c.if-not-may_copy.false) possible c.args.attempt room _
          (record {
            text = omega arith;
            sought = omega arith;
            words = c.in_default-plan_merge.ensures.room;
          })
          (record {
            text = c.requires.good.empty.text;
            sought = c.requires.good.empty.sought;
            words = c.in_default-plan_merge.ensures.empty;
          }) short;
    })

pub returns-in-Ok-asked : goal.returns-in-Ok-asked
returns-in-Ok-asked g c =
    let target_access = rw c.access-readable.ensures.heap at c.access-writable.ensures.value in
    let possible = rw (c.access-writable.ensures.heap, c.access-readable.ensures.heap)
    at c.in_default.ensures.possible in
    let room = rw (c.access-writable.ensures.heap, c.access-readable.ensures.heap)
    at c.in_default.ensures.room in
    let plan = rw (
      c.test_merge.ensures.heap,
      c.access-writable.ensures.heap,
      c.access-readable.ensures.heap,
    ) at c.in-Ok.ensures.plan in
    let logs = rw (
      c.plan_merge.ensures.grants,
      c.test_merge.ensures.grants,
      c.access-writable.ensures.grants,
      c.access-readable.ensures.grants,
    ) at c.asked.ensures.logs in
    let grown = c.plan_merge.ensures.room in
    let same = c.clear.ensures.capacity in
    let kept : vec_capacity c.args.runtime.now.shared.scratch.words ≤ vec_capacity c.clear.new.self =
    omega (arith, grown, same) in
    let change = rw plan at c.put_merged.ensures.grants in
    let keeps = rw (
      c.asked.ensures.heap,
      c.plan_merge.ensures.heap,
      c.test_merge.ensures.heap,
      c.access-writable.ensures.heap,
      c.access-readable.ensures.heap,
    ) at c.put_merged.ensures.keeps in
    let shows = rw (
      c.asked.ensures.heap,
      c.plan_merge.ensures.heap,
      c.test_merge.ensures.heap,
      c.access-writable.ensures.heap,
      c.access-readable.ensures.heap,
    ) at c.put_merged.ensures.shows in
    rw c.replace.ensures
    (record {
      acts = copy_acts _ c.requires.good _ _ c.requires.operands _ _ c.requires.target
          c.requires.source _ _ c.access-readable.ensures.value target_access
          (sym c.may_copy.ensures ∙ c.if-not-may_copy.false) possible c.args.attempt room
          (record c.args.runtime.now.shared.scratch { words = c.clear.new.self })
          (record { text = omega arith; sought = omega arith; words = kept })
          (record {
            text = c.requires.good.empty.text;
            sought = c.requires.good.empty.sought;
            words = c.clear.ensures.items;
          }) _ _ _ c.put_merged.ensures.sound keeps logs change
          (λ store shown. shows _ store shown.shows c.requires.good.names.different);
    })

pub returns-in-Err-asked : goal.returns-in-Err-asked
returns-in-Err-asked g c =
    let target_access = rw c.access-readable.ensures.heap at c.access-writable.ensures.value in
    let possible = rw (c.access-writable.ensures.heap, c.access-readable.ensures.heap)
    at c.in_default.ensures.possible in
    let room = rw (c.access-writable.ensures.heap, c.access-readable.ensures.heap)
    at c.in_default.ensures.room in
    let plan = rw (
      c.test_merge.ensures.heap,
      c.access-writable.ensures.heap,
      c.access-readable.ensures.heap,
    ) at c.in-Ok.ensures.plan in
    let logs = rw (
      c.plan_merge.ensures.grants,
      c.test_merge.ensures.grants,
      c.access-writable.ensures.grants,
      c.access-readable.ensures.grants,
    ) at c.asked.ensures.logs in
    let grown = c.plan_merge.ensures.room in
    let same = c.clear-in-Err-asked.ensures.capacity in
    let kept : vec_capacity c.args.runtime.now.shared.scratch.words
    ≤ vec_capacity c.clear-in-Err-asked.new.self = omega (arith, grown, same) in
    let lack = rw (
      c.records.ensures,
      c.words.ensures,
      plan,
      c.plan_merge.ensures.heap,
      c.plan_merge.ensures.grants,
      c.test_merge.ensures.heap,
      c.test_merge.ensures.grants,
      c.access-writable.ensures.heap,
      c.access-writable.ensures.grants,
      c.access-readable.ensures.heap,
      c.access-readable.ensures.grants,
    ) at c.in-Err-asked.ensures.reason in
    rw (
      c.asked.ensures.heap,
      c.plan_merge.ensures.heap,
      c.test_merge.ensures.heap,
      c.access-writable.ensures.heap,
      c.access-readable.ensures.heap,
    )
    (record {
      acts = copy_lacking _ c.requires.good _ _ c.requires.operands _ _ c.requires.target
          c.requires.source _ _ c.access-readable.ensures.value target_access
          (sym c.may_copy.ensures ∙ c.if-not-may_copy.false) possible c.args.attempt room
          (record c.args.runtime.now.shared.scratch { words = c.clear-in-Err-asked.new.self })
          (record { text = omega arith; sought = omega arith; words = kept })
          (record {
            text = c.requires.good.empty.text;
            sought = c.requires.good.empty.sought;
            words = c.clear-in-Err-asked.ensures.items;
          }) _ logs _ lack;
    })

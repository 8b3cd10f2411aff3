-- The key is taken out, or was absent, or there is a lack.
use Rattle.std.proofs.Common.{arith, sym}
use Rattle.ps_ops_dictionaries.proofs.Removing.{absent_acts, roomless_acts, recordless_acts, removed_acts}
use Rattle.ps_ops_dictionaries.proofs.removals.remove_key.Goals as goal

pub returns-in_default : goal.returns-in_default
returns-in_default g c =
    rw (c.discard.ensures, c.position.ensures.heap, c.position.ensures.grants)
    (record {
      acts = λ attempt slot inside. absent_acts _ c.requires.good c.args.address c.args.key
          c.requires.known c.position.result
          (λ store shown. c.position.ensures.value _ store shown.shows c.requires.good.names.different
          (inside store shown)) attempt c.in_default.is;
    })

pub returns-in-Err : goal.returns-in-Err
returns-in-Err g c = record {
  acts = λ attempt slot inside.
      let logs = rw (
        sym slot,
        c.removal_records-records.ensures.grants,
        c.position.ensures.grants,
      ) at c.in-Err.ensures.logs in
      let lack = rw (
        sym slot,
        c.removal_records-records.ensures.answer,
        c.removal_records-records.ensures.heap,
        c.removal_records-records.ensures.grants,
        c.position.ensures.heap,
        c.position.ensures.grants,
      ) at c.in-Err.ensures.reason in
      rw (c.asked.ensures.heap, c.removal_records-records.ensures.heap, c.position.ensures.heap)
      (recordless_acts _ c.requires.good c.args.address c.args.key c.requires.known
      c.position.result
      (λ store shown. c.position.ensures.value _ store shown.shows c.requires.good.names.different
      (inside store shown)) attempt c.in-Some.place c.in-Some.is _ logs c.in-Err.reason lack);
}

pub returns-in-Err-remove : goal.returns-in-Err-remove
returns-in-Err-remove g c = record {
  acts = λ attempt slot inside.
      let logs = rw (
        sym slot,
        c.removal_records-records.ensures.grants,
        c.position.ensures.grants,
      ) at c.asked.ensures.logs in
      let short = rw (
        c.asked.ensures.heap,
        c.removal_records-records.ensures.heap,
        c.position.ensures.heap,
      ) at c.in-Err-remove.ensures.full in
      rw (
        c.in-Err-remove.ensures.unchanged.0,
        c.in-Err-remove.ensures.unchanged.1,
        c.asked.ensures.heap,
        c.removal_records-records.ensures.heap,
        c.position.ensures.heap,
      )
      (roomless_acts _ c.requires.good c.args.address c.args.key c.requires.known
      c.position.result
      (λ store shown. c.position.ensures.value _ store shown.shows c.requires.good.names.different
      (inside store shown)) attempt c.in-Some.place c.in-Some.is _ _ logs
      (record {
        text = omega arith;
        sought = omega arith;
        words = c.in-Err-remove.ensures.room;
      })
      (record {
        text = c.requires.good.empty.text;
        sought = c.requires.good.empty.sought;
        words = c.in-Err-remove.ensures.scratch;
      }) short);
}

pub returns-in-Ok : goal.returns-in-Ok
returns-in-Ok g c = record {
  acts = λ attempt slot inside.
      let logs = rw (
        sym slot,
        c.removal_records-records.ensures.grants,
        c.position.ensures.grants,
      ) at c.asked.ensures.logs in
      let change = rw (
        sym slot,
        c.asked.ensures.heap,
        c.removal_records-records.ensures.heap,
        c.position.ensures.heap,
      ) at c.in-Ok.ensures.grants in
      let keeps = rw (
        c.asked.ensures.heap,
        c.removal_records-records.ensures.heap,
        c.position.ensures.heap,
      ) at c.in-Ok.ensures.keeps in
      let shows = rw (
        c.asked.ensures.heap,
        c.removal_records-records.ensures.heap,
        c.position.ensures.heap,
      ) at c.in-Ok.ensures.shows in
      rw c.discard-in-Ok.ensures
      (removed_acts _ c.requires.good c.args.address c.args.key c.requires.known
      c.position.result
      (λ store shown. c.position.ensures.value _ store shown.shows c.requires.good.names.different
      (inside store shown)) attempt c.in-Some.place c.in-Some.is _ _ _ _ c.in-Ok.ensures.sound keeps
      logs change
      (record { text = omega arith; sought = omega arith; words = c.in-Ok.ensures.room })
      (record {
        text = c.requires.good.empty.text;
        sought = c.requires.good.empty.sought;
        words = c.in-Ok.ensures.scratch;
      }) (λ store shown at. shows _ store shown.shows _ at));
}

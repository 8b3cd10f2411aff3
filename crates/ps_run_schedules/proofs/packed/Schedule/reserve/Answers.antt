use Rattle.std.proofs.Common.{◌≡◌, ◌≤◌, ◌<◌, ◌+◌, ap, arith, length}
use Rattle.std.specs.Prelude.{Result, Ok, Err, OnErr, vec_len, vec_capacity}
use Rattle.std.proofs.lemmas.Result.{on_ok_weaker}
use Rattle.ps_run_schedules.specs.Packing.{items_in}
use Rattle.ps_run_schedules.proofs.Appends.{count_is}
use Rattle.ps_run_schedules.proofs.packed.Schedule.reserve.Goals as goal

on_err_both : {T E P Q R : Type 0} (r : Result T E) → (P → Q → R) → OnErr r P → OnErr r Q
    → OnErr r R
on_err_both (Ok x) both p q = tt
on_err_both (Err e) both p q = both p q

pub returns-clause-room : goal.returns-clause-room
returns-clause-room c =
    let inside = c.self.inside in
    let size = count_is inside.count inside.bytes.items inside.last c.self.invariant in
    let same = ap (λ bs. length (items_in inside.count bs inside.last)) c.reserve.ensures.items in
    on_ok_weaker c.reserve.result
    (λ (room : vec_len c.reserve.new.self + 44 ≤ vec_capacity c.reserve.new.self).
    omega (arith, size, same, room)) c.reserve.ensures.ok

pub returns-clause-full : goal.returns-clause-full
returns-clause-full c =
    let inside = c.self.inside in
    let size = count_is inside.count inside.bytes.items inside.last c.self.invariant in
    let same = ap (λ bs. length (items_in inside.count bs inside.last)) c.reserve.ensures.items in
    on_err_both c.reserve.result
    (λ (full : vec_capacity inside.bytes < vec_len inside.bytes + 44)
    (kept : vec_capacity c.reserve.new.self ≡ vec_capacity inside.bytes).
    omega (arith, size, same, full, kept)) c.reserve.ensures.full c.reserve.ensures.err

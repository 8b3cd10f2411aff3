-- Heads that are loaded, cycles that are opened, and logs that are closed.
use Rattle.std.proofs.Common.{◌≡◌, ◌≢◌, ◌^◌, ℕ, ◌+◌, ◌-◌, ◌<◌, ◌≤◌, ◌&&◌, true, false, not, List, [], ◌∷◌, ◌++◌, length}
use Rattle.std.proofs.Common.{refl, sym, ap, ◌∙◌, inl, inr, subst, arith, cond}
use Rattle.std.specs.Prelude.{slice_index, nat_lt, min, ◌==◌, if◌then◌else◌}
use Rattle.std.proofs.lemmas.List.Sums.{sum_by_push}
use Rattle.std.proofs.lemmas.List.{get_or_past}
use native.Mathlib.Decide.{ℕ_discrete}
use Rattle.ps_record.specs.declared.Record.{Record}
use Rattle.ps_record.specs.declared.Record.TheVariants.{Close}
use Rattle.ps_core_machine.specs.declared.events.Vm.{Vm}
use Rattle.ps_core_machine.specs.Objects.{log_of, closes, is_close}
use Rattle.ps_core_machine.specs.Steps.{is_open, with_record}
use Rattle.ps_core_laws.specs.Kept.{VmKnows}
use Rattle.ps_core_laws.proofs.HeapTests.{bool_cases, eq_true, lt_true, lt_is, lt_not, number_is, number_not}
use Rattle.ps_core_laws.specs.Shown.{VmFinds}
use Rattle.ps_core_laws.specs.Memory.{records_left}
use Rattle.ps_core_laws.specs.MemoryLaws.{GrantsLogs, SeesHeads, Opens, ClosesLogs}
use Rattle.ps_core_laws.proofs.Facts.{VmFacts, facts}
use Rattle.ps_core_laws.proofs.Room.{and_not_right, part_seen, records_other, records_more}
use Rattle.ps_core_laws.proofs.Logged.{log_here, log_there, length_here}

pub sees_heads : (v : Vm) → VmFacts v → ((slot n : ℕ) → slot < 32 → VmFinds v (2 + slot) n
    → (slice_index v.heads slot ≤ n) × (n ≤ length (log_of v.logs slot))) → SeesHeads v
sees_heads v k found g slot n lt f =
    let wide = k.wide_heads in
    let b = found slot n lt f in
    let e = part_seen v g slot n lt in
    record {
      low = b.0;
      high = b.1;
      heap = refl;
      grants = refl;
      more = subst (λ (x : Vm). records_left v slot ≤ records_left x slot) (sym e)
          (records_more v slot n (omega arith) b.0);
      others = λ s ne. ap (λ (x : Vm). records_left x s) e ∙ records_other v slot n s ne;
      settled = refl;
    }

shut_epoch : (v : Vm) → VmFacts v → is_open v ≡ false → v.epoch ≡ v.cycle
shut_epoch v k out = let lo = k.opened_low in let hi = k.opened_high in
    elim (ℕ_discrete v.epoch v.cycle) [
      | yes e ↦ e
      | no ne ↦ let e : v.epoch ≡ v.cycle + 1 = omega arith in let t =
          eq_true v.epoch (v.cycle + 1) e in absurd (let b : true ≡ false = sym t ∙ out in cc)
    ]

-- a log that was never begun has no close
closes_none : (logs : List (List Record)) (slot : ℕ) → length logs ≤ slot
    → closes (log_of logs slot) ≡ 0
closes_none logs slot le = ap closes (get_or_past logs slot [] le)

-- no log was closed in a cycle to come
open_logs : (v : Vm) → VmKnows v → (slot : ℕ) → (closes (log_of v.logs slot) == v.epoch + 1) ≡ false
open_logs v knows slot = elim (bool_cases (nat_lt slot 32)) [
  | inl t ↦ let opened = (knows.logs.each slot (lt_is slot 32 t)).opened in
      number_not (closes (log_of v.logs slot)) (v.epoch + 1) (λ e. omega arith)
  | inr f ↦ let wide = knows.logs.logs in let far : 32 ≤ slot = lt_not slot 32 f in
      let none = closes_none v.logs slot (omega arith) in
      number_not (closes (log_of v.logs slot)) (v.epoch + 1) (λ e. omega arith)
]

pub opens : (v : Vm) → VmKnows v → Opens v
opens v knows g out small =
    let same = shut_epoch v (facts v knows) out in
    record {
      may = (same, small, knows.quiet out);
      heap = refl;
      grants = record {
        fresh = λ a. refl;
        words = refl;
        births = refl;
        cycle_open = eq_true (v.epoch + 1) (v.cycle + 1) (omega arith);
        put = refl;
        closed = λ slot. and_not_right _ _ (open_logs v knows slot);
      };
      logs = refl;
    }

pub closes_logs : (v : Vm) → VmKnows v → ClosesLogs v
closes_logs v knows g slot can =
    let is = can.opened in
    let low = can.in_range in
    let f : (closes (log_of v.logs slot) == v.epoch) ≡ false = rw is at can.not_shut in
    let log = knows.logs.each slot low in
    let flipped = log.flipped in let opened = log.opened in
    let wide = knows.logs.logs in
    let epoch = number_is v.epoch (v.cycle + 1) is in
    let ne : closes (log_of v.logs slot) ≢ v.epoch = λ e. let t =
    eq_true (closes (log_of v.logs slot)) v.epoch e in
    absurd (let b : true ≡ false = sym t ∙ f in cc) in
    let here = log_here v.logs slot Close (omega arith) in
    let there = λ (s : ℕ) (off : s ≢ slot). log_there v.logs slot Close s off in
    let more : closes (log_of v.logs slot ++ Close ∷ []) ≡ closes (log_of v.logs slot) + 1 =
    sum_by_push (λ x. cond (is_close x) 1 0) (log_of v.logs slot) Close in
    let whole : closes (log_of (with_record v.logs slot Close) slot) ≡ v.epoch =
    ap closes here ∙ (more ∙ omega arith) in
    let t = eq_true (closes (log_of (with_record v.logs slot Close) slot)) v.epoch whole in
    let below = lt_true slot 32 low in
    record {
      may = record {
        in_range = low;
        opened = is;
        not_closed = ne;
        room = can.room;
        short = tt;
        fits = tt;
        written = tt;
      };
      heap = refl;
      grants = record {
        fresh = λ a. refl;
        words = refl;
        births = refl;
        cycle_open = refl;
        records = rw (is, below, t) refl;
        records_others = λ s off. ap (λ (log : List Record). if is_open v
            then (if nat_lt s 32 && not (closes log == v.epoch)
            then min (slice_index v.heads s + 256) (2 ^ 63) - length log else 0)
            else 2 ^ 64) (there s off);
        put = length_here v.logs slot Close (omega arith);
        put_others = λ s off. ap length (there s off);
        closed = rw (is, t) refl;
        closed_others = λ s off.
            ap (λ (log : List Record). is_open v && (closes log == v.epoch)) (there s off);
      };
      logs = refl;
      settled = refl;
    }

pub grants : (v : Vm) → VmKnows v → GrantsLogs v
grants v knows slot lt is =
    let log = knows.logs.each slot lt in
    let below = lt_true slot 32 lt in
    record {
      shut = λ t. let t' = rw is at t in rw (is, below, t') refl;
      left = λ f. let f' = rw is at f in rw (is, below, f') refl;
    }

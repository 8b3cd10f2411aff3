-- A cycle is ended by a seat that has both sides.
use Rattle.std.proofs.Common.{◌≡◌, ◌≢◌, ℕ, ◌+◌, ◌-◌, ◌<◌, ◌≤◌, ◌&&◌, Bool, true, false, true≢false, not, List, [], ◌∷◌}
use Rattle.std.proofs.Common.{◌++◌, length, Some, None, Option, is_some, refl, sym, ap, ◌∙◌, inl, inr, subst, arith}
use Rattle.std.proofs.Common.{cond}
use Rattle.std.specs.Prelude.{◌==◌, slice_get}
use Rattle.std.specs.Prelude.{Result, Ok, Err}
use Rattle.std.proofs.lemmas.List.{append-nil}
use Rattle.std.proofs.Math.Logic.{∥∥₁_elim}
use Rattle.std.proofs.Props.{props}
use Rattle.std.proofs.lemmas.Option.{slice_get_within}
use Rattle.std.proofs.lemmas.List.Sums.{sum_by-append}
use Rattle.ps_record.specs.declared.Record.{Record}
use Rattle.ps_record.specs.declared.Record.TheVariants.{Close}
use Rattle.ps_record.specs.Format.{read_record}
use Rattle.ps_core_machine.specs.declared.events.Event.{Event}
use Rattle.ps_core_machine.specs.declared.events.Event.TheVariants.{VmLoad, RecordStore}
use Rattle.ps_core_machine.specs.declared.events.Vm.{Vm}
use Rattle.ps_core_machine.specs.declared.events.Gc.{Gc}
use Rattle.ps_core_machine.specs.declared.events.Pair.{Pair}
use Rattle.ps_core_machine.specs.Objects.{pair_of, log_of, closes, is_close}
use Rattle.ps_core_machine.specs.Steps.{is_open}
use Rattle.ps_core_laws.specs.Kept.{VmKnows, ends_closed}
use Rattle.ps_core_laws.specs.Laws.{IsBeginningOf}
use Rattle.ps_core_laws.specs.Runs.{run, IsRun, IsSpace}
use Rattle.ps_core_laws.proofs.HeapTests.{bool_cases, and_parts, and_both, eq_true, number_is, number_not}
use Rattle.ps_core_laws.proofs.KeptFacts.{kept}
use Rattle.ps_mem.proofs.Lists.{slice_get-append_end}
use Rattle.ps_core_laws.specs.declared.closing.Closing.{Closing}
use Rattle.ps_core_laws.specs.declared.closing.Closing.TheVariants.{LogFull, Closed as Closed'}
use Rattle.ps_core_laws.specs.Memory.{is_shut}
use Rattle.ps_core_laws.proofs.Logged.{length_here, log_there}
use Rattle.ps_table.specs.declared.plays.View.{View}
use Rattle.ps_table.specs.Mirrored.{KeepsGc, KeepsVm}
use Rattle.ps_table.specs.Shown.{BothRun, GcRuns, vm_did}
use Rattle.ps_table.proofs.Facts.{taken}
use Rattle.ps_gc.specs.declared.collector.Drained.{Drained}
use Rattle.ps_gc.specs.declared.collector.Drained.TheVariants.{Nothing, Took, Closed}
use Rattle.ps_gc.specs.Ending.{FindsNext, IsEnded, KeepsReplicas, Scans, StaysBut, record_found}
use Rattle.ps_gc.specs.Events.{Copied, DrainedOf, IsLike, is_drained}
use Rattle.ps_core_laws.specs.declared.tries.Unready.{Unready}
use Rattle.ps_core_laws.specs.declared.tries.Unready.TheVariants.{LogOpen, Undrained, Unscanned, RootNotCopied}
use Rattle.ps_gc.specs.Flipping.{Answers, AreDrained, MayFlip}
use Rattle.ps_gc.proofs.Flipping.{all_drained}

-- ---- scans

pub replicas_on : (ps qs : List Pair) → ((b : ℕ) (p : Pair) → pair_of ps b ≡ Some p
    → (q : Pair) × (pair_of qs b ≡ Some q) × IsLike p q) → KeepsReplicas ps qs
replicas_on ps qs like a some = go (pair_of ps a) refl some
  where
    go : (x : Option Pair) → pair_of ps a ≡ x → is_some x ≡ true
        → is_some (pair_of qs a) ≡ true
    go None e bad = absurd (true≢false (sym bad))
    go (Some p) e found = ap is_some (like a p e).1

pub scans_none : (g : Gc) → Scans g g
scans_none g = record { cycle = refl; epoch = refl; taken = refl; handed = refl; pairs = λ a e. e }

pub scans_one : (f g h : Gc) (a i : ℕ) → Scans f g → Copied g h a i true → Scans f h
scans_one f g h a i x y = record {
  cycle = y.cycle ∙ x.cycle;
  epoch = y.epoch ∙ x.epoch;
  taken = y.taken ∙ x.taken;
  handed = y.handed ∙ x.handed;
  pairs = λ b e. replicas_on g.pairs h.pairs y.pairs b (x.pairs b e);
}

pub not_unfilled : (b : Bool) → false ≡ not b → b ≡ true
not_unfilled true e = refl
not_unfilled false e = absurd (true≢false (sym e))

-- ---- what stays beside one log

pub stays_then : (slot : ℕ) (a b c : View) → StaysBut slot a b → StaysBut slot b c
    → StaysBut slot a c
stays_then slot a b c x y = record {
  epoch = y.epoch ∙ x.epoch;
  cycle = y.cycle ∙ x.cycle;
  gc_epoch = y.gc_epoch ∙ x.gc_epoch;
  gc_cycle = y.gc_cycle ∙ x.gc_cycle;
  handed = y.handed ∙ x.handed;
  stored = y.stored ∙ x.stored;
  logs = λ s ne. y.logs s ne ∙ x.logs s ne;
  taken = λ s ne. y.taken s ne ∙ x.taken s ne;
  pairs = λ p e. y.pairs p (x.pairs p e);
}

pub stays_same : (slot : ℕ) (m : View) → StaysBut slot m m
stays_same slot m = record {
  epoch = refl;
  cycle = refl;
  gc_epoch = refl;
  gc_cycle = refl;
  handed = refl;
  stored = refl;
  logs = λ s ne. refl;
  taken = λ s ne. refl;
  pairs = λ a e. e;
}

pub ended_on : (slot s : ℕ) (old new : View) → StaysBut slot old new → s ≢ slot → IsEnded old s
    → IsEnded new s
ended_on slot s old new x ne e = record {
  shut = (λ j. (x.epoch j == x.cycle j + 1) && (closes (x.logs s ne j) == x.epoch j)) ∙ e.shut;
  drained = (λ j. closes (x.taken s ne j) == x.gc_cycle j + 1) ∙ e.drained;
}

-- the mutator's side closes the log, or looks at its head
pub closes_but : (slot head : ℕ) (old new : View) → KeepsGc old new
    → new ≡ vm_did (vm_did old (VmLoad (2 + slot) head)) (RecordStore slot Close)
    → StaysBut slot old new
closes_but slot head old new k did = record {
  epoch = ap (λ (m : View). m.vm.epoch) did;
  cycle = ap (λ (m : View). m.vm.cycle) did;
  gc_epoch = ap (λ (g : Gc). g.epoch) k.part;
  gc_cycle = ap (λ (g : Gc). g.cycle) k.part;
  handed = ap (λ (g : Gc). g.handed) k.part;
  stored = ap (λ (m : View). m.vm.stored) did;
  logs = λ s ne. ap (λ (m : View). log_of m.vm.logs s) did
      ∙ log_there old.vm.logs slot Close s ne;
  taken = λ s ne. ap (λ (g : Gc). log_of g.taken s) k.part;
  pairs = λ a e. ap (λ (g : Gc). is_some (pair_of g.pairs a)) k.part ∙ e;
}

pub looks_but : (slot head : ℕ) (old new : View) → KeepsGc old new
    → new ≡ vm_did old (VmLoad (2 + slot) head) → StaysBut slot old new
looks_but slot head old new k did = record {
  epoch = ap (λ (m : View). m.vm.epoch) did;
  cycle = ap (λ (m : View). m.vm.cycle) did;
  gc_epoch = ap (λ (g : Gc). g.epoch) k.part;
  gc_cycle = ap (λ (g : Gc). g.cycle) k.part;
  handed = ap (λ (g : Gc). g.handed) k.part;
  stored = ap (λ (m : View). m.vm.stored) did;
  logs = λ s ne. ap (λ (m : View). log_of m.vm.logs s) did;
  taken = λ s ne. ap (λ (g : Gc). log_of g.taken s) k.part;
  pairs = λ a e. ap (λ (g : Gc). is_some (pair_of g.pairs a)) k.part ∙ e;
}

-- a record of the log is taken
pub drains_but : (slot : ℕ) (what : Record) (old new : View) → KeepsVm old new
    → DrainedOf old.gc new.gc slot what → StaysBut slot old new
drains_but slot what old new k d = record {
  epoch = ap (λ (v : Vm). v.epoch) k.part;
  cycle = ap (λ (v : Vm). v.cycle) k.part;
  gc_epoch = d.epoch;
  gc_cycle = d.cycle;
  handed = d.handed;
  stored = ap (λ (v : Vm). v.stored) k.part;
  logs = λ s ne. ap (λ (v : Vm). log_of v.logs s) k.part;
  taken = λ s ne. ap (λ (l : List (List Record)). log_of l s) d.taken
      ∙ log_there old.gc.taken slot what s ne;
  pairs = replicas_on old.gc.pairs new.gc.pairs d.pairs;
}

-- ---- the two sides of a run

-- they count the same cycles
pub cycles_meet : (v : Vm) (g : Gc) → BothRun v g → g.cycle ≡ v.cycle
cycles_meet v g r = ap (λ (x : Gc). x.cycle) (sym r.gc_is)
    ∙ ((kept v.space r.size r.events r.is_run).both.cycle ∙ ap (λ (x : Vm). x.cycle) r.vm_is)

-- ---- what a log has behind what was taken of it

begins : (v : Vm) (g : Gc) (slot : ℕ) → BothRun v g → slot < 32
    → IsBeginningOf (log_of g.taken slot) (log_of v.logs slot)
begins v g slot r lt = subst
    (λ (x : Vm × Gc). IsBeginningOf (log_of x.1.taken slot) (log_of x.0.logs slot))
    (λ i. (r.vm_is i, r.gc_is i)) (taken v.space r.size r.events r.is_run slot lt)

-- what a look at a log found, by the word that was found
pub finds_next : (found : Drained) (v : Vm) (g : Gc) (slot number word : ℕ) → BothRun v g
    → number ≡ length (log_of g.taken slot)
    → read_record number word ≡ slice_get (log_of v.logs slot) number
    → record_found found ≡ read_record number word → FindsNext found v g slot
finds_next found v g slot number word r is next e =
    record { runs = r; found = e ∙ (next ∙ ap (slice_get (log_of v.logs slot)) is) }

-- where nothing is found all is taken
none_behind : (xs ys rest : List Record) → ys ≡ xs ++ rest → None ≡ slice_get ys (length xs)
    → xs ≡ ys
none_behind xs ys [] is none = sym (is ∙ append-nil xs)
none_behind xs ys (r ∷ rest) is none =
    let at : slice_get (xs ++ r ∷ rest) (length xs) ≡ Some r = slice_get-append_end xs rest r in
    absurd (let bad : None ≡ Some r = none ∙ (ap (λ (l : List Record). slice_get l (length xs)) is
    ∙ at) in cc)

pub all_taken_of : (v : Vm) (g : Gc) (slot : ℕ) → slot < 32 → FindsNext Nothing v g slot
    → log_of g.taken slot ≡ log_of v.logs slot
all_taken_of v g slot lt f =
    let b = begins v g slot f.runs lt in
    none_behind (log_of g.taken slot) (log_of v.logs slot) b.0 b.1 f.found

ends_append : (xs : List Record) (r : Record) (rest : List Record)
    → ends_closed (xs ++ r ∷ rest) ≡ ends_closed (r ∷ rest)
ends_append [] r rest = refl
ends_append (x ∷ []) r rest = refl
ends_append (x ∷ y ∷ xs) r rest = ends_append (y ∷ xs) r rest

closes_append : (xs ys : List Record) → closes (xs ++ ys) ≡ closes xs + closes ys
closes_append xs ys = sum_by-append (λ x. cond (is_close x) 1 0) xs ys

ends_some : (log : List Record) → ends_closed log ≡ true → 1 ≤ closes log
ends_some [] e = absurd (true≢false (sym e))
ends_some (r ∷ []) e = rw e (omega arith)
ends_some (r ∷ s ∷ rest) e =
    let some = ends_some (s ∷ rest) e in
    let sum = closes_append (r ∷ []) (s ∷ rest) in
    omega arith

-- a log that is closed and whose close was taken was taken whole
whole_taken : (log got rest : List Record) → log ≡ got ++ rest → ends_closed log ≡ true
    → closes log ≡ closes got → got ≡ log
whole_taken log got [] is ends same = sym (is ∙ append-nil got)
whole_taken log got (r ∷ rest) is ends same =
    let last = sym (ends_append got r rest) ∙ (ap ends_closed (sym is) ∙ ends) in
    let some = ends_some (r ∷ rest) last in
    let sum = ap closes is ∙ closes_append got (r ∷ rest) in
    absurd (omega arith)

module _ (m : View) (r : BothRun m.vm m.gc) (opened : is_open m.vm ≡ true) where
  log_ended : (slot : ℕ) → slot < 32 → IsEnded m slot
      → (closes (log_of m.vm.logs slot) ≡ m.vm.epoch)
      × (length (log_of m.gc.taken slot) ≡ length (log_of m.vm.logs slot))
  log_ended slot lt e =
      let k = subst (λ (v : Vm). VmKnows v) r.vm_is
      (kept m.vm.space r.size r.events r.is_run).mutator in
      let cycle = cycles_meet m.vm m.gc r in
      let b = begins m.vm m.gc slot r lt in
      let open_is = number_is m.vm.epoch (m.vm.cycle + 1) opened in
      let shut = (and_parts (is_open m.vm)
      (closes (log_of m.vm.logs slot) == m.vm.epoch) e.shut).1 in
      let closed = number_is (closes (log_of m.vm.logs slot)) m.vm.epoch shut in
      let got = number_is (closes (log_of m.gc.taken slot)) (m.gc.cycle + 1) e.drained in (
        closed,
        ap length (whole_taken (log_of m.vm.logs slot) (log_of m.gc.taken slot) b.0 b.1
            ((k.logs.each slot lt).shut (omega arith) closed) (omega arith)),
      )

  -- so a flip finds all logs closed and drained
  pub logs_ended : ((slot : ℕ) → slot < 32 → IsEnded m slot) → AreDrained m.vm m.gc
  logs_ended all = (
    λ slot lt. (log_ended slot lt (all slot lt)).0,
    all_drained m.vm m.gc r (λ slot lt. (log_ended slot lt (all slot lt)).1),
  )

-- ---- what was taken of a log whose close was

ends_taken : (space : ℕ) → IsSpace space → (events : List Event) → IsRun space events
    → (slot : ℕ) → slot < 32 → let g = (run space events).gc in
    closes (log_of g.taken slot) ≡ g.cycle + 1 → ends_closed (log_of g.taken slot) ≡ true
ends_taken space size events is_run slot lt got =
    let s = run space events in
    let k = kept space size events is_run in
    let b = taken space size events is_run slot lt in
    let log = k.mutator.logs.each slot lt in
    let high = k.mutator.cycles.high in
    let cycle = k.both.cycle in
    let sum = ap closes b.1 ∙ closes_append (log_of s.gc.taken slot) b.0 in
    let most = log.opened in
    let closed : closes (log_of s.vm.logs slot) ≡ s.vm.epoch = omega arith in
    let ends = log.shut (omega arith) closed in
    ap ends_closed (whole_taken (log_of s.vm.logs slot) (log_of s.gc.taken slot) b.0 b.1 ends
    (omega arith)) ∙ ends

-- it ends with that close
pub drained_ends : (g : Gc) (slot : ℕ) → ∥ GcRuns g ∥₁ → slot < 32
    → closes (log_of g.taken slot) ≡ g.cycle + 1 → ends_closed (log_of g.taken slot) ≡ true
drained_ends g slot t lt got = ∥∥₁_elim t (hlevel props) (λ r. subst
    (λ (x : Gc). closes (log_of x.taken slot) ≡ x.cycle + 1
    → ends_closed (log_of x.taken slot) ≡ true) r.is
    (ends_taken g.space r.size r.events r.is_run slot lt) got)

-- ---- a full ring

-- where the log isn't closed, its close wasn't taken
pub not_drained : (v : Vm) (g : Gc) (slot : ℕ) → slot < 32 → BothRun v g → is_open v ≡ true
    → is_shut v slot ≡ false → is_drained g slot ≡ false
not_drained v g slot lt r opened open_log =
    let k = subst (λ (x : Vm). VmKnows x) r.vm_is (kept v.space r.size r.events r.is_run).mutator in
    let cycle = cycles_meet v g r in
    let open_is = number_is v.epoch (v.cycle + 1) opened in
    let b = begins v g slot r lt in
    let sum = ap closes b.1 ∙ closes_append (log_of g.taken slot) b.0 in
    let most = (k.logs.each slot lt).opened in
    number_not (closes (log_of g.taken slot)) (g.cycle + 1) (λ full.
    let whole : closes (log_of v.logs slot) ≡ v.epoch = omega arith in
    let t = eq_true (closes (log_of v.logs slot)) v.epoch whole in
    true≢false (sym (and_both (is_open v) (closes (log_of v.logs slot) == v.epoch) opened t)
    ∙ open_log))

-- behind a full ring that isn't closed a record is taken
pub full_takes : (v : Vm) (g h : Gc) (slot : ℕ) → slot < 32
    → length (log_of v.logs slot) ≡ length (log_of g.taken slot) + 256
    → (found : Drained) → FindsNext found v g slot
    → ((r : Record) → found ≡ Took r → DrainedOf g h slot r × (is_close r ≡ false))
    → (found ≡ Closed → DrainedOf g h slot Close)
    → (what : Record) × DrainedOf g h slot what
full_takes v g h slot lt full Nothing next took close =
    let same = ap length (all_taken_of v g slot lt next) in
    absurd (omega arith)
full_takes v g h slot lt full (Took what) next took close = (what, (took what refl).0)
full_takes v g h slot lt full Closed next took close = (Close, close refl)

-- so it is no longer full
pub one_free : (v w : Vm) (g h : Gc) (slot : ℕ) (what : Record) → slot < 32 → length g.taken ≡ 32
    → w ≡ v → length (log_of v.logs slot) ≡ length (log_of g.taken slot) + 256
    → DrainedOf g h slot what
    → length (log_of w.logs slot) ≡ length (log_of h.taken slot) + 256 → ⊥
one_free v w g h slot what lt wide same full d still =
    let logs = ap (λ (x : Vm). length (log_of x.logs slot)) same in
    let more = ap (λ (l : List (List Record)). length (log_of l slot)) d.taken
    ∙ length_here g.taken slot what (omega arith) in
    omega arith

-- what a call that closes a log leaves
pub close_stays : (slot : ℕ) (old new : View) (result : Closing) → KeepsGc old new
    → (is_shut old.vm slot ≡ true → new ≡ old)
    → (is_shut old.vm slot ≡ false → result ≡ Closed' → (head : ℕ) × (new
    ≡ vm_did (vm_did old (VmLoad (2 + slot) head)) (RecordStore slot Close)))
    → (result ≡ LogFull → (head : ℕ) × (new ≡ vm_did old (VmLoad (2 + slot) head)))
    → StaysBut slot old new
close_stays slot old new LogFull k already did looked =
    let x = looked refl in looks_but slot x.0 old new k x.1
close_stays slot old new Closed' k already did looked =
    elim (bool_cases (is_shut old.vm slot)) [
      | inl t ↦ subst (λ (m : View). StaysBut slot old m) (sym (already t)) (stays_same slot old)
      | inr f ↦ (let x = did f refl in closes_but slot x.0 old new k x.1)
    ]

-- a call that closes a log closes it where it doesn't find the ring full
pub is_closed : (A : Type 0) (result : Closing) → (result ≡ Closed' → A) → (result ≡ LogFull → ⊥)
    → A
is_closed A Closed' shut full = shut refl
is_closed A LogFull shut full = absurd (full refl)

-- ---- a closed log that is drained

-- the close was taken before, or is taken now
pub close_taken : (slot : ℕ) (old new : View) → KeepsVm old new
    → (is_drained old.gc slot ≡ true → new ≡ old)
    → (is_drained old.gc slot ≡ false → DrainedOf old.gc new.gc slot Close)
    → StaysBut slot old new
close_taken slot old new k already close = elim (bool_cases (is_drained old.gc slot)) [
  | inl t ↦ subst (λ (m : View). StaysBut slot old m) (sym (already t)) (stays_same slot old)
  | inr f ↦ drains_but slot Close old new k (close f)
]

module _ (slot : ℕ) (found : Drained) (open_log : found ≡ Closed → ⊥)
    (some : found ≡ Nothing → ⊥) (old new : View) (k : KeepsVm old new)
    (took : (r : Record) → found ≡ Took r
    → DrainedOf old.gc new.gc slot r × (is_close r ≡ false)) where
  pub record_taken : (what : Record) × (found ≡ Took what) × DrainedOf old.gc new.gc slot what
  record_taken = go found refl
    where
      go : (d : Drained) → found ≡ d
          → (what : Record) × (found ≡ Took what) × DrainedOf old.gc new.gc slot what
      go Nothing e = absurd (some e)
      go (Took what) e = (what, e, (took what e).0)
      go Closed e = absurd (open_log e)

  pub drain_stays : StaysBut slot old new
  drain_stays = drains_but slot record_taken.0 old new k record_taken.2

  -- fewer records are left
  pub drain_smaller : slot < 32 → length old.gc.taken ≡ 32
      → (is_drained old.gc slot ≡ true → found ≡ Closed)
      → (is_drained old.gc slot ≡ false → FindsNext found old.vm old.gc slot)
      → length (log_of new.vm.logs slot) - length (log_of new.gc.taken slot)
      < length (log_of old.vm.logs slot) - length (log_of old.gc.taken slot)
  drain_smaller lt wide already next =
      let t = record_taken in
      let left : is_drained old.gc slot ≡ false = elim (bool_cases (is_drained old.gc slot))
      [ inl t ↦ absurd (open_log (already t)) | inr f ↦ f ] in
      let at : slice_get (log_of old.vm.logs slot) (length (log_of old.gc.taken slot))
      ≡ Some t.0 = sym (next left).found ∙ ap record_found t.1 in
      let below = slice_get_within (log_of old.vm.logs slot) (length (log_of old.gc.taken slot))
      t.0 at in
      let logs = ap (λ (v : Vm). length (log_of v.logs slot)) k.part in
      let more = ap (λ (l : List (List Record)). length (log_of l slot)) t.2.taken
      ∙ length_here old.gc.taken slot t.0 (omega arith) in
      omega arith

-- a closed log of which nothing is left is drained
pub shut_drained : (v : Vm) (g : Gc) (slot : ℕ) → slot < 32 → FindsNext Nothing v g slot
    → is_shut v slot ≡ true → is_drained g slot ≡ true
shut_drained v g slot lt f shut =
    let r = f.runs in
    let cycle = cycles_meet v g r in
    let p = and_parts (is_open v) (closes (log_of v.logs slot) == v.epoch) shut in
    let open_is = number_is v.epoch (v.cycle + 1) p.0 in
    let closed = number_is (closes (log_of v.logs slot)) v.epoch p.1 in
    let same = ap closes (all_taken_of v g slot lt f) in
    eq_true (closes (log_of g.taken slot)) (g.cycle + 1) (omega arith)

-- what was filled leaves the logs
pub ended_scanned : (slot : ℕ) (old new : View) → KeepsVm old new → Scans old.gc new.gc
    → IsEnded old slot → IsEnded new slot
ended_scanned slot old new k x e = record {
  shut = ap (λ (v : Vm). is_shut v slot) k.part ∙ e.shut;
  drained = (λ j. closes (log_of (x.taken j) slot) == x.cycle j + 1) ∙ e.drained;
}

-- ---- the flip

-- where all is ready a flip is made
pub must_flip : (v : Vm) (g : Gc) (roots : List ℕ) (result : Result Unit Unready) → MayFlip v g roots
    → Answers v g roots result → result ≡ Ok tt
must_flip v g roots (Ok tt) may a = refl
must_flip v g roots (Err LogOpen) may a = absurd (a may.0.0.0)
must_flip v g roots (Err Undrained) may a = absurd (a.1 may.0.0.1)
must_flip v g roots (Err Unscanned) may a = absurd (true≢false (sym may.0.1 ∙ a.1))
must_flip v g roots (Err RootNotCopied) may a = absurd (true≢false (sym may.1 ∙ a.1))

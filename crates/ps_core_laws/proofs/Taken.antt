-- Control words and logs while records are taken: a head is loaded, a record taken up, and taken.
use Rattle.std.proofs.Common.{◌≡◌, ◌≢◌, ℕ, ◌+◌, ◌-◌, ◌<◌, ◌≤◌, List, [], ◌∷◌, ◌++◌, length, Some, None, Option, refl}
use Rattle.std.proofs.Common.{sym, ap, ◌∙◌, inl, inr, subst, arith, length-set, length-append, true, false, nat_eq}
use Rattle.std.proofs.lemmas.List.{get_or-set_same, get_or-set_other}
use Rattle.std.proofs.lemmas.Bool.Decides.{nat_tests}
use Rattle.std.proofs.lemmas.Option.{slice_get_past}
use Rattle.std.specs.Prelude.{slice_get, slice_index, slice_set, nat_le, nat_lt, ◌&&◌}
use native.Mathlib.Decide.{ℕ_discrete, dec_lt}
use Rattle.ps_record.specs.declared.Record.{Record}
use Rattle.ps_record.specs.Format.{ring_place, lap_of, lap_in, read_record, record_in}
use Rattle.ps_core_machine.specs.declared.events.Half.{Half}
use Rattle.ps_core_machine.specs.Objects.{log_of}
use Rattle.ps_core_laws.specs.Laws.{IsBeginningOf}
use Rattle.ps_core_machine.specs.Steps.{heads_after, taken_up}
use Rattle.ps_core_laws.proofs.Lists.{next, get_some}
use Rattle.ps_core_laws.proofs.HeapTests.{bool_cases, and_parts, le_is, lt_is}
use Rattle.ps_core_laws.proofs.Rings.{ControlIs, IsTaking, LogsAre, RingsAre, lap_of-packed, log_of-other, log_of-same}
use Rattle.ps_core_laws.proofs.Rings.{off_word, record_in-packed}

-- ---- a head is loaded

pub logs_seen : (ws : List ℕ) (space cycle epoch place word : ℕ) (heads : List ℕ)
    (logs taken : List (List Record)) (taking : Option Half)
    → ControlIs ws space cycle epoch taken → LogsAre heads logs taken taking
    → slice_index ws place ≡ word → LogsAre (heads_after heads place word) logs taken taking
logs_seen ws space cycle epoch place word heads logs taken taking control h found =
    elim (bool_cases (nat_le 2 place && nat_lt place 34)) [
      | inr off ↦ rw off h
      | inl at ↦
          let p = and_parts (nat_le 2 place) (nat_lt place 34) at in
          let low = le_is 2 place p.0 in let high = lt_is place 34 p.1 in
          let slot : ℕ = place - 2 in
          let there : 2 + slot ≡ place = omega arith in
          let is : word ≡ length (log_of taken slot) = sym found
          ∙ (ap (slice_index ws) (sym there) ∙ control.head_words slot (omega arith)) in
          let wide = h.wide_heads in
          let now : (t : ℕ) → t < 32
          → (slice_index heads t ≤ slice_index (slice_set heads slot word) t)
          × (slice_index (slice_set heads slot word) t ≤ length (log_of taken t)) = λ t lt.
          elim (ℕ_discrete t slot) as
          (λ _. (slice_index heads t ≤ slice_index (slice_set heads slot word) t)
          × (slice_index (slice_set heads slot word) t ≤ length (log_of taken t))) [
            | yes same ↦
                let e : slice_index (slice_set heads slot word) t ≡ length (log_of taken t) =
                ap (slice_index (slice_set heads slot word)) same
                ∙ (get_or-set_same heads slot word 0 (omega arith)
                ∙ (is ∙ ap (λ (z : ℕ). length (log_of taken z)) (sym same))) in
                let s = h.seen t lt in (omega arith, omega arith)
            | no ne ↦ let e : slice_index (slice_set heads slot word) t ≡ slice_index heads t =
                get_or-set_other heads slot t word 0 ne in let s = h.seen t lt in
                (omega arith, omega arith)
          ] in
          rw at record {
            wide_heads = length-set heads slot word ∙ h.wide_heads;
            wide_logs = h.wide_logs;
            wide_taken = h.wide_taken;
            begins = h.begins;
            seen = λ t lt. (now t lt).1;
            room = λ t lt. let a = (now t lt).0 in let b = h.room t lt in omega arith;
            takes = h.takes;
            fits = h.fits;
          }
    ]

-- ---- a record is being taken

begins_length : (xs ys : List Record) → IsBeginningOf xs ys → length xs ≤ length ys
begins_length xs ys p = omega (arith, ap length p.1, length-append xs p.0)

module _ (ws heads : List ℕ) (logs taken : List (List Record)) (taking : Option Half)
    (slot n : ℕ) (rings : RingsAre ws logs) (h : LogsAre heads logs taken taking) (lt : slot < 32)
    (at : slice_index ws (ring_place slot (length (log_of taken slot))) ≡ n) where
  -- the word at the next record's ring place reads as that record, and as none where there is none
  pub next_read : read_record (length (log_of taken slot)) n
      ≡ slice_get (log_of logs slot) (length (log_of taken slot))
  next_read =
      let k : ℕ = length (log_of taken slot) in
      let within = begins_length (log_of taken slot) (log_of logs slot) (h.begins slot lt) in
      let near = h.room slot lt in
      let seen = h.seen slot lt in
      elim (dec_lt k (length (log_of logs slot))) [
        | yes lt' ↦ let there = get_some (log_of logs slot) k lt' in
            let word = rings.written slot k there.0 lt there.1 (omega arith) in
            let fits = h.fits slot k there.0 lt there.1 in
            let lap : lap_in n ≡ lap_of k = ap lap_in (sym at ∙ word)
            ∙ lap_of-packed k there.0 fits in
            let same : record_in n ≡ there.0 = ap record_in (sym at ∙ word)
            ∙ record_in-packed k there.0 fits in
            let t : nat_eq (lap_in n) (lap_of k) ≡ true = grind (arith, nat_tests) in
            rw t (ap Some same ∙ sym there.1)
        | no ge ↦
            let off : lap_in n ≢ lap_of k =
            λ is. rings.unwritten slot k lt (omega arith) (omega arith) (ap lap_in at ∙ is) in
            let f : nat_eq (lap_in n) (lap_of k) ≡ false = grind (arith, nat_tests) in
            rw f (sym (slice_get_past (log_of logs slot) k (omega arith)))
      ]

  -- where the lap bit fits, that word is the next record
  pub found : (r : Record) → read_record (length (log_of taken slot)) n ≡ Some r
      → slice_get (log_of logs slot) (length (log_of taken slot)) ≡ Some r
  found r e = sym next_read ∙ e

pub logs_taking : (heads : List ℕ) (logs taken : List (List Record)) (taking : Option Half)
    (slot : ℕ) (o : Option Record) → LogsAre heads logs taken taking → slot < 32
    → ((r : Record) → o ≡ Some r
    → slice_get (log_of logs slot) (length (log_of taken slot)) ≡ Some r)
    → LogsAre heads logs taken (taken_up slot o)
logs_taking heads logs taken taking slot o h lt found = record {
  wide_heads = h.wide_heads;
  wide_logs = h.wide_logs;
  wide_taken = h.wide_taken;
  begins = h.begins;
  seen = h.seen;
  room = h.room;
  takes = λ q e. takes_up o found q e;
  fits = h.fits;
}
  where
    takes_up : (o : Option Record)
        → ((r : Record) → o ≡ Some r
        → slice_get (log_of logs slot) (length (log_of taken slot)) ≡ Some r) → (q : Half)
        → taken_up slot o ≡ Some q → IsTaking logs taken q
    takes_up None found q e = absurd (cc)
    takes_up (Some r) found q e =
        let same : record { slot = slot; what = r; loaded = 0 } ≡ q = cc in
        subst (IsTaking logs taken) same (record { in_range = lt; is_next = found r refl })

-- another load of the record's fields
pub logs_loaded : (heads : List ℕ) (logs taken : List (List Record)) (taking now : Option Half)
    → ((q : Half) → now ≡ Some q → (h : Half) × (taking ≡ Some h) × (h.slot ≡ q.slot)
    × (h.what ≡ q.what)) → LogsAre heads logs taken taking → LogsAre heads logs taken now
logs_loaded heads logs taken taking now from h = record {
  wide_heads = h.wide_heads;
  wide_logs = h.wide_logs;
  wide_taken = h.wide_taken;
  begins = h.begins;
  seen = h.seen;
  room = h.room;
  takes = λ q e. let f = from q e in let t = h.takes f.0 f.1 in record {
    in_range = subst (λ (z : ℕ). z < 32) f.2 t.in_range;
    is_next = ap (λ (z : ℕ). slice_get (log_of logs z) (length (log_of taken z))) (sym f.2)
        ∙ (t.is_next ∙ ap Some f.3);
  };
  fits = h.fits;
}

-- ---- a record is taken

module _ (ws : List ℕ) (space cycle epoch : ℕ) (heads : List ℕ) (logs taken : List (List Record))
    (q : Half) where
  after : List (List Record)
  after = slice_set taken q.slot (log_of taken q.slot ++ q.what ∷ [])

  after_same : length taken ≡ 32 → q.slot < 32 → log_of after q.slot ≡ log_of taken q.slot ++ q.what
      ∷ []
  unfolding after
  after_same wide lt = log_of-same taken q.slot (log_of taken q.slot ++ q.what ∷ []) (omega arith)

  after_other : (t : ℕ) → t ≢ q.slot → log_of after t ≡ log_of taken t
  unfolding after
  after_other t ne = log_of-other taken q.slot t (log_of taken q.slot ++ q.what ∷ []) ne

  after_length : length taken ≡ 32 → q.slot < 32
      → length (log_of after q.slot) ≡ length (log_of taken q.slot) + 1
  after_length wide lt = ap length (after_same wide lt)
      ∙ length-append (log_of taken q.slot) (q.what ∷ [])

  pub control_taken : ControlIs ws space cycle epoch taken → LogsAre heads logs taken (Some q)
      → ControlIs (slice_set ws (2 + q.slot) (length (log_of taken q.slot) + 1)) space cycle epoch
      (slice_set taken q.slot (log_of taken q.slot ++ q.what ∷ []))
  unfolding after
  control_taken c h =
      let lt = (h.takes q refl).in_range in
      let wide = c.wide in
      record {
        wide = length-set ws (2 + q.slot) (length (log_of taken q.slot) + 1) ∙ c.wide;
        cycle_word = off_word ws (2 + q.slot) 0 (length (log_of taken q.slot) + 1) cycle
            (λ e. omega arith) c.cycle_word;
        epoch_word = off_word ws (2 + q.slot) 1 (length (log_of taken q.slot) + 1) epoch
            (λ e. omega arith) c.epoch_word;
        head_words = λ t lt'. elim (ℕ_discrete t q.slot) [
          | yes is ↦ subst (λ (z : ℕ). slice_index
              (slice_set ws (2 + q.slot) (length (log_of taken q.slot) + 1)) (2 + z) ≡ length
              (log_of after z)) (sym is)
              (get_or-set_same ws (2 + q.slot) (length (log_of taken q.slot) + 1) 0 (omega arith)
              ∙ sym (after_length h.wide_taken lt))
          | no ne ↦ off_word ws (2 + q.slot) (2 + t) (length (log_of taken q.slot) + 1)
              (length (log_of after t)) (λ e. omega arith)
              (c.head_words t lt' ∙ ap length (sym (after_other t ne)))
        ];
      }

  pub logs_taken : LogsAre heads logs taken (Some q)
      → LogsAre heads logs (slice_set taken q.slot (log_of taken q.slot ++ q.what ∷ [])) None
  unfolding after
  logs_taken h =
      let t = h.takes q refl in
      let lt = t.in_range in
      record {
        wide_heads = h.wide_heads;
        wide_logs = h.wide_logs;
        wide_taken = length-set taken q.slot (log_of taken q.slot ++ q.what ∷ []) ∙ h.wide_taken;
        begins = λ s lt'. elim (ℕ_discrete s q.slot) [
          | yes is ↦ subst (λ (z : ℕ). IsBeginningOf (log_of after z) (log_of logs z)) (sym is)
              (let b = h.begins q.slot lt in
              let m = next (log_of taken q.slot) b.0 q.what
              (subst (λ (l : List Record). slice_get l (length (log_of taken q.slot)) ≡ Some
              q.what) b.1 t.is_next) in (
                m.0,
                b.1 ∙ (m.1 ∙ ap (λ (l : List Record). l ++ m.0)
                    (sym (after_same h.wide_taken lt))),
              ))
          | no ne ↦ let b = h.begins s lt' in
              (b.0, b.1 ∙ ap (λ (l : List Record). l ++ b.0) (sym (after_other s ne)))
        ];
        seen = λ s lt'. elim (ℕ_discrete s q.slot) [
          | yes is ↦ subst (λ (z : ℕ). slice_index heads z ≤ length (log_of after z)) (sym is)
              (let a = h.seen q.slot lt in let b = after_length h.wide_taken lt in omega arith)
          | no ne ↦ subst (λ (l : List Record). slice_index heads s ≤ length l)
              (sym (after_other s ne)) (h.seen s lt')
        ];
        room = h.room;
        takes = λ p e. absurd (cc);
        fits = h.fits;
      }

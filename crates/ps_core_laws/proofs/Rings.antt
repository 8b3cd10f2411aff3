-- Control words, rings and logs: what is kept of them, the start, stores elsewhere, a record more.
use Rattle.std.proofs.Common.{◌≡◌, ◌≢◌, ℕ, ◌+◌, ◌<◌, ◌≤◌, List, [], ◌∷◌, ◌++◌, length, Some, None, Option, refl, sym}
use Rattle.std.proofs.Common.{ap, ◌∙◌, inl, inr, subst, arith, length-set, length-append, append_assoc}
use Rattle.std.proofs.lemmas.List.{get_or-set_same, get_or-set_other, get_or-replicate, length-replicate}
use Rattle.std.proofs.lemmas.Option.{slice_get_within}
use Rattle.std.specs.Prelude.{slice_get, slice_index, slice_set, replicate}
use native.Mathlib.Decide.{ℕ_discrete}
use Rattle.ps_record.specs.declared.Record.{Record}
use Rattle.ps_record.specs.declared.Record.TheVariants.{Place, Close}
use Rattle.ps_record.specs.Format.{ring_place, lap_of, lap_in, packed, record_in, close_in, address_in, first_in}
use Rattle.ps_record.specs.Format.{count_in, IsRecord}
use Rattle.ps_core_machine.specs.declared.events.Half.{Half}
use Rattle.ps_core_machine.specs.Objects.{log_of}
use Rattle.ps_core_laws.specs.Laws.{IsBeginningOf}
use Rattle.ps_core_machine.specs.Steps.{table_size}
use Rattle.ps_core_laws.proofs.Lists.{get_snoc, get_front}

-- ---- what is kept

pub record ControlIs (ws : List ℕ) (space cycle epoch : ℕ) (taken : List (List Record)) : Type 0
  where
    pub wide : length ws ≡ table_size space
    pub cycle_word : slice_index ws 0 ≡ cycle
    pub epoch_word : slice_index ws 1 ≡ epoch
    pub head_words : (slot : ℕ) → slot < 32 → slice_index ws (2 + slot) ≡ length (log_of taken slot)

pub record RingsAre (ws : List ℕ) (logs : List (List Record)) : Type 0 where
  pub written : (slot k : ℕ) (r : Record) → slot < 32 → slice_get (log_of logs slot) k ≡ Some r
      → length (log_of logs slot) ≤ k + 256 → slice_index ws (ring_place slot k) ≡ packed k r
  pub unwritten : (slot k : ℕ) → slot < 32 → length (log_of logs slot) ≤ k
      → k < length (log_of logs slot) + 256 → lap_in (slice_index ws (ring_place slot k)) ≢ lap_of k

pub record IsTaking (logs taken : List (List Record)) (h : Half) : Type 0 where
  pub in_range : h.slot < 32
  pub is_next : slice_get (log_of logs h.slot) (length (log_of taken h.slot)) ≡ Some h.what

pub record LogsAre (heads : List ℕ) (logs taken : List (List Record)) (taking : Option Half) : Type
    0 where
  pub wide_heads : length heads ≡ 32
  pub wide_logs : length logs ≡ 32
  pub wide_taken : length taken ≡ 32
  pub begins : (slot : ℕ) → slot < 32 → IsBeginningOf (log_of taken slot) (log_of logs slot)
  pub seen : (slot : ℕ) → slot < 32 → slice_index heads slot ≤ length (log_of taken slot)
  pub room : (slot : ℕ) → slot < 32 → length (log_of logs slot) ≤ slice_index heads slot + 256
  pub takes : (h : Half) → taking ≡ Some h → IsTaking logs taken h
  pub fits : (slot k : ℕ) (r : Record) → slot < 32 → slice_get (log_of logs slot) k ≡ Some r
      → IsRecord r

-- ---- ring places

pub ring_from : (slot k : ℕ) → 64 ≤ ring_place slot k
ring_from slot k = omega arith

pub ring_in : (slot k : ℕ) → slot < 32 → ring_place slot k < 8256
ring_in slot k h = omega arith

ring_apart : (s j k : ℕ) → j < k → k < j + 256 → ring_place s j ≢ ring_place s k
ring_apart s j k lt near e = omega arith

ring_slots : (s t j k : ℕ) → s ≢ t → ring_place s j ≢ ring_place t k
ring_slots s t j k ne e = omega arith

next_lap : (s k : ℕ) → ring_place s (k + 256) ≡ ring_place s k
next_lap s k = omega arith

laps_differ : (k : ℕ) → lap_of k ≢ lap_of (k + 256)
laps_differ k e = omega arith

pub lap_of-packed : (k : ℕ) (r : Record) → IsRecord r → lap_in (packed k r) ≡ lap_of k
lap_of-packed k (Place a f c) h = let x = h.0 in let y = h.1 in let z = h.2 in omega arith
lap_of-packed k Close h = omega arith

pub record_in-packed : (k : ℕ) (r : Record) → IsRecord r → record_in (packed k r) ≡ r
record_in-packed k (Place a f c) h =
    let x = h.0 in let y = h.1 in let z = h.2 in
    let n : ℕ = packed k (Place a f c) in
    let close : close_in n ≡ 0 = omega arith in
    let address : address_in n ≡ a = omega arith in
    let first : first_in n ≡ f = omega arith in
    let count : count_in n ≡ c = omega arith in
    rw (close, address, first, count) refl
record_in-packed k Close h = let close : close_in (packed k Close) ≡ 1 = omega arith in
    rw close refl

-- ---- logs by slot

pub log_of-same : (logs : List (List Record)) (slot : ℕ) (l : List Record) → slot < length logs
    → log_of (slice_set logs slot l) slot ≡ l
log_of-same logs slot l h = get_or-set_same logs slot l [] h

pub log_of-other : (logs : List (List Record)) (slot t : ℕ) (l : List Record) → t ≢ slot
    → log_of (slice_set logs slot l) t ≡ log_of logs t
log_of-other logs slot t l ne = get_or-set_other logs slot t l [] ne

log_of-empty : (slot : ℕ) → slot < 32 → log_of (replicate 32 []) slot ≡ []
log_of-empty slot h = get_or-replicate 32 slot [] [] h

-- ---- the start

pub control_starts : (space : ℕ)
    → ControlIs (replicate (table_size space) 0) space 0 0 (replicate 32 [])
control_starts space = record {
  wide = length-replicate (table_size space) 0;
  cycle_word = get_or-replicate (table_size space) 0 0 0 (omega arith);
  epoch_word = get_or-replicate (table_size space) 1 0 0 (omega arith);
  head_words = λ slot h. get_or-replicate (table_size space) (2 + slot) 0 0 (omega arith)
      ∙ ap length (sym (log_of-empty slot h));
}

pub rings_start : (space : ℕ) → RingsAre (replicate (table_size space) 0) (replicate 32 [])
rings_start space = record {
  written = λ slot k r lt e near. let e' = rw (log_of-empty slot lt) at e in absurd (cc);
  unwritten = λ slot k lt lo hi e.
      let low = ring_in slot k lt in
      let none : length (log_of (replicate 32 []) slot) ≡ 0 = ap length (log_of-empty slot lt) in
      let z : slice_index (replicate (table_size space) 0) (ring_place slot k) ≡ 0 =
      get_or-replicate (table_size space) (ring_place slot k) 0 0 (omega arith) in
      let e' : lap_in 0 ≡ lap_of k = ap lap_in (sym z) ∙ e in
      omega arith;
}

pub logs_start : LogsAre (replicate 32 0) (replicate 32 []) (replicate 32 []) None
logs_start = record {
  wide_heads = length-replicate {A = ℕ} 32 0;
  wide_logs = length-replicate {A = List Record} 32 [];
  wide_taken = length-replicate {A = List Record} 32 [];
  begins = λ slot h. ([], rw (log_of-empty slot h) refl);
  seen = λ slot h. let z : slice_index (replicate 32 0) slot ≡ 0 = get_or-replicate 32 slot 0 0 h in
      omega arith;
  room = λ slot h. let none : length (log_of (replicate 32 []) slot) ≡ 0 =
      ap length (log_of-empty slot h) in omega arith;
  takes = λ h e. absurd (cc);
  fits = λ slot k r lt e. let e' = rw (log_of-empty slot lt) at e in absurd (cc);
}

-- ---- stores elsewhere

pub off_word : (ws : List ℕ) (i j n m : ℕ) → j ≢ i → slice_index ws j ≡ m
    → slice_index (slice_set ws i n) j ≡ m
off_word ws i j n m apart e = get_or-set_other ws i j n 0 apart ∙ e

-- a store past the heads leaves the control words
pub control_off : (ws : List ℕ) (space cycle epoch : ℕ) (taken : List (List Record)) (i n : ℕ)
    → 34 ≤ i → ControlIs ws space cycle epoch taken
    → ControlIs (slice_set ws i n) space cycle epoch taken
control_off ws space cycle epoch taken i n far h = record {
  wide = length-set ws i n ∙ h.wide;
  cycle_word = off_word ws i 0 n cycle (λ e. omega arith) h.cycle_word;
  epoch_word = off_word ws i 1 n epoch (λ e. omega arith) h.epoch_word;
  head_words = λ slot lt. off_word ws i (2 + slot) n (length (log_of taken slot)) (λ e. omega arith)
      (h.head_words slot lt);
}

-- a store before or past the rings leaves them
pub rings_off : (ws : List ℕ) (logs : List (List Record)) (i n : ℕ)
    → ((slot k : ℕ) → slot < 32 → ring_place slot k ≢ i) → RingsAre ws logs
    → RingsAre (slice_set ws i n) logs
rings_off ws logs i n off h = record {
  written = λ slot k r lt e near. get_or-set_other ws i (ring_place slot k) n 0 (off slot k lt)
      ∙ h.written slot k r lt e near;
  unwritten = λ slot k lt lo hi e. h.unwritten slot k lt lo hi
      (ap lap_in (sym (get_or-set_other ws i (ring_place slot k) n 0 (off slot k lt))) ∙ e);
}

pub rings_far : (ws : List ℕ) (logs : List (List Record)) (i n : ℕ) → 8256 ≤ i → RingsAre ws logs
    → RingsAre (slice_set ws i n) logs
rings_far ws logs i n far h =
    rings_off ws logs i n (λ slot k lt e. let r = ring_in slot k lt in omega arith) h

pub rings_near : (ws : List ℕ) (logs : List (List Record)) (i n : ℕ) → i < 64 → RingsAre ws logs
    → RingsAre (slice_set ws i n) logs
rings_near ws logs i n near h =
    rings_off ws logs i n (λ slot k lt e. let r = ring_from slot k in omega arith) h

-- ---- a record is logged

module _ (ws : List ℕ) (logs : List (List Record)) (slot : ℕ) (r : Record) (lt : slot < 32)
    (wide : length logs ≡ 32) (fits : IsRecord r) where
  n : ℕ
  n = length (log_of logs slot)

  more : List (List Record)
  more = slice_set logs slot (log_of logs slot ++ r ∷ [])

  grown : List ℕ
  grown = slice_set ws (ring_place slot (length (log_of logs slot)))
      (packed (length (log_of logs slot)) r)

  more_same : log_of more slot ≡ log_of logs slot ++ r ∷ []
  unfolding more
  more_same = log_of-same logs slot (log_of logs slot ++ r ∷ []) (omega arith)

  more_length : length (log_of more slot) ≡ n + 1
  unfolding n
  more_length = ap length more_same ∙ length-append (log_of logs slot) (r ∷ [])

  here_written : (k : ℕ) (q : Record) → 8256 ≤ length ws → RingsAre ws logs
      → slice_get (log_of more slot) k ≡ Some q → length (log_of more slot) ≤ k + 256
      → slice_index grown (ring_place slot k) ≡ packed k q
  unfolding grown n
  here_written k q far h e near =
      let m : ℕ = length (log_of logs slot) in
      let longer = more_length in
      let low = ring_in slot m lt in
      elim (get_snoc (log_of logs slot) r k q
      (ap (λ (l : List Record). slice_get l k) (sym more_same) ∙ e)) [
        | inl there ↦ let within = slice_get_within (log_of logs slot) k q there in
            off_word ws (ring_place slot m) (ring_place slot k) (packed m r) (packed k q)
            (ring_apart slot k m within (omega arith))
            (h.written slot k q lt there (omega arith))
        | inr last ↦ subst (λ (z : ℕ). slice_index (slice_set ws (ring_place slot m) (packed m r))
            (ring_place slot z) ≡ packed z q) (sym last.0)
            (subst (λ (q' : Record). slice_index (slice_set ws (ring_place slot m) (packed m r))
            (ring_place slot m) ≡ packed m q') last.1
            (get_or-set_same ws (ring_place slot m) (packed m r) 0 (omega arith)))
      ]

  here_unwritten : (k : ℕ) → 8256 ≤ length ws → RingsAre ws logs → length (log_of more slot) ≤ k
      → k < length (log_of more slot) + 256
      → lap_in (slice_index grown (ring_place slot k)) ≢ lap_of k
  unfolding grown n
  here_unwritten k far h lo hi e =
      let m : ℕ = length (log_of logs slot) in
      let longer = more_length in
      let low = ring_in slot m lt in
      elim (ℕ_discrete k (m + 256)) [
        | yes last ↦ laps_differ m
            (sym (lap_of-packed m r fits)
            ∙ ap lap_in (sym (get_or-set_same ws (ring_place slot m) (packed m r) 0 (omega arith)))
            ∙ ap (λ (z : ℕ). lap_in (slice_index (slice_set ws (ring_place slot m) (packed m r)) z))
            (sym (next_lap slot m) ∙ ap (ring_place slot) (sym last)) ∙ e ∙ ap lap_of last)
        | no other ↦ h.unwritten slot k lt (omega arith) (omega arith)
            (ap lap_in (sym (get_or-set_other ws (ring_place slot m) (ring_place slot k)
            (packed m r) 0 (λ same. ring_apart slot m k (omega arith) (omega arith)
            (sym same)))) ∙ e)
      ]

  pub rings_more : 8256 ≤ length ws → RingsAre ws logs
      → RingsAre (slice_set ws (ring_place slot (length (log_of logs slot)))
      (packed (length (log_of logs slot)) r)) (slice_set logs slot (log_of logs slot ++ r ∷ []))
  unfolding more grown
  rings_more far h = record {
    written = λ t k q lt' e near. elim (ℕ_discrete t slot) [
      | yes is ↦ subst (λ (z : ℕ). slice_get (log_of more z) k ≡ Some q
          → length (log_of more z) ≤ k + 256 → slice_index grown (ring_place z k) ≡ packed k q)
          (sym is) (here_written k q far h) e near
      | no ne ↦
          let same = log_of-other logs slot t (log_of logs slot ++ r ∷ []) ne in
          off_word ws (ring_place slot (length (log_of logs slot))) (ring_place t k)
          (packed (length (log_of logs slot)) r) (packed k q)
          (ring_slots t slot k (length (log_of logs slot)) ne)
          (h.written t k q lt' (ap (λ (l : List Record). slice_get l k) (sym same) ∙ e)
          (subst (λ (l : List Record). length l ≤ k + 256) same near))
    ];
    unwritten = λ t k lt' lo hi e. elim (ℕ_discrete t slot) [
      | yes is ↦ subst (λ (z : ℕ). length (log_of more z) ≤ k → k < length (log_of more z) + 256
          → lap_in (slice_index grown (ring_place z k)) ≢ lap_of k) (sym is)
          (here_unwritten k far h) lo hi e
      | no ne ↦
          let same = log_of-other logs slot t (log_of logs slot ++ r ∷ []) ne in
          h.unwritten t k lt' (subst (λ (l : List Record). length l ≤ k) same lo)
          (subst (λ (l : List Record). k < length l + 256) same hi)
          (ap lap_in (sym (get_or-set_other ws (ring_place slot (length (log_of logs slot)))
          (ring_place t k) (packed (length (log_of logs slot)) r) 0
          (ring_slots t slot k (length (log_of logs slot)) ne))) ∙ e)
    ];
  }

module _ (heads : List ℕ) (logs taken : List (List Record)) (taking : Option Half) (slot : ℕ)
    (r : Record) (lt : slot < 32) where
  logged : List (List Record)
  logged = slice_set logs slot (log_of logs slot ++ r ∷ [])

  pub logs_more : LogsAre heads logs taken taking
      → length (log_of logs slot) < slice_index heads slot + 256 → IsRecord r
      → LogsAre heads (slice_set logs slot (log_of logs slot ++ r ∷ [])) taken taking
  unfolding logged
  logs_more h near fits =
      let wide = h.wide_logs in
      let same : log_of logged slot ≡ log_of logs slot ++ r ∷ [] =
      log_of-same logs slot (log_of logs slot ++ r ∷ []) (omega arith) in
      let other : (t : ℕ) → t ≢ slot → log_of logged t ≡ log_of logs t =
      λ t ne. log_of-other logs slot t (log_of logs slot ++ r ∷ []) ne in
      record {
        wide_heads = h.wide_heads;
        wide_logs = length-set logs slot (log_of logs slot ++ r ∷ []) ∙ h.wide_logs;
        wide_taken = h.wide_taken;
        begins = λ t lt'. elim (ℕ_discrete t slot) [
          | yes is ↦ subst (λ (z : ℕ). IsBeginningOf (log_of taken z) (log_of logged z)) (sym is)
              (let b = h.begins slot lt in (
                b.0 ++ r ∷ [],
                same ∙ (ap (λ (l : List Record). l ++ r ∷ []) b.1
                    ∙ append_assoc (log_of taken slot) b.0 (r ∷ [])),
              ))
          | no ne ↦ let b = h.begins t lt' in (b.0, other t ne ∙ b.1)
        ];
        seen = h.seen;
        room = λ t lt'. elim (ℕ_discrete t slot) [
          | yes is ↦ subst (λ (z : ℕ). length (log_of logged z) ≤ slice_index heads z + 256)
              (sym is) (let m = ap length same ∙ length-append (log_of logs slot) (r ∷ []) in
              omega arith)
          | no ne ↦ let m = h.room t lt' in
              subst (λ (l : List Record). length l ≤ slice_index heads t + 256) (sym (other t ne)) m
        ];
        takes = λ q e. let k = h.takes q e in record {
          in_range = k.in_range;
          is_next = elim (ℕ_discrete q.slot slot) [
            | yes is ↦ ap (λ (l : List Record). slice_get l (length (log_of taken q.slot)))
                (ap (log_of logged) is ∙ (same ∙ ap (λ (z : ℕ). log_of logs z ++ r ∷ []) (sym is)))
                ∙ get_front (log_of logs q.slot) (r ∷ []) (length (log_of taken q.slot)) q.what
                k.is_next
            | no ne ↦ ap (λ (l : List Record). slice_get l (length (log_of taken q.slot)))
                (other q.slot ne) ∙ k.is_next
          ];
        };
        fits = λ t k q lt' e. elim (ℕ_discrete t slot) [
          | yes is ↦ elim (get_snoc (log_of logs slot) r k q
              (ap (λ (l : List Record). slice_get l k) (sym same)
              ∙ (ap (λ (z : ℕ). slice_get (log_of logged z) k) (sym is) ∙ e))) [
                | inl there ↦ h.fits slot k q lt there
                | inr last ↦ subst IsRecord last.1 fits
              ]
          | no ne ↦ h.fits t k q lt'
              (ap (λ (l : List Record). slice_get l k) (sym (other t ne)) ∙ e)
        ];
      }

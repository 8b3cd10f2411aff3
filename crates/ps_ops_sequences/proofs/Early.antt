-- A place that is found at the first byte which could begin what is sought.
use Rattle.std.proofs.Common.{◌≡◌, ℕ, ◌+◌, ◌-◌, ◌<◌, ◌≤◌, List, length, take, drop, get_or, true, Some, sym, ap, subst, arith, ◌∙◌}
use Rattle.std.specs.Prelude.{nat_eq, slice_get, slice_range}
use Rattle.std.specs.List.{starts_with}
use Rattle.std.proofs.lemmas.Bool.{eqb-true, eq-eqb}
use Rattle.std.proofs.lemmas.List.{get_or-take, get_or-drop, length-take, drop-drop, drop-take}
use Rattle.memchr.specs.Find.{IsFirstByte, OccursAt, is_byte}
use Rattle.memchr.proofs.lemmas.FindLemmas.{OccursAt-byte}
use Rattle.ps_language.specs.RowsSequences.{place_of}
use Rattle.ps_seq.proofs.ByteLemmas.{get_of}
use Rattle.ps_ops_sequences.proofs.Places.{starts_occurs, finds_place}
use Rattle.ps_ops_sequences.proofs.Windows.{occurs_undropped}

-- a byte of a run
pub run_byte : (t : List ℕ) (offset count k b : ℕ) → k < count → slice_get t (offset + k) ≡ Some b
    → get_or (slice_range t offset (offset + count)) k 0 ≡ b
run_byte t offset count k b below there =
    let size : (offset + count) - offset ≡ count = omega arith in
    ap (λ n. get_or (take n (drop offset t)) k 0) size
    ∙ (get_or-take count (drop offset t) k 0 below
    ∙ (get_or-drop offset t k 0 ∙ get_of t (offset + k) b there))

-- the last bytes of a part
pub last_bytes : (t : List ℕ) (offset count place : ℕ) → place ≤ count
    → slice_range t (offset + place) (offset + place + (count - place))
    ≡ drop place (slice_range t offset (offset + count))
last_bytes t offset count place within =
    let size : (offset + place + (count - place)) - (offset + place) ≡ count - place = omega arith in
    let all : (offset + count) - offset ≡ place + (count - place) = omega (arith, within) in
    ap (λ n. take n (drop (offset + place) t)) size
    ∙ (ap (take (count - place)) (sym (drop-drop place offset t))
    ∙ (sym (drop-take place (count - place) (drop offset t))
    ∙ ap (λ n. drop place (take n (drop offset t))) (sym all)))

module _ (hay needle : List ℕ) (near place b : ℕ) (some : 1 ≤ length needle)
    (begins : get_or needle 0 0 ≡ b) (found : IsFirstByte (is_byte b) (take near hay) (Some place))
  where
    here : place < near
    here = let high = found.0.high in omega (arith, high, length-take near hay)

    inside : place < length hay
    inside = let high = found.0.high in omega (arith, high, length-take near hay)

    -- it can stand nowhere before
    early_place : OccursAt hay needle place → Some place ≡ place_of needle hay
    early_place occurs =
        let fits = occurs.fits in
        finds_place hay needle (Some place) (
          record {
            low = omega arith;
            high = omega (arith, fits);
            before = λ k low early o.
                let start : k ≡ k + 0 = omega arith in
                found.0.before k low early (eq-eqb _ _ (get_or-take near hay k 0 (omega
                (arith, early, here)) ∙ (ap (λ n. get_or hay n 0) start
                ∙ (o.reads 0 some ∙ begins))));
          },
          occurs,
        )

    pub one_early : length needle ≡ 1 → Some place ≡ place_of needle hay
    one_early one = early_place (OccursAt-byte hay needle one place inside (eq-eqb _ _ (
        sym (get_or-take near hay place 0 here) ∙ (eqb-true _ _ found.1 ∙ sym begins))))

    pub begun_early : starts_with nat_eq (drop place hay) needle ≡ true
        → Some place ≡ place_of needle hay
    begun_early starts =
        let start : place + 0 ≡ place = omega arith in
        early_place (subst (OccursAt hay needle) start (occurs_undropped hay needle place 0
        (omega (arith, inside)) (starts_occurs (drop place hay) needle starts)))

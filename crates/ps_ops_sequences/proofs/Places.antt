-- The first place where a text has another: what memchr finds is the place of the language.
use Rattle.std.proofs.Common.{◌≡◌, ℕ, zero, suc, ◌+◌, List, [], ◌∷◌, length, Bool, true, false, Option, Some, None, refl, sym, ap, arith, ◌∙◌}
use Rattle.std.specs.Prelude.{nat_eq, option_map, slice_index}
use Rattle.std.specs.List.{starts_with}
use Rattle.std.proofs.lemmas.Bool.{false≢true}
use Rattle.std.proofs.lemmas.List.{length-take}
use Rattle.ps_language.specs.RowsSequences.{place_of}
use Rattle.memchr.specs.Find.{OccursAt, FindsNeedle}
use Rattle.memchr.proofs.lemmas.MatchLemmas.{OccursAt-part, OccursAt-from_part}
use Rattle.ps_ops_sequences.proofs.Beginnings.{starts_exactly}

-- ---- at the front

pub starts_occurs : (hay needle : List ℕ) → starts_with nat_eq hay needle ≡ true → OccursAt hay needle 0
starts_occurs hay needle starts =
    let same = (starts_exactly hay needle).0 starts in
    let long = ap length same in
    let less = length-take (length needle) hay in
    OccursAt-from_part hay needle 0 (omega (arith, long, less)) (sym same)

occurs_starts : (hay needle : List ℕ) → OccursAt hay needle 0 → starts_with nat_eq hay needle ≡ true
occurs_starts hay needle occurs = (starts_exactly hay needle).1 (sym
    (OccursAt-part hay needle 0 occurs))

-- ---- one byte further on

occurs_further : (b : ℕ) (hay needle : List ℕ) (k : ℕ) → OccursAt hay needle k → OccursAt (b
    ∷ hay) needle (suc k)
occurs_further b hay needle k o =
    let fits = o.fits in record {
      fits = omega (arith, fits);
      reads = λ j below. let more : suc k + j ≡ suc (k + j) = omega arith in ap (slice_index (b
          ∷ hay)) more ∙ o.reads j below;
    }

occurs_nearer : (b : ℕ) (hay needle : List ℕ) (k : ℕ) → OccursAt (b ∷ hay) needle (suc k)
    → OccursAt hay needle k
occurs_nearer b hay needle k o =
    let fits = o.fits in record {
      fits = omega (arith, fits);
      reads = λ j below. let more : suc k + j ≡ suc (k + j) = omega arith in sym (ap (slice_index (b
          ∷ hay)) more) ∙ o.reads j below;
    }

-- ---- the place

pub place_start : (needle hay : List ℕ) → starts_with nat_eq hay needle ≡ true → place_of needle hay
    ≡ Some 0
place_start needle [] e = rw e refl
place_start needle (b ∷ hay) e = rw e refl

pub place_next : (needle : List ℕ) (b : ℕ) (hay : List ℕ) → starts_with nat_eq (b ∷ hay) needle ≡ false
    → place_of needle (b ∷ hay) ≡ option_map suc (place_of needle hay)
place_next needle b hay e = rw e refl

pub place_none : (needle : List ℕ) → starts_with nat_eq [] needle ≡ false → place_of needle [] ≡ None
place_none needle e = rw e refl

-- found at the front
found_front : (hay needle : List ℕ) (r : Option ℕ) → OccursAt hay needle 0
    → FindsNeedle hay needle 0 r → r ≡ Some 0
found_front hay needle None occurs found = absurd (found 0 (omega arith) (omega arith) occurs)
found_front hay needle (Some zero) occurs found = refl
found_front hay needle (Some (suc k)) occurs found = absurd (found.0.before 0 (omega arith)
    (omega arith) occurs)

not_at_end : (needle : List ℕ) (r : Option ℕ) → (¬ OccursAt [] needle 0) → FindsNeedle [] needle 0 r
    → r ≡ None
not_at_end needle None none found = refl
not_at_end needle (Some zero) none found = absurd (none found.1)
not_at_end needle (Some (suc k)) none found = let high = found.0.high in absurd (omega
    (arith, high))

module _ (b : ℕ) (hay needle : List ℕ) (none : ¬ OccursAt (b ∷ hay) needle 0) (rest : (r : Option ℕ)
    → FindsNeedle hay needle 0 r → r ≡ place_of needle hay) where
  found_later : (r : Option ℕ) → FindsNeedle (b ∷ hay) needle 0 r → r ≡ option_map suc
      (place_of needle hay)
  found_later None found = ap (option_map suc) (rest None (λ k low high occurs. found (suc k)
      (omega arith) (omega (arith, high)) (occurs_further b hay needle k occurs)))
  found_later (Some zero) found = absurd (none found.1)
  found_later (Some (suc k)) found =
      let first = found.0 in
      let high = first.high in
      ap (option_map suc) (rest (Some k) (
        record {
          low = omega arith;
          high = omega (arith, high);
          before =
              λ j low below occurs. first.before (suc j) (omega arith) (omega (arith, below))
              (occurs_further b hay needle j occurs);
        },
        occurs_nearer b hay needle k found.1,
      ))

place_at_end : (needle : List ℕ) (r : Option ℕ) (starts : Bool) → starts_with nat_eq [] needle
    ≡ starts → FindsNeedle [] needle 0 r → r ≡ place_of needle []
place_at_end needle r true e found = found_front [] needle r (starts_occurs [] needle e) found ∙ sym
    (place_start needle [] e)
place_at_end needle r false e found = not_at_end needle r (λ o. false≢true (sym e
    ∙ occurs_starts [] needle o)) found ∙ sym (place_none needle e)

place_before : (b : ℕ) (hay needle : List ℕ) (r : Option ℕ) (starts : Bool) → starts_with nat_eq (b
    ∷ hay) needle ≡ starts
    → ((r : Option ℕ) → FindsNeedle hay needle 0 r → r ≡ place_of needle hay) → FindsNeedle (b
    ∷ hay) needle 0 r → r ≡ place_of needle (b ∷ hay)
place_before b hay needle r true e rest found = found_front (b ∷ hay) needle r (starts_occurs (b
    ∷ hay) needle e) found ∙ sym (place_start needle (b ∷ hay) e)
place_before b hay needle r false e rest found = found_later b hay needle (λ o. false≢true (sym e
    ∙ occurs_starts (b ∷ hay) needle o)) rest r found ∙ sym (place_next needle b hay e)

pub finds_place : (hay needle : List ℕ) (r : Option ℕ) → FindsNeedle hay needle 0 r → r
    ≡ place_of needle hay
finds_place [] needle r found = place_at_end needle r (starts_with nat_eq [] needle) refl found
finds_place (b ∷ hay) needle r found = place_before b hay needle r (starts_with nat_eq (b
    ∷ hay) needle) refl (λ q f. finds_place hay needle q f) found

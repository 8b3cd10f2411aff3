-- Places in a text of which ever more is read.
use Rattle.std.proofs.Common.{◌≡◌, ℕ, ◌+◌, ◌-◌, ◌<◌, ◌≤◌, List, [], ◌++◌, length, take, drop, true, false, Option, Some, None, sym, ap, subst, arith, ◌∙◌, inl, inr, length-drop}
use Rattle.std.specs.Prelude.{◌⊎◌, slice_index, slice_range, is_some}
use Rattle.std.proofs.lemmas.Bool.{cases_lt, false≢true}
use Rattle.std.proofs.lemmas.List.{get_or-drop, get_or_append_left, length-append, append-nil, take-append-drop, drop_all, drop-drop, take-take}
use Rattle.std.proofs.Math.Seq.{take-add}
use Rattle.memchr.specs.Find.{OccursAt, FindsNeedle}
use Rattle.ps_language.specs.Value.{Store}
use Rattle.ps_language.specs.Access.{bytes, part_bytes}
use Rattle.ps_language.specs.RowsSequences.{place_of}
use Rattle.ps_word.specs.declared.values.Part.{Part}
use Rattle.ps_mem.specs.Meaning.{part_of}
use Rattle.ps_ops_sequences.proofs.Beginnings.{length_run}
use Rattle.ps_ops_operands.proofs.Intervals.{inner_part}
use Rattle.ps_ops_sequences.proofs.Places.{finds_place}

-- ---- behind a place

occurs_dropped : (text needle : List ℕ) (from k : ℕ) → OccursAt text needle (from + k)
    → OccursAt (drop from text) needle k
occurs_dropped text needle from k o =
    let fits = o.fits in
    record {
      fits = omega (arith, fits, length-drop from text);
      reads = λ j below.
          let there : from + (k + j) ≡ from + k + j = omega arith in
          get_or-drop from text (k + j) 0 ∙ (ap (slice_index text) there ∙ o.reads j below);
    }

pub occurs_undropped : (text needle : List ℕ) (from k : ℕ) → from ≤ length text
    → OccursAt (drop from text) needle k → OccursAt text needle (from + k)
occurs_undropped text needle from k within o =
    let fits = o.fits in
    record {
      fits = omega (arith, fits, within, length-drop from text);
      reads = λ j below.
          let there : from + (k + j) ≡ from + k + j = omega arith in
          sym (get_or-drop from text (k + j) 0 ∙ ap (slice_index text) there) ∙ o.reads j below;
    }

module _ (text needle : List ℕ) (from : ℕ) (within : from ≤ length text) where
  -- where it stands behind a place, it stands so much further behind it
  behind : (k : ℕ) → from ≤ k → OccursAt text needle k → OccursAt (drop from text) needle (k - from)
  behind k past o =
      let there : k ≡ from + (k - from) = omega (arith, past) in
      occurs_dropped text needle from (k - from) (subst (OccursAt text needle) there o)

  pub none_behind : FindsNeedle (drop from text) needle 0 None → FindsNeedle text needle from None
  none_behind none k past high o = none (k - from) (omega arith) (omega
      (arith, past, high, within, length-drop from text)) (behind k past o)

  pub some_behind : (place : ℕ) → FindsNeedle (drop from text) needle 0 (Some place)
      → FindsNeedle text needle from (Some (from + place))
  some_behind place found =
      let first = found.0 in
      let high = first.high in (
        record {
          low = omega arith;
          high = omega (arith, high, within, length-drop from text);
          before = λ k past early o. first.before (k - from) (omega arith) (omega
              (arith, past, early)) (behind k past o);
        },
        occurs_undropped text needle from place within found.1,
      )

-- the first place from one on is the first of all, where it stands nowhere before
module _ (text needle : List ℕ) (from : ℕ) (before : (k : ℕ) → k < from → ¬ OccursAt text needle k)
  where
    pub from_start : (r : Option ℕ) → FindsNeedle text needle from r → FindsNeedle text needle 0 r
    from_start None none = λ k low high o. elim (cases_lt k from) [
      | inl early ↦ before k early o
      | inr past ↦ none k past high o
    ]
    from_start (Some place) found =
        let first = found.0 in
        let high = first.high in (
          record {
            low = omega arith;
            high = omega (arith, high);
            before = λ k low early o. elim (cases_lt k from) [
              | inl sooner ↦ before k sooner o
              | inr past ↦ first.before k past early o
            ];
          },
          found.1,
        )

-- ---- in a beginning

occurs_longer : (text more needle : List ℕ) (k : ℕ) → OccursAt text needle k
    → OccursAt (text ++ more) needle k
occurs_longer text more needle k o =
    let fits = o.fits in
    record {
      fits = omega (arith, fits, length-append text more);
      reads = λ j below.
          get_or_append_left text more 0 (k + j) (omega (arith, fits, below)) ∙ o.reads j below;
    }

occurs_shorter : (text more needle : List ℕ) (k : ℕ) → k + length needle ≤ length text
    → OccursAt (text ++ more) needle k → OccursAt text needle k
occurs_shorter text more needle k fits o = record {
  fits = fits;
  reads = λ j below.
      sym (get_or_append_left text more 0 (k + j) (omega (arith, fits, below))) ∙ o.reads j below;
}

-- the first place in a beginning is the first in the whole
pub first_in_beginning : (text more needle : List ℕ) (place : ℕ)
    → FindsNeedle text needle 0 (Some place) → FindsNeedle (text ++ more) needle 0 (Some place)
first_in_beginning text more needle place found =
    let first = found.0 in
    let fits = found.1.fits in (
      record {
        low = omega arith;
        high = omega (arith, fits, length-append text more);
        before = λ k low early o. first.before k low early
            (occurs_shorter text more needle k (omega (arith, early, fits)) o);
      },
      occurs_longer text more needle place found.1,
    )

-- what a longer text has before a place, a shorter one has too, where it ends within the shorter one
pub nowhere_longer : (text more needle : List ℕ) (from : ℕ)
    → (0 < from → from + length needle ≤ length text + 1)
    → ((k : ℕ) → k < from → ¬ OccursAt text needle k)
    → (k : ℕ) → k < from → ¬ OccursAt (text ++ more) needle k
nowhere_longer text more needle from reach none k early o =
    let ends = reach (omega (arith, early)) in
    none k early (occurs_shorter text more needle k (omega (arith, ends, early)) o)

pub nowhere_before : (text needle : List ℕ) (r : Option ℕ) → is_some r ≡ false
    → FindsNeedle text needle 0 r → (from : ℕ)
    → from ≤ length text → (k : ℕ) → k < from → ¬ OccursAt text needle k
nowhere_before text needle None missed none from within k early = none k (omega arith) (omega
    (arith, early, within))
nowhere_before text needle (Some place) missed found from within k early = absurd
    (false≢true (sym missed))

-- what is found in a beginning, or in the whole, is the place of the language
pub beginning_place : (text rest needle : List ℕ) (r : Option ℕ) → FindsNeedle text needle 0 r
    → (is_some r ≡ true) ⊎ (rest ≡ []) → r ≡ place_of needle (text ++ rest)
beginning_place text rest needle None none (inl found) = absurd (false≢true found)
beginning_place text rest needle None none (inr all) =
    finds_place text needle None none
    ∙ ap (place_of needle) (sym (ap (λ xs. text ++ xs) all ∙ append-nil text))
beginning_place text rest needle (Some place) found _ = finds_place (text ++ rest) needle
    (Some place) (first_in_beginning text rest needle place found)

-- a longer one is nowhere
pub longer_nowhere : (text needle : List ℕ) → length text < length needle
    → None ≡ place_of needle text
longer_nowhere text needle long = finds_place text needle None
    (λ k low high o. let fits = o.fits in absurd (omega (arith, fits, long)))

-- ---- what is read

-- a run and the one behind it
runs_joined : (t : List ℕ) (offset end more : ℕ)
    → slice_range t offset (offset + end) ++ slice_range t (offset + end) (offset + end + more)
    ≡ slice_range t offset (offset + (end + more))
runs_joined t offset end more =
    let first : offset + end - offset ≡ end = omega arith in
    let second : offset + end + more - (offset + end) ≡ more = omega arith in
    let both : offset + (end + more) - offset ≡ end + more = omega arith in
    (λ i. take (first i) (drop offset t) ++ take (second i) (drop (offset + end) t))
    ∙ (ap (λ ds. take end (drop offset t) ++ take more ds) (sym (drop-drop end offset t))
    ∙ (sym (take-add end more (drop offset t)) ∙ ap (λ n. take n (drop offset t)) (sym both)))

-- the first bytes of a part begin it
run_begins : (t : List ℕ) (offset end count : ℕ) → end ≤ count
    → slice_range t offset (offset + end) ++ drop end (slice_range t offset (offset + count))
    ≡ slice_range t offset (offset + count)
run_begins t offset end count fits =
    let whole = slice_range t offset (offset + count) in
    let one : offset + end - offset ≡ end = omega arith in
    let all : offset + count - offset ≡ count = omega arith in
    let first : slice_range t offset (offset + end) ≡ take end whole =
    ap (λ n. take n (drop offset t)) one
    ∙ (sym (take-take end count (drop offset t) fits)
    ∙ ap (λ n. take end (take n (drop offset t))) (sym all)) in
    ap (λ xs. xs ++ drop end whole) first ∙ take-append-drop end whole

-- one window more of a part, and what is found in all that was read
module _ (s : Store) (births : ℕ → ℕ) (part inner : Part) (end more : ℕ)
    (is : inner ≡ inner_part part end more) (fits : end + more ≤ part.length)
    (within : part.offset + part.length ≤ length (bytes s (births part.address)))
    (text read needle : List ℕ)
    (before : text ≡ slice_range (bytes s (births part.address)) part.offset (part.offset + end))
    (next : read ≡ text ++ part_bytes s (part_of births inner)) where
  abbrev t : List ℕ
  t = bytes s (births part.address)

  pub window_read : read ≡ slice_range t part.offset (part.offset + (end + more))
  window_read = next
      ∙ ((λ i. before i ++ part_bytes s (part_of births (is i)))
      ∙ runs_joined t part.offset end more)

  module _ (from : ℕ) (reach : 0 < from → from + length needle ≤ end + 1)
      (none : (k : ℕ) → k < from → ¬ OccursAt text needle k) (r : Option ℕ)
      (found : FindsNeedle read needle from r) where
    pub window_first : FindsNeedle read needle 0 r
    window_first =
        let size : length text ≡ end = ap length before ∙ length_run t part.offset end (omega
        (arith, within, fits)) in
        let nowhere = nowhere_longer text (part_bytes s (part_of births inner)) needle from
        (λ some. let ends = reach some in omega (arith, ends, size)) none in
        from_start read needle from (subst (λ (xs : List ℕ). (k : ℕ) → k < from
        → ¬ OccursAt xs needle k) (sym next) nowhere) r found

    pub window_place : (is_some r ≡ true) ⊎ (end + more ≡ part.length)
        → r ≡ place_of needle (part_bytes s (part_of births part))
    window_place ended =
        let whole = part_bytes s (part_of births part) in
        let size = length_run t part.offset part.length within in
        beginning_place read (drop (end + more) whole) needle r window_first (elim ended [
          | inl some ↦ inl some
          | inr all ↦ inr (drop_all (end + more) whole (omega (arith, all, size)))
        ])
        ∙ ap (place_of needle) (ap (λ xs. xs ++ drop (end + more) whole) window_read
        ∙ run_begins t part.offset (end + more) part.length fits)

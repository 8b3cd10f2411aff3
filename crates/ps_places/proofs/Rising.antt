-- Origins that rise.
use Rattle.std.proofs.Common.{◌≡◌, refl, ap, sym, ◌∙◌, ℕ, zero, suc, ◌+◌, ◌-◌, ◌<◌, ◌≤◌, true, false, List, [], ◌∷◌, ◌++◌}
use Rattle.std.proofs.Common.{length, get_or, Some, None, arith, inl, inr}
use Rattle.std.specs.Prelude.{◌↔◌, Bool, Option, IsTrue, nat_le, nat_lt, if◌then◌else◌}
use Rattle.std.specs.List.{AllByRecursion}
use Rattle.std.specs.Option.{option_or, option_map_or}
use Rattle.std.proofs.lemmas.Bool.{le-leb, lt-leb, lt-ltb, ltb-true, leb-true, cases_Bool, cond-true, cond-false}
use Rattle.std.proofs.lemmas.Option.{none-some}
use Rattle.std.proofs.lemmas.List.{get_or_default}
use Rattle.ps_places.specs.declared.origins.Origin.{Origin}
use Rattle.ps_places.specs.Origins.{IsAbove, IsBehind, AreRising, origin_in}

-- what holds of each holds of the one at an index
pub all_at : (P : Origin → Type 0) (origins : List Origin) (i : ℕ) (d : Origin) → i < length origins
    → AllByRecursion P origins → P (get_or origins i d)
all_at P [] i d h all = absurd (omega (arith, h))
all_at P (origin ∷ origins) zero d h all = all.0
all_at P (origin ∷ origins) (suc i) d h all = all_at P origins i d (omega (arith, h)) all.1

-- one more behind the others
all_with : (P : Origin → Type 0) (origins : List Origin) (origin : Origin) → AllByRecursion P origins → P origin
    → AllByRecursion P (origins ++ origin ∷ [])
all_with P [] origin all h = (h, tt)
all_with P (first ∷ origins) origin all h = (all.0, all_with P origins origin all.1 h)

pub rising_more : (origins : List Origin) (origin : Origin) → AreRising origins → IsBehind origin origins
    → AreRising (origins ++ origin ∷ [])
rising_more [] origin rising behind = (tt, tt)
rising_more (first ∷ origins) origin rising behind =
    (all_with (λ later. IsAbove later first) origins origin rising.0 behind.0, rising_more origins origin rising.1 behind.1)

-- what is above the last one is above each
pub above_last : (origins : List Origin) (origin d : Origin) → AreRising origins
    → IsAbove origin (get_or origins (length origins - 1) d) → IsBehind origin origins
above_last [] origin d rising above = tt
above_last (first ∷ []) origin d rising above = (above, tt)
above_last (first ∷ next ∷ origins) origin d rising above =
    let last : length (first ∷ next ∷ origins) - 1 ≡ suc (length (next ∷ origins) - 1) = omega arith in
    let behind : IsBehind origin (next ∷ origins) = above_last (next ∷ origins) origin d rising.1 (rw last at above) in
    (between first next origin (rising.0).0 behind.0, behind)
  where
    between : (low middle high : Origin) → IsAbove middle low → IsAbove high middle → IsAbove high low
    between low middle high a b = record { birth = omega (arith, a.birth, b.birth); begin = omega (arith, a.begin, b.begin) }

-- births rise with the index
pub births_rise : (origins : List Origin) (i j : ℕ) (d : Origin) → AreRising origins → i ≤ j → j < length origins
    → (get_or origins i d).birth ≤ (get_or origins j d).birth
births_rise [] i j d rising low high = absurd (omega (arith, high))
births_rise (origin ∷ origins) zero zero d rising low high = omega arith
births_rise (origin ∷ origins) (suc i) zero d rising low high = absurd (omega (arith, low))
births_rise (origin ∷ origins) zero (suc j) d rising low high =
    below (get_or origins j d) (all_at (λ later. IsAbove later origin) origins j d (omega (arith, high)) rising.0)
  where
    below : (later : Origin) → IsAbove later origin → origin.birth ≤ later.birth
    below later above = omega (arith, above.birth)
births_rise (origin ∷ origins) (suc i) (suc j) d rising low high =
    births_rise origins i j d rising.1 (omega (arith, low)) (omega (arith, high))

-- ---- what lies behind the last one

-- the last one decides: by the birth, and then by the place
pub not_later : (origins : List Origin) (origin d : Origin) → 0 < length origins
    → origin.birth ≤ (get_or origins (length origins - 1) d).birth → IsBehind origin origins → ⊥
not_later origins origin d some low behind =
    clash (get_or origins (length origins - 1) d)
    (all_at (IsAbove origin) origins (length origins - 1) d (omega (arith, some)) behind) low
  where
    clash : (last : Origin) → IsAbove origin last → origin.birth ≤ last.birth → ⊥
    clash last above low = omega (arith, above.birth, low)

pub begin_decides : (origins : List Origin) (origin d : Origin) → AreRising origins → 0 < length origins
    → (get_or origins (length origins - 1) d).birth < origin.birth
    → IsTrue (nat_lt (get_or origins (length origins - 1) d).begin origin.begin) ↔ IsBehind origin origins
begin_decides origins origin d rising some later = (
  λ h. above_last origins origin d rising (record {
    birth = later;
    begin = ltb-true (get_or origins (length origins - 1) d).begin origin.begin h;
  }),
  λ behind. below (get_or origins (length origins - 1) d)
      (all_at (IsAbove origin) origins (length origins - 1) d (omega (arith, some)) behind),
)
  where
    below : (last : Origin) → IsAbove origin last → IsTrue (nat_lt last.begin origin.begin)
    below last above = lt-ltb last.begin origin.begin above.begin

-- ---- the last one whose first object wasn't born later

abbrev pub UpTo : (birth : ℕ) (origins : List Origin) (low : ℕ) → Type 0
UpTo birth origins low = (i : ℕ) (d : Origin) → i < low → i < length origins → (get_or origins i d).birth ≤ birth

abbrev pub Later : (birth : ℕ) (origins : List Origin) (low : ℕ) → Type 0
Later birth origins low = (i : ℕ) (d : Origin) → low ≤ i → i < length origins → birth < (get_or origins i d).birth

pub none_up_to : (birth : ℕ) (origins : List Origin) → Later birth origins 0 → origin_in birth origins ≡ None
none_up_to birth [] later = refl
none_up_to birth (origin ∷ origins) later =
    ap (λ o. option_or o (if nat_le origin.birth birth then Some origin else None))
    (none_up_to birth origins (λ i d low high. later (suc i) d (omega arith) (omega (arith, high))))
    ∙ cond-false _ _ _ (lt-leb origin.birth birth (later 0 origin (omega arith) (omega arith)))

pub last_up_to : (birth : ℕ) (origins : List Origin) (low : ℕ) (d : Origin) → low < length origins
    → UpTo birth origins (suc low) → Later birth origins (suc low)
    → origin_in birth origins ≡ Some (get_or origins low d)
last_up_to birth [] low d high up later = absurd (omega (arith, high))
last_up_to birth (origin ∷ origins) zero d high up later =
    ap (λ o. option_or o (if nat_le origin.birth birth then Some origin else None))
    (none_up_to birth origins (λ i d low high. later (suc i) d (omega arith) (omega (arith, high))))
    ∙ cond-true _ _ _ (le-leb origin.birth birth (up 0 origin (omega arith) (omega arith)))
last_up_to birth (origin ∷ origins) (suc low) d high up later =
    ap (λ o. option_or o (if nat_le origin.birth birth then Some origin else None))
    (last_up_to birth origins low d (omega (arith, high))
    (λ i d below inside. up (suc i) d (omega (arith, below)) (omega (arith, inside)))
    (λ i d above inside. later (suc i) d (omega (arith, above)) (omega (arith, inside))))

-- ---- a search by halves

pub up_more : (birth : ℕ) (origins : List Origin) (middle : ℕ) (read : Origin) → AreRising origins
    → middle < length origins → read ≡ get_or origins middle read → read.birth ≤ birth
    → UpTo birth origins (middle + 1)
up_more birth origins middle read rising inside e h i d below _ =
    let rise : (get_or origins i d).birth ≤ (get_or origins middle d).birth =
    births_rise origins i middle d rising (omega (arith, below)) inside in
    let same : read.birth ≡ (get_or origins middle d).birth =
    ap (λ o. o.birth) (e ∙ get_or_default origins middle read d inside) in
    omega (arith, rise, same, h)

pub later_more : (birth : ℕ) (origins : List Origin) (middle : ℕ) (read : Origin) → AreRising origins
    → middle < length origins → read ≡ get_or origins middle read → birth < read.birth → Later birth origins middle
later_more birth origins middle read rising inside e h i d above within =
    let rise : (get_or origins middle d).birth ≤ (get_or origins i d).birth =
    births_rise origins middle i d rising above within in
    let same : read.birth ≡ (get_or origins middle d).birth =
    ap (λ o. o.birth) (e ∙ get_or_default origins middle read d inside) in
    omega (arith, rise, same, h)

pub found_last : (birth : ℕ) (origins : List Origin) (low : ℕ) (read : Origin) → (low ≡ 0 → ⊥)
    → low ≤ length origins → UpTo birth origins low → Later birth origins low → read ≡ get_or origins (low - 1) read
    → origin_in birth origins ≡ Some read
found_last birth origins zero read some high up later e = absurd (some refl)
found_last birth origins (suc low) read some high up later e =
    let same : suc low - 1 ≡ low = omega arith in
    last_up_to birth origins low read (omega (arith, high)) up later ∙ sym (ap Some (rw same at e))

or_low : (birth : ℕ) (later : Option Origin) (first origin : Origin)
    → ((x : Origin) → later ≡ Some x → x.birth ≤ birth)
    → option_or later (if nat_le first.birth birth then Some first else None) ≡ Some origin → origin.birth ≤ birth
or_low birth (Some x) first origin h e = h origin e
or_low birth None first origin h e = elim (cases_Bool (nat_le first.birth birth)) [
  | inl t ↦ same (sym (cond-true _ _ _ t) ∙ e) (leb-true first.birth birth t)
  | inr f ↦ absurd (none-some origin (sym (cond-false _ _ _ f) ∙ e))
]
  where
    same : Some first ≡ Some origin → first.birth ≤ birth → origin.birth ≤ birth
    same e low = omega (arith, ap (λ o. option_map_or (λ (x : Origin). x.birth) o 0) e, low)

-- it wasn't born later
pub found_low : (birth : ℕ) (origins : List Origin) (origin : Origin) → origin_in birth origins ≡ Some origin
    → origin.birth ≤ birth
found_low birth [] origin e = absurd (none-some origin e)
found_low birth (first ∷ origins) origin e =
    or_low birth (origin_in birth origins) first origin (λ x. found_low birth origins x) e

-- one more, or not
pub rising_if : (added : Bool) (origins : List Origin) (origin : Origin) → AreRising origins → IsBehind origin origins
    → AreRising (if added then origins ++ origin ∷ [] else origins)
rising_if true origins origin rising behind = rising_more origins origin rising behind
rising_if false origins origin rising behind = rising

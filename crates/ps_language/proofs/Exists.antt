-- Each world has a number of words that live there: what is reachable is found by going round until
-- nothing is added.
use Rattle.std.proofs.Common.{◌≡◌, ℕ, zero, suc, ◌+◌, ◌<◌, ◌≤◌, Bool, true, false, List, [], ◌∷◌, length, refl, sym, ap}
use Rattle.std.proofs.Common.{◌∙◌, subst, inl, inr, ◌⊎◌, arith}
use Rattle.std.specs.Prelude.{◌==◌, ◌&&◌, ◌||◌}
use Rattle.std.specs.List.{Contains}
use Rattle.std.proofs.lemmas.Bool.Decides.{eqb_tells}
use Rattle.ps_language.specs.Live.{references_of_object, references_at, roots, IsReachable, is_root, is_named}
use Rattle.ps_language.specs.Live.{words_reached, Live}
use Rattle.ps_language.specs.Value.{Store}
use Rattle.ps_language.specs.World.{World}

-- ---- tests

has : List ℕ → (birth : ℕ) → Bool
has [] birth = false
has (x ∷ xs) birth = (x == birth) || has xs birth

or_cases : (a b : Bool) → a || b ≡ true → (a ≡ true) ⊎ (b ≡ true)
or_cases true b h = inl refl
or_cases false b h = inr h

or_one : (a b : Bool) → a ≡ true → a || b ≡ true
or_one true b h = refl
or_one false b h = absurd (cc)

or_two : (a b : Bool) → b ≡ true → a || b ≡ true
or_two true b h = refl
or_two false b h = h

and_parts : (a b : Bool) → a && b ≡ true → (a ≡ true) × (b ≡ true)
and_parts true b h = (refl, h)
and_parts false b h = absurd (cc)

and_both : (a b : Bool) → a ≡ true → b ≡ true → a && b ≡ true
and_both true b h k = k
and_both false b h k = absurd (cc)

has_contains : (xs : List ℕ) (birth : ℕ) → has xs birth ≡ true → Contains xs birth
unfolding has
has_contains [] birth is = absurd (cc)
has_contains (x ∷ xs) birth is = elim (or_cases (x == birth) (has xs birth) is) [
  | inl here ↦ (let same : x ≡ birth = grind (arith, eqb_tells x birth, here) in
      (0, omega arith, same))
  | inr there ↦ (let rest = has_contains xs birth there in let low = rest.1 in
      (suc rest.0, omega (arith, low), rest.2))
]

contains_has : (xs : List ℕ) (birth : ℕ) → Contains xs birth → has xs birth ≡ true
unfolding has
contains_has [] birth c = absurd (let low = c.1 in omega (arith, low))
contains_has (x ∷ xs) birth (zero, low, is) =
    or_one (x == birth) (has xs birth) (grind (arith, eqb_tells x birth, is))
contains_has (x ∷ xs) birth (suc k, low, is) =
    or_two (x == birth) (has xs birth) (contains_has xs birth (k, omega (arith, low), is))

-- ---- what objects name

-- an object of these, whose first has a birth number, is among some and names this one
named : (ℕ → Bool) → (first : ℕ) → Store → (birth : ℕ) → Bool
named s first [] birth = false
named s first (object ∷ objects) birth =
    (s first && has (references_of_object object) birth) || named s (suc first) objects birth

-- those that name it, or none
record Namer (s : ℕ → Bool) (first : ℕ) (store : Store) (birth : ℕ) : Type 0 where
  place : ℕ
  from : ℕ
  at : from ≡ first + place
  among : s from ≡ true
  names : Contains (references_at store place) birth

namer : (s : ℕ → Bool) (first : ℕ) (store : Store) (birth : ℕ)
    → named s first store birth ≡ true → Namer s first store birth
unfolding named
namer s first [] birth is = absurd (cc)
namer s first (object ∷ objects) birth is =
    elim (or_cases (s first && has (references_of_object object) birth)
    (named s (suc first) objects birth) is) [
      | inl here ↦ (let two = and_parts (s first) (has (references_of_object object) birth) here in
          record {
            place = 0;
            from = first;
            at = omega arith;
            among = two.0;
            names = has_contains (references_of_object object) birth two.1;
          })
      | inr there ↦ (let n = namer s (suc first) objects birth there in let at = n.at in
          record {
            place = suc n.place;
            from = n.from;
            at = omega (arith, at);
            among = n.among;
            names = n.names;
          })
    ]

names_it : (s : ℕ → Bool) (first : ℕ) (store : Store) (place from birth : ℕ)
    → from ≡ first + place → s from ≡ true → Contains (references_at store place) birth
    → named s first store birth ≡ true
unfolding named
names_it s first [] place from birth at among names =
    absurd (let low = names.1 in omega (arith, low))
names_it s first (object ∷ objects) zero from birth at among names =
    let same : first ≡ from = omega (arith, at) in
    or_one (s first && has (references_of_object object) birth) _
    (and_both (s first) (has (references_of_object object) birth) (ap s same ∙ among)
    (contains_has (references_of_object object) birth names))
names_it s first (object ∷ objects) (suc place) from birth at among names =
    or_two (s first && has (references_of_object object) birth) _
    (names_it s (suc first) objects place from birth (omega (arith, at)) among names)

-- two tests agree on the birth numbers of these objects
abbrev Agree : (s t : ℕ → Bool) → (first : ℕ) → Store → Type 0
Agree s t first [] = Unit {0}
Agree s t first (object ∷ objects) = (s first ≡ t first) × Agree s t (suc first) objects

named_same : (s t : ℕ → Bool) (first : ℕ) (store : Store) (birth : ℕ) → Agree s t first store
    → named s first store birth ≡ named t first store birth
unfolding named
named_same s t first [] birth agree = refl
named_same s t first (object ∷ objects) birth agree =
    λ i. (agree.0 i && has (references_of_object object) birth)
    || named_same s t (suc first) objects birth agree.1 i

-- ---- how many are among them

abbrev bit : Bool → ℕ
bit true = 1
bit false = 0

count : (ℕ → Bool) → (first : ℕ) → Store → ℕ
count s first [] = 0
count s first (object ∷ objects) = bit (s first) + count s (suc first) objects

one_bit : (a : Bool) (m n : ℕ) → m ≤ n → bit a + m ≤ suc n
one_bit true m n le = omega (arith, le)
one_bit false m n le = omega (arith, le)

count_few : (s : ℕ → Bool) (first : ℕ) (store : Store) → count s first store ≤ length store
unfolding count
count_few s first [] = omega arith
count_few s first (object ∷ objects) =
    one_bit (s first) (count s (suc first) objects) (length objects)
    (count_few s (suc first) objects)

few : (a b : Bool) (m n : ℕ) → (a ≡ true → b ≡ true) → m ≤ n → bit a + m ≤ bit b + n
few true true m n more le = omega (arith, le)
few true false m n more le = absurd (let bad : false ≡ true = more refl in cc)
few false true m n more le = omega (arith, le)
few false false m n more le = omega (arith, le)

-- both are the same, or the other is more
more_or_same : (a b : Bool) (m n : ℕ) → (a ≡ true → b ≡ true) → m ≤ n
    → (a ≡ b) ⊎ (bit a + m < bit b + n)
more_or_same true true m n more le = inl refl
more_or_same true false m n more le = absurd (let bad : false ≡ true = more refl in cc)
more_or_same false true m n more le = inr (omega (arith, le))
more_or_same false false m n more le = inl refl

same_more : (a b : Bool) (m n : ℕ) → a ≡ b → m < n → bit a + m < bit b + n
same_more a b m n same lt =
    let both : bit a ≡ bit b = ap bit same in omega (arith, both, lt)

module _ (s t : ℕ → Bool) (part : (birth : ℕ) → s birth ≡ true → t birth ≡ true) where
  count_less : (first : ℕ) (store : Store) → count s first store ≤ count t first store
  unfolding count
  count_less first [] = omega arith
  count_less first (object ∷ objects) =
      few (s first) (t first) (count s (suc first) objects) (count t (suc first) objects)
      (part first) (count_less (suc first) objects)

  -- both agree there, or the other has more
  grows : (first : ℕ) (store : Store)
      → Agree s t first store ⊎ (count s first store < count t first store)
  unfolding count
  grows first [] = inl tt
  grows first (object ∷ objects) =
      let m = count s (suc first) objects in
      let n = count t (suc first) objects in
      elim (more_or_same (s first) (t first) m n (part first) (count_less (suc first) objects)) [
        | inl same ↦ elim (grows (suc first) objects) [
          | inl agree ↦ inl (same, agree)
          | inr lt ↦ inr (same_more (s first) (t first) m n same lt)
        ]
        | inr lt ↦ inr lt
      ]

-- ---- round by round

module _ (w : World) where
  abbrev next : (ℕ → Bool) → ℕ → Bool
  next s birth = s birth || named s 0 w.store birth

  found : (round : ℕ) → ℕ → Bool
  found zero = has (roots w)
  found (suc round) = next (found round)

  found_more : (round birth : ℕ) → found round birth ≡ true → found (suc round) birth ≡ true
  unfolding found
  found_more round birth is = or_one (found round birth) _ is

  found_root : (round birth : ℕ) → Contains (roots w) birth → found round birth ≡ true
  unfolding found
  found_root zero birth root = contains_has (roots w) birth root
  found_root (suc round) birth root = found_more round birth (found_root round birth root)

  -- what is found is reachable
  sound : (round birth : ℕ) → found round birth ≡ true → IsReachable w birth
  unfolding found
  sound zero birth is = is_root (has_contains (roots w) birth is)
  sound (suc round) birth is =
      elim (or_cases (found round birth) (named (found round) 0 w.store birth) is) [
        | inl before ↦ sound round birth before
        | inr by ↦ (let n = namer (found round) 0 w.store birth by in let at = n.at in
            let same : n.place ≡ n.from = omega (arith, at) in
            is_named (sound round n.from n.among)
            (subst (λ k. Contains (references_at w.store k) birth) same n.names))
      ]

  -- a round that adds nothing in the store
  record Settled : Type 0 where
    round : ℕ
    agree : Agree (found round) (found (suc round)) 0 w.store

  settles : (fuel round : ℕ) → length w.store ≤ count (found round) 0 w.store + fuel → Settled
  settles zero round enough =
      elim (grows (found round) (found (suc round)) (found_more round) 0 w.store) [
        | inl agree ↦ record { round = round; agree = agree }
        | inr lt ↦ (let few = count_few (found (suc round)) 0 w.store in
            absurd (omega (arith, lt, few, enough)))
      ]
  settles (suc fuel) round enough =
      elim (grows (found round) (found (suc round)) (found_more round) 0 w.store) [
        | inl agree ↦ record { round = round; agree = agree }
        | inr lt ↦ settles fuel (suc round) (omega (arith, lt, enough))
      ]

  settled : Settled
  settled = settles (length w.store) 0 (omega arith)

  -- the next round adds nothing at all
  or_twice : (a b : Bool) → (a || b) || b ≡ a || b
  or_twice true b = refl
  or_twice false true = refl
  or_twice false false = refl

  abbrev last : ℕ → Bool
  last = found (suc settled.round)

  closed : (birth : ℕ) → last birth || named last 0 w.store birth ≡ last birth
  unfolding found
  closed birth =
      let s = found settled.round in
      ap (λ b. (s birth || named s 0 w.store birth) || b)
      (sym (named_same s last 0 w.store birth settled.agree))
      ∙ or_twice (s birth) (named s 0 w.store birth)

  complete : (birth : ℕ) → IsReachable w birth → last birth ≡ true
  complete birth (is_root root) = found_root (suc settled.round) birth root
  complete birth (is_named {from = from} reach names) =
      sym (closed birth)
      ∙ or_two (last birth) (named last 0 w.store birth)
      (names_it last 0 w.store from from birth (omega arith) (complete from reach) names)

  pub exists : (words : ℕ) × Live w words
  exists = (
    words_reached last 0 w.store,
    record {
      reached = last;
      exact = λ birth. (sound (suc settled.round) birth, complete birth);
      total = refl;
    },
  )

-- under 'unfolding finding' the number is computed
unfoldable pub finding : ℕ
unfolding has or_cases and_parts has_contains contains_has named count one_bit count_few few
    more_or_same grows found settles settled exists
finding = 0

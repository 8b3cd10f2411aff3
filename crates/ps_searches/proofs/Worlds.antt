-- Worlds that are kept, and those that are followed.
use Rattle.std.proofs.Common.{◌≡◌, ℕ, ◌+◌, ◌<◌, ◌≤◌, None, Some, List, [], ◌∷◌, ◌++◌, length, get_or, append_assoc, refl, sym, ◌∙◌, ap, subst, inl, inr, arith}
use Rattle.std.specs.Prelude.{All, Any, Contains, Bool, true, false, Option, zero, suc, is_some, IsSome, slice_get, ◌↔◌}
use Rattle.std.proofs.lemmas.Bool.{cases_eq, cases_lt, true≢false}
use Rattle.std.proofs.lemmas.List.{append-nil, length-append}
use Rattle.std.proofs.lemmas.List.Quantifiers.{all_pairs_push}
use Rattle.std.proofs.lemmas.List.Elements.{All-contains, All-push, Contains-append_left, Contains-push}
use Rattle.std.proofs.lemmas.Option.{get_or_from_slice_get, slice_get-get_or, slice_get_within, slice_get_read}
use Rattle.std.proofs.lemmas.List.{get_or_append_left}
use Rattle.ps_searches.specs.Searches.{Prices, IsOver, IsProper, IsNextAbove, IsNoneAbove, AddsEnding, Keeps}
use Rattle.ps_searches.specs.Graphs.{EveryEnd, IsEndOf, IsKept, AreKept, AreNear, AreNearTo, AreAll, AreFollowed, AddsWays, AreBetween, count_to, one_if, IsKnown, LeadsInto, IsFollowed, IsToldAt, Grows}
use Rattle.ps_searches.proofs.Paths.{none_some}
use Rattle.ps_searches.proofs.Telling.{any_of, among_of}

pub none_can : (found : Option ℕ) → found ≡ None → IsSome found → ⊥
none_can None is some = true≢false (sym some)
none_can (Some n) is some = none_some (sym is)

-- ---- growing

pub grows_not : {X : Type 0} (items : List X) → Grows items items
grows_not items = ([], sym (append-nil items))

pub grows_push : {X : Type 0} (items : List X) (one : X) → Grows items (items ++ one ∷ [])
grows_push items one = (one ∷ [], refl)

pub grows_twice : {X : Type 0} (a b c : List X) → Grows a b → Grows b c → Grows a c
grows_twice {X} a b c ab bc =
    (ab.0 ++ bc.0, bc.1 ∙ (ap (λ (l : List X). l ++ bc.0) ab.1 ∙ append_assoc a ab.0 bc.0))

pub longer : {X : Type 0} (old new : List X) → Grows old new → length old ≤ length new
longer old new grows =
    let all : length new ≡ length (old ++ grows.0) = ap length grows.1 in
    omega (arith, all, length-append old grows.0)

-- ---- places

-- what stands there
pub some_at : {X : Type 0} (items : List X) (place : ℕ) → place < length items
    → (one : X) × (slice_get items place ≡ Some one)
some_at [] place within = absurd (omega (arith, within))
some_at (one ∷ items) place within =
    (get_or (one ∷ items) place one, slice_get-get_or (one ∷ items) place one within)

-- where something stands
pub contains_at : {X : Type 0} (items : List X) (place : ℕ) (one : X)
    → slice_get items place ≡ Some one → Contains items one
contains_at items place one at =
    (place, slice_get_within items place one at, get_or_from_slice_get items place one one at)

pub still_at : {X : Type 0} (old new : List X) (place : ℕ) (one : X) → Grows old new
    → slice_get old place ≡ Some one → slice_get new place ≡ Some one
still_at {X} old new place one grows at =
    let within = slice_get_within old place one at in
    subst (λ (l : List X). slice_get l place ≡ Some one) (sym grows.1)
    (slice_get_read (old ++ grows.0) (length (old ++ grows.0)) place one refl
    (omega (arith, within, length-append old grows.0))
    (sym (get_or_append_left old grows.0 one place within
    ∙ get_or_from_slice_get old place one one at)))

-- at a place of the old ones stands what stood there
pub was_at : {X : Type 0} (old new : List X) (place : ℕ) (one : X) → Grows old new
    → place < length old → slice_get new place ≡ Some one → slice_get old place ≡ Some one
was_at {X} old new place one grows within at =
    let here : slice_get (old ++ grows.0) place ≡ Some one =
    subst (λ (l : List X). slice_get l place ≡ Some one) grows.1 at in
    slice_get_read old (length old) place one refl within
    (sym (sym (get_or_append_left old grows.0 one place within)
    ∙ get_or_from_slice_get (old ++ grows.0) place one one here))

-- ---- paths

-- one step more
pub proper_push : (price : Prices) (path more : List ℕ) (context : ℕ)
    → IsProper price path more → IsSome (price (path ++ more) context)
    → IsProper price path (more ++ context ∷ [])
proper_push price path [] context proper can =
    (subst (λ (p : List ℕ). IsSome (price p context)) (append-nil path) can, tt)
proper_push price path (one ∷ more) context proper can = (
  proper.0,
  proper_push price (path ++ one ∷ []) more context proper.1
      (subst (λ (p : List ℕ). IsSome (price p context)) (sym (append_assoc path (one ∷ []) more))
      can),
)

-- no context has the number 0
pub over_all : (price : Prices) (path : List ℕ) → price path 0 ≡ None
    → IsNoneAbove price path 0 → IsOver price path
over_all price path nobody above context =
    elim (cases_lt 0 context) [
      | inl some ↦ above context some
      | inr none ↦
          let same : context ≡ 0 = omega (arith, none) in
          ap (price path) same ∙ nobody
    ]

-- ---- how many contexts can step

module _ (price : Prices) (path : List ℕ) where
  pub count_same : (n after : ℕ) → after ≤ n
      → ((context : ℕ) → after < context → context ≤ n → price path context ≡ None)
      → count_to price path n ≡ count_to price path after
  unfolding count_to
  count_same zero after within none =
      let same : 0 ≡ after = omega (arith, within) in
      ap (count_to price path) same
  count_same (suc n) after within none = elim (cases_eq (suc n) after) [
    | inl same ↦ ap (count_to price path) same
    | inr differs ↦
        let nobody : price path (suc n) ≡ None =
        none (suc n) (omega (arith, within, differs)) (omega arith) in
        let here : one_if (is_some (price path (suc n))) ≡ one_if false =
        ap (λ (found : Option ℕ). one_if (is_some found)) nobody in
        let before = count_same n after (omega (arith, within, differs))
        (λ context above below. none context above (omega (arith, below))) in
        omega (arith, here, before)
  ]

  pub none_counted : (total : ℕ) → total ≡ total + count_to price path 0
  unfolding count_to
  none_counted total = omega arith

  -- the next that can step is one more
  pub count_next : (after at : ℕ) → IsNextAbove price path after at
      → count_to price path at ≡ count_to price path after + 1
  unfolding count_to
  count_next after zero next = absurd (let above = next.above in omega (arith, above))
  count_next after (suc n) next =
      let above = next.above in
      let here : one_if (is_some (price path (suc n))) ≡ one_if true = ap one_if next.can in
      let before = count_same n after (omega (arith, above))
      (λ context beyond below. next.least context beyond (omega (arith, below))) in
      omega (arith, here, before)

module _ {I S : Type 0} (price : Prices) (IsImage : I → (path : List ℕ) → Type 0)
    (Makes : S → (path : List ℕ) → Type 0) (steps : S → ℕ) where
  -- ---- how near they are

  pub near_one : (kept : List (I × S)) (limit place : ℕ) (one : I × S)
      → AreNear price IsImage Makes steps kept limit → slice_get kept place ≡ Some one
      → steps one.1 ≤ limit
  near_one kept limit place one near at =
      All-contains (λ (o : I × S). steps o.1 ≤ limit) kept one near (contains_at kept place one at)

  pub near_further : (kept : List (I × S)) (limit further : ℕ) → limit ≤ further
      → AreNear price IsImage Makes steps kept limit
      → AreNear price IsImage Makes steps kept further
  near_further kept limit further more near place d within =
      let here = near place d within in
      omega (arith, here, more)

  pub known_further : (kept : List (I × S)) (limit further : ℕ) (path : List ℕ) → limit ≤ further
      → IsKnown price IsImage Makes steps kept limit path
      → IsKnown price IsImage Makes steps kept further path
  known_further kept limit further path more known =
      any_of _ kept known.1 (among_of _ kept known)
      (record { image = known.4.image; near = let near = known.4.near in omega (arith, near, more) })

  -- what stands later has as many steps
  pub rises : (most : ℕ) (kept : List (I × S)) (j k : ℕ) (one later : I × S)
      → AreKept price IsImage Makes steps most kept → slice_get kept j ≡ Some one
      → slice_get kept k ≡ Some later → j ≤ k → steps one.1 ≤ steps later.1
  rises most kept j k one later all first second before =
      elim (cases_eq j k) [
        | inl same ↦
            let both : Some one ≡ Some later =
            sym first ∙ (ap (slice_get kept) same ∙ second) in
            let is : one ≡ later = cc in
            subst (λ (o : I × S). steps one.1 ≤ steps o.1) is (omega arith)
        | inr differs ↦
            let less : j < k = omega (arith, before, differs) in
            subst (λ (o : I × S). steps one.1 ≤ steps o.1)
            (get_or_from_slice_get kept k later one second)
            (subst (λ (o : I × S). steps o.1 ≤ steps (get_or kept k one).1)
            (get_or_from_slice_get kept j one one first)
            (all.rising j k one less (slice_get_within kept k later second)))
      ]

  -- ---- which are known

  pub still_known : (old new : List (I × S)) (limit : ℕ) (path : List ℕ) → Grows old new
      → IsKnown price IsImage Makes steps old limit path
      → IsKnown price IsImage Makes steps new limit path
  still_known old new limit path grows known =
      subst (λ (kept : List (I × S)). IsKnown price IsImage Makes steps kept limit path)
      (sym grows.1)
      (any_of _ (old ++ grows.0) known.1
      (Contains-append_left old grows.0 known.1 (among_of _ old known)) known.4)

  -- an equal image is kept
  pub known_alike : (eq : I → I → Bool) → ((a b : I) (path : List ℕ) → eq a b ≡ true
      → IsImage a path → IsImage b path) → (kept : List (I × S)) (limit : ℕ) (image : I)
      (path : List ℕ) → AreNear price IsImage Makes steps kept limit
      → Any (λ (e : I × S). eq image e.0 ≡ true) kept → IsImage image path
      → IsKnown price IsImage Makes steps kept limit path
  known_alike eq alike kept limit image path near some is =
      any_of _ kept some.1 (among_of _ kept some)
      (record {
        image = alike image some.1.0 path some.4 is;
        near = All-contains (λ (o : I × S). steps o.1 ≤ limit) kept some.1 near
            (among_of _ kept some);
      })

  -- it is the last
  pub known_push : (kept new : List (I × S)) (one : I × S) (limit : ℕ) (path : List ℕ)
      → new ≡ kept ++ one ∷ [] → steps one.1 ≡ limit → IsImage one.0 path
      → IsKnown price IsImage Makes steps new limit path
  known_push kept new one limit path grown is image =
      subst (λ (all : List (I × S)). IsKnown price IsImage Makes steps all limit path) (sym grown)
      (any_of _ (kept ++ one ∷ []) one (Contains-push kept one)
      (record { image = image; near = omega (arith, is) }))

  pub near_push : (kept new : List (I × S)) (one : I × S) (limit : ℕ) → new ≡ kept ++ one ∷ []
      → steps one.1 ≡ limit → AreNear price IsImage Makes steps kept limit
      → AreNear price IsImage Makes steps new limit
  near_push kept new one limit grown is near =
      subst (λ (all : List (I × S)). AreNear price IsImage Makes steps all limit) (sym grown)
      (All-push (λ (o : I × S). steps o.1 ≤ limit) kept one near (omega (arith, is)))

  pub kept_push : (most : ℕ) (kept new : List (I × S)) (one : I × S) (limit : ℕ)
      → new ≡ kept ++ one ∷ [] → steps one.1 ≡ limit
      → AreKept price IsImage Makes steps most kept
      → AreNear price IsImage Makes steps kept limit → length kept < most
      → IsKept price IsImage Makes steps one → AreKept price IsImage Makes steps most new
  kept_push most kept new one limit grown is all near less here =
      subst (AreKept price IsImage Makes steps most) (sym grown)
      (record {
        each = All-push (IsKept price IsImage Makes steps) kept one all.each here;
        rising = all_pairs_push (λ (a b : I × S). steps a.1 ≤ steps b.1) kept one all.rising
            (λ k d within. let before = near k d within in omega (arith, before, is));
        within = omega (arith, less, length-append kept (one ∷ []));
      })

  -- ---- steps from one place

  -- one context more was looked at, the next that can step
  pub one_followed : (old new : List (I × S)) (one : I × S) (after at : ℕ) → Grows old new
      → ((path : List ℕ) → IsImage one.0 path → IsNextAbove price path after at)
      → ((path : List ℕ) → IsImage one.0 path → (context : ℕ) → context ≤ after
      → IsSome (price path context)
      → IsKnown price IsImage Makes steps old (steps one.1 + 1) (path ++ context ∷ []))
      → ((path : List ℕ) → IsImage one.0 path
      → IsKnown price IsImage Makes steps new (steps one.1 + 1) (path ++ at ∷ []))
      → (path : List ℕ) → IsImage one.0 path → (context : ℕ) → context ≤ at
      → IsSome (price path context)
      → IsKnown price IsImage Makes steps new (steps one.1 + 1) (path ++ context ∷ [])
  one_followed old new one after at grows next before here path is context within can =
      elim (cases_eq context at) [
        | inl same ↦ subst
            (λ (c : ℕ). IsKnown price IsImage Makes steps new (steps one.1 + 1) (path ++ c ∷ []))
            (sym same) (here path is)
        | inr differs ↦ elim (cases_lt after context) [
          | inl above ↦
              let less : context < at = omega (arith, within, differs) in
              absurd (none_can (price path context) ((next path is).least context above less) can)
          | inr below ↦ still_known old new (steps one.1 + 1) (path ++ context ∷ []) grows
              (before path is context below can)
        ]
      ]

  -- above that one none can step
  pub all_followed : (kept : List (I × S)) (one : I × S) (after : ℕ)
      → ((path : List ℕ) → IsImage one.0 path → IsNoneAbove price path after)
      → ((path : List ℕ) → IsImage one.0 path → (context : ℕ) → context ≤ after
      → IsSome (price path context)
      → IsKnown price IsImage Makes steps kept (steps one.1 + 1) (path ++ context ∷ []))
      → LeadsInto price IsImage Makes steps kept one
  all_followed kept one after none below path is context can =
      elim (cases_lt after context) [
        | inl above ↦ absurd (none_can (price path context) (none path is context above) can)
        | inr within ↦ below path is context within can
      ]

  -- ---- how many steps lead on

  pub still_between : (old new : List (I × S)) (count total : ℕ) → Grows old new
      → AreBetween price IsImage Makes steps old count total
      → AreBetween price IsImage Makes steps new count total
  still_between old new zero total grows none = none
  still_between old new (suc place) total grows between = (
    between.0,
    between.1,
    between.2,
    record {
      one = between.3.one;
      at = still_at old new place between.3.one grows between.3.at;
      path = between.3.path;
      image = between.3.image;
      has = between.3.has;
    },
    still_between old new place between.0 grows between.4,
  )

  pub more_between : (old new : List (I × S)) (place total more : ℕ) → Grows old new
      → AreBetween price IsImage Makes steps old place total
      → AddsWays price IsImage Makes steps old place total more
      → AreBetween price IsImage Makes steps new (place + 1) more
  more_between old new place total more grows between adds =
      subst (λ (count : ℕ). AreBetween price IsImage Makes steps new count more)
      (let next : suc place ≡ place + 1 = omega arith in next)
      (still_between old new (suc place) more grows (total, adds.0, adds.1, adds.2, between))

  -- ---- all of them

  module _ {E : Type 0} (Ends : (schedule : List ℕ) → E → Type 0) where
    -- none is, and the start is known
    pub none_followed : (kept : List (I × S)) (told : List (E × S)) (limit : ℕ) → limit ≡ 0
        → IsKnown price IsImage Makes steps kept limit []
        → AreNear price IsImage Makes steps kept limit
        → AreFollowed price IsImage Makes steps Ends kept told 0
    none_followed kept told limit here known near = record {
      first = known_further kept limit 0 [] (omega (arith, here)) known;
      followed = λ place less. absurd (omega (arith, less));
      tells = λ place less. absurd (omega (arith, less));
      near = λ one is. near_further kept limit (steps one.1 + 1) (omega (arith, here)) near;
    }

    -- one more is followed and told
    pub more_followed : (most : ℕ) (old new : List (I × S)) (told more : List (E × S)) (at : ℕ)
        → Grows old new → at < length old → Keeps Ends told more
        → AreKept price IsImage Makes steps most new
        → AreFollowed price IsImage Makes steps Ends old told at
        → AreNearTo price IsImage Makes steps old at new
        → IsFollowed price IsImage Makes steps new at
        → IsToldAt price IsImage Makes steps Ends new more at
        → AreFollowed price IsImage Makes steps Ends new more (at + 1)
    more_followed most old new told more at grows within keeps kept before near followed tells =
        record {
          first = still_known old new 0 [] grows before.first;
          followed = λ place less. elim (cases_eq place at) [
            | inl same ↦ subst (IsFollowed price IsImage Makes steps new) (sym same) followed
            | inr differs ↦
                let below : place < at = omega (arith, less, differs) in
                let inside : place < length old = omega (arith, below, within) in
                λ one is path image context can.
                still_known old new (steps one.1 + 1) (path ++ context ∷ []) grows
                (before.followed place below one (was_at old new place one grows inside is) path
                image context can)
          ];
          tells = λ place less. elim (cases_eq place at) [
            | inl same ↦ subst (IsToldAt price IsImage Makes steps Ends new more) (sym same) tells
            | inr differs ↦
                let below : place < at = omega (arith, less, differs) in
                let inside : place < length old = omega (arith, below, within) in
                λ one is path image over. keeps path
                (before.tells place below one (was_at old new place one grows inside is) path
                image over)
          ];
          near = λ one is.
              let here = some_at old at within in
              near_further new (steps here.0.1 + 1) (steps one.1 + 1)
              (let rise = rises most new at (at + 1) here.0 one kept
              (still_at old new at here.0 grows here.1) is (omega arith) in omega (arith, rise))
              (near here.0 here.1);
        }

    -- where a schedule of no more steps than this leads is among those that are followed before it,
    -- or known with as many steps
    pub known_near : (most : ℕ) (kept : List (I × S)) (told : List (E × S)) (at limit : ℕ)
        → AreKept price IsImage Makes steps most kept
        → AreFollowed price IsImage Makes steps Ends kept told at
        → ((k : ℕ) (one : I × S) → slice_get kept k ≡ Some one → steps one.1 < limit → k < at)
        → (path more : List ℕ) → IsKnown price IsImage Makes steps kept (length path) path
        → IsProper price path more → length path + length more ≤ limit
        → IsKnown price IsImage Makes steps kept (length path + length more) (path ++ more)
    known_near most kept told at limit all followed before path [] known proper short =
        let end : path ++ [] ≡ path = append-nil path in
        subst (IsKnown price IsImage Makes steps kept (length path + 0)) (sym end)
        (known_further kept (length path) (length path + 0) path (omega arith) known)
    known_near most kept told at limit all followed before path (context ∷ more) known proper short =
        let place : slice_get kept known.0 ≡ Some known.1 =
        slice_get_read kept (length kept) known.0 known.1 refl known.2 (sym known.3) in
        let near = known.4.near in
        let same : (path ++ context ∷ []) ++ more ≡ path ++ context ∷ more =
        append_assoc path (context ∷ []) more in
        let long : length (path ++ context ∷ []) ≡ length path + 1 =
        length-append path (context ∷ []) in
        let early : known.0 < at =
        before known.0 known.1 place (omega (arith, near, short)) in
        let next : IsKnown price IsImage Makes steps kept (length (path ++ context ∷ []))
        (path ++ context ∷ []) =
        known_further kept (steps known.1.1 + 1) (length (path ++ context ∷ []))
        (path ++ context ∷ []) (omega (arith, near, long))
        (followed.followed known.0 early known.1 place path known.4.image context proper.0) in
        let rest = known_near most kept told at limit all followed before (path ++ context ∷ [])
        more next proper.1 (omega (arith, long, short)) in
        subst (IsKnown price IsImage Makes steps kept (length path + length (context ∷ more))) same
        (known_further kept (length (path ++ context ∷ []) + length more)
        (length path + length (context ∷ more)) ((path ++ context ∷ []) ++ more)
        (omega (arith, long)) rest)

    -- what stands with fewer steps than the one at this place stands before it
    pub is_before : (most : ℕ) (kept : List (I × S)) (at : ℕ) (here : I × S)
        → AreKept price IsImage Makes steps most kept → slice_get kept at ≡ Some here
        → (k : ℕ) (one : I × S) → slice_get kept k ≡ Some one → steps one.1 < steps here.1
        → k < at
    is_before most kept at here all is k one stands less =
        elim (cases_lt k at) [
          | inl before ↦ before
          | inr behind ↦
              let rise = rises most kept at k here one all is stands behind in
              absurd (omega (arith, rise, less))
        ]

    -- where none that is told is equal to the ending here, none that ends so is shorter
    pub least_here : (eq : E → E → Bool) → ((schedule : List ℕ) (a b : E) → Ends schedule a
        → Ends schedule b ↔ (eq a b ≡ true)) → (most : ℕ) (kept : List (I × S))
        (told : List (E × S)) (at : ℕ) (here : I × S) (ending : E)
        → AreKept price IsImage Makes steps most kept
        → AreFollowed price IsImage Makes steps Ends kept told at
        → slice_get kept at ≡ Some here
        → ((one : E × S) → Contains told one → eq ending one.0 ≡ false)
        → (other : List ℕ) → IsProper price [] other → IsOver price other → Ends other ending
        → steps here.1 ≤ length other
    least_here eq equal most kept told at here ending all followed is none other proper over ends =
        elim (cases_lt (length other) (steps here.1)) [
          | inr fits ↦ fits
          | inl less ↦
              let known = known_near most kept told at (length other) all followed
              (λ k one stands fewer. is_before most kept at here all is k one stands
              (omega (arith, fewer, less))) [] other followed.first proper (omega arith) in
              let place : slice_get kept known.0 ≡ Some known.1 =
              slice_get_read kept (length kept) known.0 known.1 refl known.2 (sym known.3) in
              let near = known.4.near in
              let early : known.0 < at = is_before most kept at here all is known.0 known.1 place
              (omega (arith, near, less)) in
              let among = followed.tells known.0 early known.1 place other known.4.image over in
              absurd (true≢false (sym ((equal other ending among.1.0 ends).0 among.4)
              ∙ none among.1 (among_of _ told among)))
        ]

    -- ---- where no step leads out of them

    pub all_known : (most : ℕ) (kept : List (I × S)) (told : List (E × S)) (at : ℕ)
        → length kept ≤ at → AreKept price IsImage Makes steps most kept
        → AreFollowed price IsImage Makes steps Ends kept told at
        → (path : List ℕ) → IsProper price [] path
        → IsKnown price IsImage Makes steps kept (length path) path
    all_known most kept told at whole all followed path proper =
        known_further kept (0 + length path) (length path) path (omega arith)
        (known_near most kept told at (length path) all followed
        (λ k one is less. let within = slice_get_within kept k one is in
        omega (arith, within, whole)) [] path followed.first proper (omega arith))

    -- they are all
    pub are_all : (most : ℕ) (kept : List (I × S)) (told : List (E × S)) (at : ℕ)
        → length kept ≤ at → AreKept price IsImage Makes steps most kept
        → AreFollowed price IsImage Makes steps Ends kept told at
        → AreAll price IsImage Makes steps kept
    are_all most kept told at whole all followed path proper =
        let known = all_known most kept told at whole all followed path proper in
        any_of _ kept known.1 (among_of _ kept known) known.4.image

    -- and every ending is told
    pub every_end : (most : ℕ) (kept : List (I × S)) (told : List (E × S)) (at : ℕ)
        → length kept ≤ at → AreKept price IsImage Makes steps most kept
        → AreFollowed price IsImage Makes steps Ends kept told at → EveryEnd price Ends told
    every_end most kept told at whole all followed path proper over =
        let known = all_known most kept told at whole all followed path proper in
        let place : slice_get kept known.0 ≡ Some known.1 =
        slice_get_read kept (length kept) known.0 known.1 refl known.2 (sym known.3) in
        let within = known.2 in
        followed.tells known.0 (omega (arith, within, whole)) known.1 place path known.4.image over

    -- ---- endings

    pub added_ends : (eq : E → E → Bool) (old new : List (E × S)) (one : E × S)
        → AddsEnding eq old one new → All (IsEndOf price Ends Makes) old
        → (((told : E × S) → Contains old told → eq one.0 told.0 ≡ false)
        → IsEndOf price Ends Makes one) → All (IsEndOf price Ends Makes) new
    added_ends eq old new one (inl same) each here =
        subst (All (IsEndOf price Ends Makes)) (sym same.0) each
    added_ends eq old new one (inr added) each here =
        subst (All (IsEndOf price Ends Makes)) (sym added.0)
        (All-push (IsEndOf price Ends Makes) old one each (here added.1))

-- Lines of callers one behind another.
use Rattle.std.proofs.Common.{◌≡◌, ap, sym, ◌∙◌, ℕ, ◌+◌, ◌-◌, ◌<◌, ◌≤◌, List, ◌++◌, length, take, min, get_or, arith}
use Rattle.std.specs.Prelude.{Result, Ok, Err, OnErr}
use Rattle.std.specs.List.{flat_map}
use Rattle.std.proofs.lemmas.List.{length-append, length-take, take_more, take_min, flat_map_more, take-take}
use Rattle.std.proofs.lemmas.List.Folds.{length-flat_map-take}
use Rattle.ps_views.specs.Places.{more_text}

-- what stands in front of what stands in front
pub front_through : (old before new : List ℕ) → take (length old) before ≡ old → take (length before) new ≡ before
    → take (length old) new ≡ old
front_through old before new e f =
    let short : length old ≤ length before =
    omega (arith, sym (length-take (length old) before) ∙ ap length e) in
    sym (take-take (length old) (length before) new short) ∙ ap (take (length old)) f ∙ e

-- what is so is so at an error
pub given_err : {T E P : Type 0} → (r : Result T E) → P → OnErr r P
given_err (Ok x) p = tt
given_err (Err e) p = p

pub each_more : {T : Type 0} → (f : T → List ℕ) (xs : List T) (i : ℕ) (d : T) (old before new : List ℕ) → i < length xs
    → before ≡ old ++ flat_map f (take i xs) → new ≡ before ++ f (get_or xs i d)
    → new ≡ old ++ flat_map f (take (i + 1) xs)
each_more f xs i d old before new h e g = g ∙ ap (λ x. x ++ f (get_or xs i d)) e
    ∙ flat_map_more f old (take i xs) (get_or xs i d)
    ∙ ap (λ x. old ++ flat_map f x) (sym (take_more xs i d h))

pub each_full : {T : Type 0} → (f : T → List ℕ) (xs : List T) (i : ℕ) (d : T) (least room : ℕ) (old before : List ℕ)
    → i < length xs → before ≡ old ++ flat_map f (take i xs) → least ≤ room
    → room < length (before ++ f (get_or xs i d)) → least < length (old ++ flat_map f xs)
each_full f xs i d least room old before h e low full =
    omega (
      arith,
      full,
      low,
      length-append before (f (get_or xs i d)),
      ap length e,
      length-append old (flat_map f (take i xs)),
      length-append old (flat_map f xs),
      length-flat_map-take f xs i d h,
    )

pub told_full : {T : Type 0} → (f : T → List ℕ) (xs : List T) (told least room : ℕ) (old x a : List ℕ)
    → told ≡ min (length xs) 10 → x ≡ old ++ a → a ≡ flat_map f (take told xs) → least ≤ room
    → room < length (x ++ more_text (length xs - told))
    → least < length (old ++ (flat_map f (take 10 xs) ++ more_text (length xs - 10)))
told_full f xs told least room old x a t e g low full =
    let same : take told xs ≡ take 10 xs =
    ap (λ n. take n xs) (omega (arith, t)) ∙ take_min 10 xs in
    let rest : length xs - told ≡ length xs - 10 = omega (arith, t) in
    omega (
      arith,
      full,
      low,
      length-append x (more_text (length xs - told)),
      ap length e,
      length-append old a,
      ap length (g ∙ ap (flat_map f) same),
      ap (λ n. length (more_text n)) rest,
      length-append old (flat_map f (take 10 xs) ++ more_text (length xs - 10)),
      length-append (flat_map f (take 10 xs)) (more_text (length xs - 10)),
    )

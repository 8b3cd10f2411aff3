-- Names, by how many bytes each has.
use Rattle.std.proofs.Common.{◌≡◌, ◌<◌, ◌≤◌, ℕ, ◌+◌, List, [], ◌∷◌, ◌++◌, length, drop, sum, take, refl, sym, ap, ◌∙◌, arith, length-drop, append_assoc}
use Rattle.std.specs.Prelude.{slice_get, unwrap_or}
use Rattle.std.proofs.lemmas.List.{drop-append-le, take-append-le, take_all, take_more}
use Rattle.std.proofs.lemmas.List.Sums.{sum_by-cons}
use Rattle.std.proofs.lemmas.Option.{unwrap_or-slice_get}
use Rattle.ps_language.specs.Worlds.{first_names}
use Rattle.ps_ops_operands.specs.FirstNames.{BeginWithFirst}
use Rattle.ps_worlds.specs.Images.{cut_at}

no_bytes : (bytes : List ℕ) → 0 ≡ length bytes → bytes ≡ []
no_bytes [] none = refl
no_bytes (byte ∷ bytes) none = absurd (omega (arith, none))

-- one more behind them
names_more : (lengths bytes name : List ℕ) → sum lengths ≡ length bytes
    → cut_at (lengths ++ length name ∷ []) (bytes ++ name) ≡ cut_at lengths bytes ++ name ∷ []
names_more [] bytes name whole =
    ap (λ (before : List ℕ). take (length name) (before ++ name) ∷ []) (no_bytes bytes whole)
    ∙ ap (λ (text : List ℕ). text ∷ []) (take_all (length name) name (omega arith))
names_more (count ∷ lengths) bytes name whole =
    let total : sum (count ∷ lengths) ≡ count + sum lengths =
    sum_by-cons (λ (n : ℕ). n) count lengths in
    let within : count ≤ length bytes = omega (arith, whole, total) in
    let left = length-drop count bytes in
    let rest : sum lengths ≡ length (drop count bytes) = omega (arith, whole, total, left) in
    ap (λ (text : List ℕ). text ∷ cut_at (lengths ++ length name ∷ []) (drop count (bytes ++ name)))
    (take-append-le count bytes name within)
    ∙ ap (λ (names : List (List ℕ)). take count bytes ∷ names)
    (ap (cut_at (lengths ++ length name ∷ [])) (drop-append-le count bytes name within)
    ∙ names_more lengths (drop count bytes) name rest)

pub push_names : (lengths bytes name more_lengths more_bytes : List ℕ)
    → sum lengths ≡ length bytes → more_lengths ≡ lengths ++ length name ∷ []
    → more_bytes ≡ bytes ++ name
    → first_names ++ cut_at more_lengths more_bytes
    ≡ (first_names ++ cut_at lengths bytes) ++ name ∷ []
push_names lengths bytes name more_lengths more_bytes whole longer added =
    ap (λ (counts : List ℕ). first_names ++ cut_at counts more_bytes) longer
    ∙ (ap (λ (all : List ℕ). first_names ++ cut_at (lengths ++ length name ∷ []) all) added
    ∙ (ap (λ (names : List (List ℕ)). first_names ++ names) (names_more lengths bytes name whole)
    ∙ sym (append_assoc first_names (cut_at lengths bytes) (name ∷ []))))

-- how many there are at the start
pub first_count : length first_names ≡ 134
unfolding first_names
first_count = refl

pub first_taken : (names : List (List ℕ)) (count : ℕ) → count ≡ 134 → BeginWithFirst names
    → first_names ≡ take count names
first_taken names count is begin =
    sym begin ∙ ap (λ (n : ℕ). take n names) (first_count ∙ sym is)

-- one number more
pub taken_more : (image names : List (List ℕ)) (number : ℕ) (text : List ℕ)
    → image ≡ take number names → number < length names
    → text ≡ unwrap_or (slice_get names number) []
    → image ++ text ∷ [] ≡ take (number + 1) names
taken_more image names number text before within is =
    ap (λ (all : List (List ℕ)). all ++ text ∷ []) before
    ∙ (ap (λ (one : List ℕ). take number names ++ one ∷ [])
    (is ∙ unwrap_or-slice_get names number [])
    ∙ sym (take_more names number [] within))

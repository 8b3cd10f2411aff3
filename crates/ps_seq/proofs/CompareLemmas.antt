-- Two parts of strings, a run of bytes after another.
use Rattle.std.proofs.Common.{◌≡◌, ◌≢◌, ℕ, ◌+◌, ◌-◌, ◌<◌, ◌≤◌, ◌⊎◌, List, [], ◌∷◌, ◌++◌, length, take, drop, Less, Equal, Greater, Ordering, refl, sym, ap, arith, ◌∙◌, inl, inr, length-drop}
use Rattle.std.specs.Prelude.{◌↔◌, slice_range}
use Rattle.std.specs.Ordering.{nat_cmp, ordering_then}
use Rattle.std.specs.Cmp.Lexicographic.{slice_cmp}
use Rattle.std.proofs.lemmas.Bool.{cases_lt}
use Rattle.std.proofs.lemmas.Bool.Decides.{nat_tests}
use Rattle.std.proofs.lemmas.Cmp.{nat_list_cmp_total, tied_itself}
use Rattle.std.proofs.lemmas.Map.Lookups.{exact_bytes}
use Rattle.std.proofs.lemmas.List.{length-take-le, drop_more, drop_all, drop-drop, take-append-drop}
use Rattle.ps_seq.proofs.TextLemmas.{run-take}

-- ---- the bytes of a part

pub length_part : (t : List ℕ) (offset count : ℕ) → offset + count ≤ length t → length
    (slice_range t offset (offset + count)) ≡ count
length_part t offset count within =
    let long : (offset + count) - offset ≡ count = omega arith in
    ap (λ n. length (take n (drop offset t))) long ∙ length-take-le count (drop offset t) (omega
    (arith, within, length-drop offset t))

-- a run of a part's bytes
module _ (t : List ℕ) (offset long index count : ℕ) (within : offset + long ≤ length t)
    (inside : index + count ≤ long) (run : List ℕ)
    (is : run ≡ slice_range t (offset + index) (offset + index + count)) where
  abbrev whole : List ℕ
  whole = slice_range t offset (offset + long)

  run_is : run ≡ take count (drop index whole)
  run_is =
      let few : offset + index + count - (offset + index) ≡ count = omega arith in
      let all : offset + long - offset ≡ long = omega arith in
      is
      ∙ (ap (λ n. take n (drop (offset + index) t)) few
      ∙ (ap (take count) (sym (drop-drop index offset t))
      ∙ (sym (run-take long (drop offset t) index count inside)
      ∙ ap (λ n. take count (drop index (take n (drop offset t)))) (sym all))))

  pub run_more : drop index whole ≡ run ++ drop (index + count) whole
  run_more =
      sym (take-append-drop count (drop index whole))
      ∙ (λ k. sym run_is k ++ drop-drop count index whole k)

  pub run_length : length run ≡ count
  run_length = ap length run_is
      ∙ length-take-le count (drop index whole)
      (omega (arith, inside, length-drop index whole, length_part t offset long within))

-- ---- the order

then_then : (a b c : Ordering) → ordering_then (ordering_then a b) c
    ≡ ordering_then a (ordering_then b c)
then_then Less b c = refl
then_then Equal b c = refl
then_then Greater b c = refl

-- runs of the same length decide, and where they are the same what stands behind them does
cmp-append : (xs ys vs ws : List ℕ) → length xs ≡ length ys
    → slice_cmp nat_cmp (xs ++ vs) (ys ++ ws)
    ≡ ordering_then (slice_cmp nat_cmp xs ys) (slice_cmp nat_cmp vs ws)
cmp-append [] [] vs ws same = refl
cmp-append [] (y ∷ ys) vs ws same = absurd (omega (arith, same))
cmp-append (x ∷ xs) [] vs ws same = absurd (omega (arith, same))
cmp-append (x ∷ xs) (y ∷ ys) vs ws same =
    ap (ordering_then (nat_cmp x y)) (cmp-append xs ys vs ws (omega (arith, same)))
    ∙ sym (then_then (nat_cmp x y) (slice_cmp nat_cmp xs ys) (slice_cmp nat_cmp vs ws))

pub runs_decide : (all all' run run' rest rest' : List ℕ) → all ≡ run ++ rest
    → all' ≡ run' ++ rest' → length run ≡ length run' → (o : Ordering)
    → o ≡ slice_cmp nat_cmp run run'
    → slice_cmp nat_cmp all all' ≡ ordering_then o (slice_cmp nat_cmp rest rest')
runs_decide all all' run run' rest rest' is is' same o order =
    (λ k. slice_cmp nat_cmp (is k) (is' k))
    ∙ (cmp-append run run' rest rest' same
    ∙ ap (λ r. ordering_then r (slice_cmp nat_cmp rest rest')) (sym order))

pub then_decided : (o rest : Ordering) → o ≢ Equal → ordering_then o rest ≡ o
then_decided Less rest other = refl
then_decided Equal rest other = absurd (other refl)
then_decided Greater rest other = refl

pub then_equal : (o rest : Ordering) → o ≡ Equal → ordering_then o rest ≡ rest
then_equal o rest same = ap (λ r. ordering_then r rest) same

-- the same of itself
pub cmp-same : (xs ys : List ℕ) → xs ≡ ys → Equal ≡ slice_cmp nat_cmp xs ys
cmp-same xs ys same = sym (ap (slice_cmp nat_cmp xs) (sym same) ∙ tied_itself nat_list_cmp_total xs)

less : (a b : ℕ) → a < b → nat_cmp a b ≡ Less
less a b h = grind (arith, nat_tests)

equal : (a b : ℕ) → a ≡ b → nat_cmp a b ≡ Equal
equal a b h = grind (arith, nat_tests)

greater : (a b : ℕ) → b < a → nat_cmp a b ≡ Greater
greater a b h = grind (arith, nat_tests)

-- where one ends the lengths decide
pub at_end : (xs ys : List ℕ) (i : ℕ) → i ≤ length xs → i ≤ length ys → (length xs ≤ i) ⊎
    (length ys ≤ i) → slice_cmp nat_cmp (drop i xs) (drop i ys) ≡ nat_cmp (length xs) (length ys)
at_end xs ys i low low' end = elim (cases_lt i (length xs)) [
  | inl more ↦ elim (cases_lt i (length ys)) [
    | inl more' ↦ elim end [
      | inl none ↦ absurd (omega (arith, more, none))
      | inr none ↦ absurd
          (omega (arith, more', none))
    ]
    | inr none' ↦
        (λ k. slice_cmp nat_cmp (drop_more xs i 0 more k) (drop_all i ys none' k)) ∙ sym (greater
        (length xs) (length ys) (omega (arith, more, none')))
  ]
  | inr none ↦ elim (cases_lt i (length ys)) [
    | inl more' ↦ (λ k. slice_cmp nat_cmp (drop_all i xs none k) (drop_more ys i 0 more' k)) ∙ sym
        (less (length xs) (length ys) (omega (arith, more', none)))
    | inr none' ↦ (λ k. slice_cmp nat_cmp (drop_all i xs none k) (drop_all i ys none' k)) ∙ sym
        (equal (length xs) (length ys) (omega (arith, none, none', low, low')))
  ]
]

-- equal exactly where the bytes are the same
pub equal_exactly : (r : Ordering) (xs ys : List ℕ) → r ≡ slice_cmp nat_cmp xs ys → (r ≡ Equal) ↔
    (xs ≡ ys)
equal_exactly r xs ys is = (
  λ e. exact_bytes xs ys (sym is ∙ e),
  λ same. is ∙ (ap (slice_cmp nat_cmp xs) (sym same) ∙ tied_itself nat_list_cmp_total xs),
)

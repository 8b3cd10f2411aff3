-- What an output holds after writes.
use Rattle.std.proofs.Common.{◌≡◌, ◌+◌, ◌-◌, ◌≤◌, ℕ, zero, suc, List, [], ◌∷◌, ◌++◌, Option, take, drop, length, refl, sym, ap, ◌∙◌, subst, arith, take-append-drop, length-drop}
use Rattle.std.specs.Prelude.{Result, Ok, Err, IfOk}
use Rattle.std.specs.Io.KnownBytes.{Appends, WriteAppends}
use Rattle.std.proofs.KnownBytes.{Appends-trans}
use Rattle.ps_vault.specs.Screens.{AppendsPart}
use Rattle.ps_vault.proofs.Parts.{rest_whole}

-- what was taken of them
pub part_taken : (a b : Option (List ℕ)) (bytes : List ℕ) (n : ℕ) → Appends a b (take n bytes)
    → AppendsPart a b bytes
part_taken a b bytes n some =
    record {
      part = take n bytes;
      rest = drop n bytes;
      is =
          sym (take-append-drop n bytes);
      written = some;
    }

-- a write of some behind those that were taken
abbrev the_nil : List ℕ
the_nil = []

take_none : (n : ℕ) → take n the_nil ≡ the_nil
take_none zero = refl
take_none (suc n) = refl

take_behind : (m n : ℕ) (xs : List ℕ) → take (m + n) xs ≡ take m xs ++ take n (drop m xs)
take_behind zero n xs = let same : zero + n ≡ n = omega arith in ap (λ k. take k xs) same
take_behind (suc m) n [] = let more : suc m + n ≡ suc (m + n) = omega arith in
    ap (λ k. take k (the_nil)) more ∙ sym (take_none n)
take_behind (suc m) n (x ∷ xs) = let more : suc m + n ≡ suc (m + n) = omega arith in
    ap (λ k. take k (x ∷ xs)) more ∙ ap (λ bytes. x ∷ bytes) (take_behind m n xs)

taken_more : (a b c : Option (List ℕ)) (bytes : List ℕ) (m n : ℕ) → Appends a b (take m bytes)
    → Appends b c (take n (drop m bytes)) → Appends a c (take (m + n) bytes)
taken_more a b c bytes m n first second =
    subst (Appends a c) (sym (take_behind m n bytes)) (Appends-trans a b c _ _ first second)

pub taken_slice : (a b c : Option (List ℕ)) (bytes : List ℕ) (m n : ℕ) → Appends a b (take m bytes)
    → Appends b c (take n (take (length bytes - m) (drop m bytes)))
    → Appends a c (take (m + n) bytes)
taken_slice a b c bytes m n first second =
    taken_more a b c bytes m n first
    (subst (λ (rest : List ℕ). Appends b c (take n rest)) (rest_whole bytes m) second)

pub taken_few : (bytes : List ℕ) (m n : ℕ) → m ≤ length bytes
    → n ≤ length (take (length bytes - m) (drop m bytes)) → m + n ≤ length bytes
taken_few bytes m n few more =
    let rest = ap {B = ℕ} (λ (r : List ℕ). length r) (rest_whole bytes m) in
    let left = length-drop m bytes in
    omega (arith, few, more, rest, left)

-- what a write took, and that it took none
pub wrote : {E : Type 0} (a b : Option (List ℕ)) (r : Result ℕ E) (n : ℕ) (bytes : List ℕ)
    → r ≡ Ok n → WriteAppends a b r bytes → Appends a b (take n bytes)
wrote a b (Ok k) n bytes is took =
    subst (λ m. Appends a b (take m bytes)) (let same : k ≡ n = cc in same) took
wrote a b (Err e) n bytes is took = cc

pub ok_both : {A E : Type 0} (P Q : A → Type 0) (r : Result A E) → IfOk r P → IfOk r Q
    → IfOk r (λ done. P done × Q done)
ok_both P Q (Ok done) p q = (p, q)
ok_both P Q (Err error) p q = tt

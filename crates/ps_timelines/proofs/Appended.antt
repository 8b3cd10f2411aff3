-- Texts one behind another.
use Rattle.std.proofs.Common.{◌≡◌, ap, sym, ◌∙◌, ℕ, ◌+◌, ◌≤◌, List, [], ◌∷◌, ◌++◌, length, take, zero, suc, append_assoc, arith}
use Rattle.std.specs.List.{flat_map, range_with_len}
use Rattle.std.proofs.lemmas.List.{length-append, take-take, flat_map_more}
use Rattle.std.proofs.Math.Seq.{take-append_seam}

-- what stands in front of a text that came behind it
pub front_behind : (old before new text : List ℕ) → before ≡ old ++ text → take (length before) new ≡ before
    → take (length old) new ≡ old
front_behind old before new text e f =
    let short : length old ≤ length before = omega (arith, ap length e, length-append old text) in
    sym (take-take (length old) (length before) new short) ∙ ap (take (length old)) (f ∙ e)
    ∙ take-append_seam old text

-- one number more
pub numbers_more : (a n : ℕ) → range_with_len a (n + 1) ≡ range_with_len a n ++ (a + n) ∷ []
numbers_more a zero = let e : a ≡ a + 0 = omega arith in ap (λ k. k ∷ []) e
numbers_more a (suc n) =
    let count : suc n + 1 ≡ suc (n + 1) = omega arith in
    let last : a + 1 + n ≡ a + suc n = omega arith in
    ap (range_with_len a) count ∙ ap (λ l. a ∷ l) (numbers_more (a + 1) n)
    ∙ ap (λ k. a ∷ (range_with_len (a + 1) n ++ k ∷ [])) last

zero_plus : (n : ℕ) → n ≡ 0 + n
zero_plus n = omega arith

-- the text of one number more
pub text_more : (f : ℕ → List ℕ) (n : ℕ) (old before new : List ℕ)
    → before ≡ old ++ flat_map f (range_with_len 0 n) → new ≡ before ++ f n
    → new ≡ old ++ flat_map f (range_with_len 0 (n + 1))
text_more f n old before new e g = g ∙ ap (λ l. l ++ f n) e
    ∙ flat_map_more f old (range_with_len 0 n) n
    ∙ ap (λ l. old ++ flat_map f l) (ap (λ k. range_with_len 0 n ++ k ∷ []) (zero_plus n) ∙ sym (numbers_more 0 n))

-- ---- parts of a text

pub two : (old x y a b : List ℕ) → x ≡ old ++ a → y ≡ x ++ b → y ≡ old ++ (a ++ b)
two old x y a b e f = f ∙ ap (λ l. l ++ b) e ∙ append_assoc old a b

pub three : (old x y z a b c : List ℕ) → x ≡ old ++ a → y ≡ x ++ b → z ≡ y ++ c → z ≡ old ++ (a ++ (b ++ c))
three old x y z a b c e f g = two old x z a (b ++ c) e (two x y z b c f g)

pub four : (old x y z w a b c d : List ℕ) → x ≡ old ++ a → y ≡ x ++ b → z ≡ y ++ c → w ≡ z ++ d
    → w ≡ old ++ (a ++ (b ++ (c ++ d)))
four old x y z w a b c d e f g h = two old x w a (b ++ (c ++ d)) e (three x y z w b c d f g h)

pub five : (old x y z w v a b c d e : List ℕ) → x ≡ old ++ a → y ≡ x ++ b → z ≡ y ++ c → w ≡ z ++ d → v ≡ w ++ e
    → v ≡ old ++ (a ++ (b ++ (c ++ (d ++ e))))
five old x y z w v a b c d e f g h i j = two old x v a (b ++ (c ++ (d ++ e))) f (four x y z w v b c d e g h i j)

pub six : (old x y z w v u a b c d e f : List ℕ) → x ≡ old ++ a → y ≡ x ++ b → z ≡ y ++ c → w ≡ z ++ d → v ≡ w ++ e
    → u ≡ v ++ f → u ≡ old ++ (a ++ (b ++ (c ++ (d ++ (e ++ f)))))
six old x y z w v u a b c d e f g h i j k l =
    two old x u a (b ++ (c ++ (d ++ (e ++ f)))) g (five x y z w v u b c d e f h i j k l)

-- Texts one behind another.
use Rattle.std.proofs.Common.{◌≡◌, refl, ap, ◌∙◌, List, ◌++◌, ℕ, ◌<◌, ◌≤◌, length, arith, append_assoc}

pub two : (old x y a b : List ℕ) → x ≡ old ++ a → y ≡ x ++ b → y ≡ old ++ (a ++ b)
two old x y a b e f = f ∙ ap (λ l. l ++ b) e ∙ append_assoc old a b

pub three : (old x y z a b c : List ℕ) → x ≡ old ++ a → y ≡ x ++ b → z ≡ y ++ c → z ≡ old ++ (a ++ (b ++ c))
three old x y z a b c e f g = two old x z a (b ++ c) e (two x y z b c f g)

pub four : (old x y z w a b c d : List ℕ) → x ≡ old ++ a → y ≡ x ++ b → z ≡ y ++ c → w ≡ z ++ d
    → w ≡ old ++ (a ++ (b ++ (c ++ d)))
four old x y z w a b c d e f g h = two old x w a (b ++ (c ++ d)) e (three x y z w b c d f g h)

pub five : (old x y z w v a b c d e : List ℕ) → x ≡ old ++ a → y ≡ x ++ b → z ≡ y ++ c → w ≡ z ++ d → v ≡ w ++ e
    → v ≡ old ++ (a ++ (b ++ (c ++ (d ++ e))))
five old x y z w v a b c d e f g h i j = two old x v a (b ++ (c ++ (d ++ e))) f (four x y z w v b c d e g h i j)

-- where the last of them found no room, there was none for all
pub full_three : (least room : ℕ) (old x y a b c : List ℕ) → x ≡ old ++ a → y ≡ x ++ b → least ≤ room
    → room < length (y ++ c) → least < length (old ++ (a ++ (b ++ c)))
full_three least room old x y a b c e f low full =
    omega (arith, low, full, ap length (three old x y (y ++ c) a b c e f refl))

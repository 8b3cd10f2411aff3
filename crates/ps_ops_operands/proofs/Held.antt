-- Words that are held on the operand stack.
use Rattle.std.proofs.Common.{◌≡◌, ℕ, ◌≤◌, List, [], ◌∷◌, ◌++◌, drop, Some, sym, subst, arith}
use Rattle.std.specs.Prelude.{reverse}
use Rattle.std.specs.List.{AllByRecursion}
use Rattle.std.proofs.lemmas.List.{reverse-append}
use Rattle.ps_language.specs.declared.kinds.Kind.{Kind}
use Rattle.ps_stacks.specs.Tops.{first_of, first_two_of, first_three_of}
use Rattle.ps_word.specs.declared.words.Word.{Word}
use Rattle.ps_mem.specs.Heap.{Heap}
use Rattle.ps_mem.specs.References.{StandsAs}
use Rattle.ps_mem.specs.Shows.{AreValues, IsReady}
use Rattle.ps_mem.proofs.Lists.{all_drop}
use Rattle.ps_ops_operands.proofs.Operands.{first_split, first_two_split, first_three_split}

-- a smaller part of what stands
pub stands_less : (h : Heap) (kind : Kind) (a m n : ℕ) → n ≤ m → StandsAs h kind a m → StandsAs h kind a n
stands_less h kind a m n less s = let fits = s.fits in
    record { object = s.object; at = s.at; kind_is = s.kind_is; fits = omega (arith, fits, less) }

module _ {A : Type 0} (P : A → Type 0) (xs : List A) (all : AllByRecursion P xs) where
  pub first_held : (x : A) → Some x ≡ first_of xs → P x
  first_held x e = let now : AllByRecursion P (x ∷ drop 1 xs) = subst (AllByRecursion P) (first_split xs x e) all in
      now.0

  pub second_held : (x y : A) → Some (x, y) ≡ first_two_of xs → P y
  second_held x y e = let now : AllByRecursion P (x ∷ y ∷ drop 2 xs) =
      subst (AllByRecursion P) (first_two_split xs x y e) all in now.1.0

  pub first_of_two_held : (x y : A) → Some (x, y) ≡ first_two_of xs → P x
  first_of_two_held x y e = let now : AllByRecursion P (x ∷ y ∷ drop 2 xs) =
      subst (AllByRecursion P) (first_two_split xs x y e) all in now.0

  pub first_of_three_held : (x y z : A) → Some (x, y, z) ≡ first_three_of xs → P x
  first_of_three_held x y z e = let now : AllByRecursion P (x ∷ y ∷ z ∷ drop 3 xs) =
      subst (AllByRecursion P) (first_three_split xs x y z e) all in now.0

  pub third_held : (x y z : A) → Some (x, y, z) ≡ first_three_of xs → P z
  third_held x y z e = let now : AllByRecursion P (x ∷ y ∷ z ∷ drop 3 xs) =
      subst (AllByRecursion P) (first_three_split xs x y z e) all in now.1.1.0

  pub rest_held : (n : ℕ) → AllByRecursion P (drop n xs)
  rest_held n = all_drop P n xs all

  pub replaced_held : (new : List A) (n : ℕ) (x : A) → P x → new ≡ x ∷ drop n xs → AllByRecursion P new
  replaced_held new n x p is = subst (AllByRecursion P) (sym is) (p, rest_held n)

pub all_append : {A : Type 0} (P : A → Type 0) (xs ys : List A) → AllByRecursion P xs → AllByRecursion P ys
    → AllByRecursion P (xs ++ ys)
all_append P [] ys p q = q
all_append P (x ∷ xs) ys p q = (p.0, all_append P xs ys p.1 q)

pub all_reverse : {A : Type 0} (P : A → Type 0) (xs : List A) → AllByRecursion P xs → AllByRecursion P (reverse xs)
all_reverse P [] p = tt
all_reverse P (x ∷ xs) p =
    subst (AllByRecursion P) (sym (reverse-append (x ∷ []) xs))
    (all_append P (reverse xs) (x ∷ []) (all_reverse P xs p.1) (p.0, tt))

-- a memory stays ready under new operands
pub ready_with : (h : Heap) (old new : List Word) → IsReady h old → AreValues h new → IsReady h new
ready_with h old new ready values = record { sound = ready.sound; values = values }

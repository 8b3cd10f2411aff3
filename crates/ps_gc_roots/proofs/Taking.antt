-- RootList that are read one after the other.
use Rattle.std.proofs.Common.{◌≡◌, ℕ, zero, suc, false, ◌+◌, ◌<◌, ◌≤◌, List, [], ◌∷◌, ◌++◌, length, get_or, drop}
use Rattle.std.proofs.Common.{Option, Some, None, refl, sym, ap, ◌∙◌, subst, arith, append_assoc}
use Rattle.std.specs.Prelude.{flat_map, slice_get}
use Rattle.std.proofs.lemmas.List.{append-nil}
use Rattle.std.specs.List.{AllByRecursion}
use Rattle.ps_word.specs.declared.words.Word.{Word}
use Rattle.ps_word.specs.declared.values.Content.{Content}
use Rattle.ps_word.specs.Format.{IsWord, value_in, packed}
use Rattle.ps_mem.specs.Objects.{word_of}
use Rattle.ps_ctx_table.specs.declared.members.Member.{Member}
use Rattle.ps_ctx_table.specs.Seats.{count_left, items_left}
use Rattle.ps_ctx_table.specs.Desks.{AllMembers}
use Rattle.ps_ops_control.proofs.FramesLeft.{drop_at, drop_all}
use Rattle.ps_gc_roots.specs.Roots.{literal, roots_of_member, roots_in}

-- the word of the format whose value is literal
pub literal-is : (w : Word) (c : Content)
    → value_in w.0 ≡ record { content = c; executable = false } → IsWord w.0 → w ≡ literal c
unfolding literal
literal-is w c value word = ap word_of (sym word.exact ∙ ap packed value)

-- ---- what was read, and what is left

-- words: all are those that one began with and these
pub word-read : {A : Type 0} (read all xs : List A) (i : ℕ) (x : A) → Some x ≡ slice_get xs i
    → read ++ drop i xs ≡ all → (read ++ x ∷ []) ++ drop (i + 1) xs ≡ all
word-read read all xs i x at so =
    append_assoc read (x ∷ []) (drop (i + 1) xs)
    ∙ (ap (λ rest. read ++ rest) (sym (drop_at xs i x at)) ∙ so)

module _ {A : Type 0} (roots_of : A → List Word) where
  pub roots-read : (read all : List Word) (xs : List A) (i : ℕ) (x : A)
      → drop i xs ≡ x ∷ drop (i + 1) xs → read ++ flat_map roots_of (drop i xs) ≡ all
      → (read ++ roots_of x) ++ flat_map roots_of (drop (i + 1) xs) ≡ all
  roots-read read all xs i x at so =
      append_assoc read (roots_of x) (flat_map roots_of (drop (i + 1) xs))
      ∙ (ap (λ rest. read ++ flat_map roots_of rest) (sym at) ∙ so)

  -- nothing is left
  pub all-read : (read all : List Word) (xs : List A) (i : ℕ) → length xs ≤ i
      → read ++ flat_map roots_of (drop i xs) ≡ all → read ≡ all
  all-read read all xs i past so =
      sym (append-nil read)
      ∙ (ap (λ rest. read ++ flat_map roots_of rest) (sym (drop_all xs i past)) ∙ so)

pub drop-item : {A : Type 0} (xs : List A) (i : ℕ) (x : A) → i < length xs → x ≡ get_or xs i x
    → drop i xs ≡ x ∷ drop (i + 1) xs
drop-item [] i x within is = absurd (omega (arith, within))
drop-item (y ∷ xs) zero x within is = ap (λ z. z ∷ xs) (sym is)
drop-item (y ∷ xs) (suc i) x within is =
    let more : suc i + 1 ≡ suc (i + 1) = omega arith in
    rw more (drop-item xs i x (omega (arith, within)) is)

pub item-is : {A : Type 0} (P : A → Type 0) (xs : List A) (i : ℕ) (x : A) → i < length xs
    → x ≡ get_or xs i x → AllByRecursion P xs → P x
item-is P [] i x within is all = absurd (omega (arith, within))
item-is P (y ∷ xs) zero x within is all = subst P (sym is) all.0
item-is P (y ∷ xs) (suc i) x within is all = item-is P xs i x (omega (arith, within)) is all.1

-- ---- those that are left

pub left-length : (members : List (Option Member))
    → count_left members ≡ length (items_left members)
left-length [] = refl
left-length (None ∷ members) = left-length members
left-length (Some member ∷ members) = let rest = left-length members in omega (arith, rest)

pub left-all : (P : Member → Type 0) (members : List (Option Member)) → AllMembers P members
    → AllByRecursion P (items_left members)
left-all P [] all = tt
left-all P (None ∷ members) all = left-all P members all.1
left-all P (Some member ∷ members) all = (all.0, left-all P members all.1)

pub left-roots : (members : List (Option Member))
    → flat_map roots_of_member (items_left members) ≡ roots_in members
left-roots [] = refl
left-roots (None ∷ members) = left-roots members
left-roots (Some member ∷ members) =
    ap (λ rest. roots_of_member member ++ rest) (left-roots members)

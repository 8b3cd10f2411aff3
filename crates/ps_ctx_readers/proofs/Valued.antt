-- What values are, where they are found, and what a room is handed.
use Rattle.std.proofs.Common.{◌≡◌, ℕ, zero, suc, ◌-◌, ◌≤◌, true, List, [], ◌∷◌, ◌++◌, drop, length, Option, Some, None, refl, sym, ap, ◌∙◌, subst}
use Rattle.std.specs.Prelude.{IfSome, nat_le, option_map, slice_get}
use Rattle.std.specs.List.{AllByRecursion}
use Rattle.std.proofs.lemmas.Bool.{le-leb}
use Rattle.std.proofs.lemmas.List.{length-map}
use Rattle.ps_language.specs.Lowest.{HasFirstDictionaries}
use Rattle.ps_language.specs.Readers.{as_dictionary}
use Rattle.ps_language.specs.Value.{Value}
use Rattle.ps_language.specs.Worlds.{system_value, user_value, userdict}
use Rattle.ps_language.specs.declared.kinds.Kind.TheVariants.{Dictionary as DictionaryKind}
use Rattle.ps_word.specs.declared.words.Word.{Word}
use Rattle.ps_word.specs.Format.{content_in, executable_in}
use Rattle.ps_word.specs.Readers as words
use Rattle.ps_mem.specs.Heap.{Heap, birth_at}
use Rattle.ps_mem.specs.Meaning.{value_of}
use Rattle.ps_mem.specs.References.{StandsAs}
use Rattle.ps_mem.specs.Shows.{IsValue}
use Rattle.ps_dict.proofs.Telling.{dictionary_stands}
use Rattle.ps_ops_operands.specs.Changes.{values_in}
use Rattle.ps_step_lookup.proofs.Looking.{dictionary_is}
use Rattle.ps_ctx_readers.specs.Values.{written}
use Rattle.ps_ctx_readers.proofs.Naming.{value_there}

-- what holds of all holds of each
pub all_at : {A : Type 0} (P : A → Type 0) (xs : List A) (i : ℕ) (x : A) → AllByRecursion P xs
    → slice_get xs i ≡ Some x → P x
all_at P [] i x all at = cc
all_at P (y ∷ ys) zero x all at = let same : y ≡ x = cc in subst P same all.0
all_at P (y ∷ ys) (suc i) x all at = all_at P ys i x all.1 at

pub executable_is : (births : ℕ → ℕ) (names : List (List ℕ)) (w : Word)
    → executable_in w.0 ≡ (value_of births names w).executable
unfolding value_of
executable_is births names w = refl

-- ---- rooms

pub written_whole : (bytes room : List ℕ) (count : ℕ) → length bytes ≡ count
    → count ≤ length room → bytes ++ drop count room ≡ written bytes room
written_whole bytes room count long fits =
    let is : nat_le (length bytes) (length room) ≡ true =
    ap (λ (n : ℕ). nat_le n (length room)) long ∙ le-leb count (length room) fits in
    ap (λ (n : ℕ). bytes ++ drop n room) (sym long) ∙ rw is refl

-- ---- userdict

found_in_front : {A : Type 0} (xs rest : List A) (n : ℕ) (x : A) → drop n xs ≡ x ∷ rest
    → slice_get xs n ≡ Some x
found_in_front [] rest zero x is = cc
found_in_front [] rest (suc n) x is = cc
found_in_front (y ∷ ys) rest zero x is = let same : y ≡ x = cc in ap Some same
found_in_front (y ∷ ys) rest (suc n) x is = found_in_front ys rest n x is

-- a dictionary that is read of a value stands
pub read_stands : (h : Heap) (w : Word) (read : Option ℕ) → IsValue h w
    → read ≡ words.as_dictionary (content_in w.0)
    → IfSome read (λ address. StandsAs h DictionaryKind address 4)
read_stands h w None value is = tt
read_stands h w (Some address) value is = dictionary_stands h w value address is

module _ (h : Heap) (names : List (List ℕ)) (ws : List Word) (above : ℕ)
    (is : above ≡ length ws - 2) (first : HasFirstDictionaries (values_in h names ws)) where
  user_here : slice_get (values_in h names ws) above ≡ Some user_value
  user_here =
      let long : length (values_in h names ws) ≡ length ws =
      length-map ws (value_of (birth_at h) names) in
      ap (slice_get (values_in h names ws)) (is ∙ ap (λ (n : ℕ). n - 2) (sym long))
      ∙ found_in_front (values_in h names ws) (system_value ∷ []) _ user_value first

  pub user_is : (w : Word) → Some w ≡ slice_get ws above
      → option_map (birth_at h) (words.as_dictionary (content_in w.0)) ≡ Some userdict
  unfolding as_dictionary
  user_is w found =
      let same : value_of (birth_at h) names w ≡ user_value =
      (let here : Some (value_of (birth_at h) names w) ≡ Some user_value =
      sym (value_there h names ws above w found) ∙ user_here in cc) in
      sym (dictionary_is (birth_at h) names w) ∙ ap as_dictionary same

  pub user_gone : None ≡ slice_get ws above → ⊥
  user_gone none =
      gone (slice_get (values_in h names ws) above) (no_value ws above (sym none)) user_here
    where
      no_value : (xs : List Word) (n : ℕ) → slice_get xs n ≡ None
          → slice_get (values_in h names xs) n ≡ None
      no_value [] n none = refl
      no_value (x ∷ xs) zero none = absurd (cc)
      no_value (x ∷ xs) (suc n) none = no_value xs n none

      gone : (found : Option Value) → found ≡ None → found ≡ Some user_value → ⊥
      gone found none some = cc

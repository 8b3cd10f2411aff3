-- A word with another attribute, and operators that put one word in the place of the topmost.
use Rattle.std.proofs.Common.{◌≡◌, ℕ, Bool, List, ◌∷◌, drop, Some, Ok, refl, ap, sym, subst, ◌∙◌}
use Rattle.std.specs.List.{AllByRecursion}
use Rattle.ps_language.specs.Value.{Value, Store}
use Rattle.ps_language.specs.RowsTypes.{of_one}
use Rattle.ps_stacks.specs.Tops.{first_of}
use Rattle.ps_word.specs.declared.words.Word.{Word}
use Rattle.ps_word.specs.declared.values.Value.{Value as Packed}
use Rattle.ps_word.specs.Format.{content_in, executable_in, value_in, IsWord, is_body}
use Rattle.ps_mem.specs.Heap.{Heap, birth_at}
use Rattle.ps_mem.specs.References.{IsKnown, IsKnownContent}
use Rattle.ps_mem.specs.Meaning.{value_of, what_of}
use Rattle.ps_mem.specs.Shows.{IsValue, IsReady, IsWithin, IsWithinContent}
use Rattle.ps_ops_operands.specs.Changes.{Observes}
use Rattle.ps_ops_operands.proofs.Operands.{first_split}
use Rattle.ps_ops_operands.proofs.Held.{first_held, rest_held}

module _ (w r : Word) (e : Bool) (is : value_in r.0 ≡ record (value_in w.0) { executable = e }) where
  pub attributed_value : (births : ℕ → ℕ) (names : List (List ℕ))
      → value_of births names r ≡ record (value_of births names w) { executable = e }
  unfolding value_of
  attributed_value births names =
      ap {B = Value} (λ (packed : Packed). record {
        what = what_of births names packed.content;
        executable = packed.executable;
      }) is

  same_content : content_in r.0 ≡ content_in w.0
  same_content = ap (λ (packed : Packed). packed.content) is

  pub attributed_held : (h : Heap) → IsValue h w → IsWord r.0 → IsValue h r
  unfolding IsKnown
  attributed_held h v word = record {
    word = word;
    known = subst (IsKnownContent h) (sym same_content) v.known;
    visible = ap is_body same_content ∙ v.visible;
  }

  pub attributed_within : (births : ℕ → ℕ) (names : List (List ℕ)) (store : Store) → IsWithin births names store w
      → IsWithin births names store r
  unfolding IsWithin
  attributed_within births names store within = subst (IsWithinContent births names store) (sym same_content) within

-- one word in the place of the topmost
module _ (h : Heap) (old : List Word) (w r : Word) (one : Some w ≡ first_of old) where
  pub replaced_observes : (f : Value → Value)
      → ((births : ℕ → ℕ) (names : List (List ℕ)) → value_of births names r ≡ f (value_of births names w))
      → ((names : List (List ℕ)) (store : Store) → IsWithin (birth_at h) names store w
      → IsWithin (birth_at h) names store r)
      → Observes (λ store. of_one f) (Ok tt) h old (r ∷ drop 1 old)
  replaced_observes f is within_r = record {
    meets = λ names store shows within.
        let top : IsWithin (birth_at h) names store w =
        first_held (IsWithin (birth_at h) names store) old within w one in
        let below : AllByRecursion (IsWithin (birth_at h) names store) (drop 1 old) =
        rest_held (IsWithin (birth_at h) names store) old within 1 in
        rw (first_split old w one, is (birth_at h) names) (refl, (within_r names store top, below));
  }

  pub replaced_ready : IsReady h old → IsValue h r → IsReady h (r ∷ drop 1 old)
  replaced_ready ready held = record { sound = ready.sound; values = (held, rest_held (IsValue h) old ready.values 1) }

-- the attribute of a value is that of its word
pub attribute_of : (births : ℕ → ℕ) (names : List (List ℕ)) (w : Word)
    → (value_of births names w).executable ≡ executable_in w.0
unfolding value_of
attribute_of births names w = refl

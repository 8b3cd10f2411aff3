-- Words of the names met at the start.
use Rattle.std.proofs.Common.{◌≡◌, ℕ, Bool, zero, suc, List, [], ◌∷◌, take, length, Some, refl, ap, ◌∙◌}
use Rattle.std.specs.Prelude.{slice_get}
use Rattle.std.proofs.lemmas.Option.{slice_get_within}
use Rattle.ps_language.specs.Value.{name_value, Value, Store}
use Rattle.ps_language.specs.Worlds.{first_names}
use Rattle.ps_word.specs.declared.words.Word.{Word}
use Rattle.ps_word.specs.declared.values.Content.TheVariants.{Name}
use Rattle.ps_word.specs.declared.values.Value.{Value as Packed}
use Rattle.ps_word.specs.Format.{value_in, IsWord}
use Rattle.ps_mem.specs.Heap.{Heap}
use Rattle.ps_mem.specs.References.{IsKnown}
use Rattle.ps_mem.specs.Meaning.{value_of, what_of}
use Rattle.ps_mem.specs.Shows.{IsValue, IsWithin}
use Rattle.ps_ops_operands.specs.FirstNames.{BeginWithFirst}

-- what stands in the first items stands in all
beginning_at : {A : Type 0} (xs : List A) (n i : ℕ) (x : A) → slice_get (take n xs) i ≡ Some x
    → slice_get xs i ≡ Some x
beginning_at [] zero i x at = cc
beginning_at [] (suc n) i x at = cc
beginning_at (y ∷ xs) zero i x at = cc
beginning_at (y ∷ xs) (suc n) zero x at = at
beginning_at (y ∷ xs) (suc n) (suc i) x at = beginning_at xs n i x at

module _ (w : Word) (number : ℕ) (executable : Bool)
    (is : value_in w.0 ≡ record { content = Name number; executable = executable }) where
  pub name_held : (h : Heap) → IsWord w.0 → IsValue h w
  unfolding IsKnown
  name_held h word =
      let content = ap (λ (packed : Packed). packed.content) is in
      record { word = word; known = rw content tt; visible = rw content refl }

  module _ (text : List ℕ) (first : slice_get first_names number ≡ Some text)
      (names : List (List ℕ)) (met : BeginWithFirst names) where
    met_at : slice_get names number ≡ Some text
    met_at =
        beginning_at names (length first_names) _ _ (ap (λ ns. slice_get ns number) met ∙ first)

    pub name_met : (births : ℕ → ℕ)
        → value_of births names w ≡ record { what = name_value text; executable = executable }
    unfolding value_of
    name_met births =
        ap {B = Value} (λ (packed : Packed).
        record { what = what_of births names packed.content; executable = packed.executable }) is
        ∙ rw met_at refl

    pub name_within : (births : ℕ → ℕ) (store : Store) → IsWithin births names store w
    unfolding IsWithin
    name_within births store =
        rw (ap (λ (packed : Packed). packed.content) is) (slice_get_within names _ _ met_at)

-- An array or a string with another access.
use Rattle.std.proofs.Common.{◌≡◌, ℕ, List, ◌∷◌, drop, Some, None, true, false, Ok, Err, refl, ap, sym, subst, ◌∙◌}
use Rattle.std.specs.Prelude.{option_map}
use Rattle.std.specs.List.{AllByRecursion}
use Rattle.ps_language.specs.declared.access.Access.{Access}
use Rattle.ps_language.specs.declared.access.Access.TheVariants.{ExecuteOnly}
use Rattle.ps_language.specs.declared.errors.ErrorName.TheVariants.{InvalidAccess, TypeCheck}
use Rattle.ps_language.specs.Value.{Value, Store}
use Rattle.ps_language.specs.Access.{reduces_to}
use Rattle.ps_language.specs.Readers.{part_replaced, with_part}
use Rattle.ps_language.specs.RowsSequences.{as_sequence, sequence_in}
use Rattle.ps_language.specs.RowsTypes.{executeonly_row}
use Rattle.ps_stacks.specs.Tops.{first_of}
use Rattle.ps_word.specs.declared.words.Word.{Word}
use Rattle.ps_word.specs.declared.values.Part.{Part}
use Rattle.ps_word.specs.declared.values.Content.{Content}
use Rattle.ps_word.specs.declared.values.Content.TheVariants.{Null, Integer, Boolean, Mark, Name, Operator, Array, Text}
use Rattle.ps_word.specs.declared.values.Content.TheVariants.{Dictionary, Lock, Condition, Body}
use Rattle.ps_word.specs.declared.values.Value.{Value as Packed}
use Rattle.ps_word.specs.Format.{content_in, value_in, IsWord, is_body}
use Rattle.ps_word.specs.Readers as words
use Rattle.ps_mem.specs.Heap.{Heap, birth_at}
use Rattle.ps_mem.specs.References.{IsKnown, IsKnownContent}
use Rattle.ps_mem.specs.Meaning.{value_of, what_of, part_of}
use Rattle.ps_mem.specs.Shows.{IsValue, IsWithin, IsWithinContent}
use Rattle.ps_ops_operands.specs.Changes.{Observes}
use Rattle.ps_ops_operands.proofs.Operands.{first_split}
use Rattle.ps_ops_operands.proofs.Held.{first_held, rest_held}

module _ (births : ℕ → ℕ) (names : List (List ℕ)) where
  sequence_meant : (c : Content) → sequence_in (what_of births names c) ≡ option_map (part_of births) (words.as_part c)
  sequence_meant Null = refl
  sequence_meant (Integer _) = refl
  sequence_meant (Boolean _) = refl
  sequence_meant Mark = refl
  sequence_meant (Name _) = refl
  sequence_meant (Operator _) = refl
  sequence_meant (Array _) = refl
  sequence_meant (Text _) = refl
  sequence_meant (Dictionary _) = refl
  sequence_meant (Lock _) = refl
  sequence_meant (Condition _) = refl
  sequence_meant (Body _) = refl

  pub sequence_of : (w : Word)
      → as_sequence (value_of births names w) ≡ option_map (part_of births) (words.as_part (content_in w.0))
  unfolding as_sequence value_of
  sequence_of w = sequence_meant (content_in w.0)

  reduced_meant : (access : Access) (c : Content) (part : Part) → Some part ≡ words.as_part c
      → what_of births names (words.with_access c access)
      ≡ part_replaced (what_of births names c) (record (part_of births part) { access = access })
  reduced_meant access Null part is = cc
  reduced_meant access (Integer _) part is = cc
  reduced_meant access (Boolean _) part is = cc
  reduced_meant access Mark part is = cc
  reduced_meant access (Name _) part is = cc
  reduced_meant access (Operator _) part is = cc
  reduced_meant access (Array p) part is = let same : part ≡ p = cc in rw same refl
  reduced_meant access (Text p) part is = let same : part ≡ p = cc in rw same refl
  reduced_meant access (Dictionary _) part is = cc
  reduced_meant access (Lock _) part is = cc
  reduced_meant access (Condition _) part is = cc
  reduced_meant access (Body _) part is = cc

known_reduced : (h : Heap) (access : Access) (c : Content) → IsKnownContent h c
    → IsKnownContent h (words.with_access c access)
known_reduced h access Null k = k
known_reduced h access (Integer _) k = k
known_reduced h access (Boolean _) k = k
known_reduced h access Mark k = k
known_reduced h access (Name _) k = k
known_reduced h access (Operator _) k = k
known_reduced h access (Array _) k = k
known_reduced h access (Text _) k = k
known_reduced h access (Dictionary _) k = k
known_reduced h access (Lock _) k = k
known_reduced h access (Condition _) k = k
known_reduced h access (Body _) k = k

visible_reduced : (access : Access) (c : Content) → is_body c ≡ false → is_body (words.with_access c access) ≡ false
visible_reduced access Null k = k
visible_reduced access (Integer _) k = k
visible_reduced access (Boolean _) k = k
visible_reduced access Mark k = k
visible_reduced access (Name _) k = k
visible_reduced access (Operator _) k = k
visible_reduced access (Array _) k = k
visible_reduced access (Text _) k = k
visible_reduced access (Dictionary _) k = k
visible_reduced access (Lock _) k = k
visible_reduced access (Condition _) k = k
visible_reduced access (Body _) k = k

within_reduced : (births : ℕ → ℕ) (names : List (List ℕ)) (store : Store) (access : Access) (c : Content)
    → IsWithinContent births names store c → IsWithinContent births names store (words.with_access c access)
within_reduced births names store access Null k = k
within_reduced births names store access (Integer _) k = k
within_reduced births names store access (Boolean _) k = k
within_reduced births names store access Mark k = k
within_reduced births names store access (Name _) k = k
within_reduced births names store access (Operator _) k = k
within_reduced births names store access (Array _) k = k
within_reduced births names store access (Text _) k = k
within_reduced births names store access (Dictionary _) k = k
within_reduced births names store access (Lock _) k = k
within_reduced births names store access (Condition _) k = k
within_reduced births names store access (Body _) k = k

module _ (access : Access) (w r : Word) (is : value_in r.0
    ≡ record (value_in w.0) { content = words.with_access (content_in w.0) access }) where
  same_content : content_in r.0 ≡ words.with_access (content_in w.0) access
  same_content = ap (λ (packed : Packed). packed.content) is

  pub reduced_value : (part : Part) → Some part ≡ words.as_part (content_in w.0)
      → (births : ℕ → ℕ) (names : List (List ℕ)) → value_of births names r
      ≡ with_part (value_of births names w) (record (part_of births part) { access = access })
  unfolding value_of
  reduced_value part sequence births names =
      ap {B = Value} (λ (packed : Packed). record {
        what = what_of births names packed.content;
        executable = packed.executable;
      }) is
      ∙ rw (reduced_meant births names access (content_in w.0) part sequence) refl

  pub reduced_held : (h : Heap) → IsValue h w → IsWord r.0 → IsValue h r
  unfolding IsKnown
  reduced_held h v word = record {
    word = word;
    known = subst (IsKnownContent h) (sym same_content) (known_reduced h access (content_in w.0) v.known);
    visible = ap is_body same_content ∙ visible_reduced access (content_in w.0) v.visible;
  }

  pub reduced_within : (births : ℕ → ℕ) (names : List (List ℕ)) (store : Store) → IsWithin births names store w
      → IsWithin births names store r
  unfolding IsWithin
  reduced_within births names store within =
      subst (IsWithinContent births names store) (sym same_content)
      (within_reduced births names store access (content_in w.0) within)

-- executeonly
module _ (h : Heap) (old : List Word) (w : Word) (one : Some w ≡ first_of old) where
  pub executeonly_wrong : None ≡ words.as_part (content_in w.0)
      → Observes (λ store. executeonly_row) (Err TypeCheck) h old old
  executeonly_wrong none =
      record {
        meets = λ names store shows within. rw (first_split old w one, sequence_of (birth_at h) names w, sym none)
            (refl, refl);
      }

  module _ (part : Part) (sequence : Some part ≡ words.as_part (content_in w.0)) where
    pub executeonly_hidden : reduces_to part.access ExecuteOnly ≡ false
        → Observes (λ store. executeonly_row) (Err InvalidAccess) h old old
    executeonly_hidden hidden =
        record {
          meets =
              λ names store shows within.
              rw (first_split old w one, sequence_of (birth_at h) names w, sym sequence, hidden) (refl, refl);
        }

    pub executeonly_reduced : (r : Word) → value_in r.0
        ≡ record (value_in w.0) { content = words.with_access (content_in w.0) ExecuteOnly }
        → reduces_to part.access ExecuteOnly ≡ true
        → Observes (λ store. executeonly_row) (Ok tt) h old (r ∷ drop 1 old)
    executeonly_reduced r is may = record {
      meets = λ names store shows within.
          let top : IsWithin (birth_at h) names store w =
          first_held (IsWithin (birth_at h) names store) old within w one in
          let below : AllByRecursion (IsWithin (birth_at h) names store) (drop 1 old) =
          rest_held (IsWithin (birth_at h) names store) old within 1 in
          rw (
            first_split old w one,
            sequence_of (birth_at h) names w,
            sym sequence,
            may,
            reduced_value ExecuteOnly w r is part sequence (birth_at h) names,
          )
          (refl, (reduced_within ExecuteOnly w r is (birth_at h) names store top, below));
    }

-- The texts of words by what they contain.
use Rattle.std.proofs.Common.{◌≡◌, ℕ, zero, suc, ◌+◌, ◌-◌, ◌<◌, ◌⊎◌, inl, inr, cond, Bool, true, false, List, [], ◌∷◌}
use Rattle.std.proofs.Common.{◌++◌, length, map, take, codes, refl, sym, ap, arith, ◌∙◌, subst}
use Rattle.std.proofs.Math.Seq.{take-append-add}
use Rattle.std.specs.List.{flat_map, join_with_byte}
use Rattle.ps_language.specs.Access.{is_readable, part_bytes, part_elements}
use Rattle.ps_language.specs.RowsTypes.{type_name}
use Rattle.ps_language.specs.Texts.{no_text, plain_text_in, plain_text, full_text, escaped, string_text, enclosed}
use Rattle.ps_language.specs.Texts.{text_within}
use Rattle.ps_language.specs.Value.{Part as PartValue, Value, Store}
use Rattle.ps_word.specs.declared.words.Word.{Word}
use Rattle.ps_word.specs.declared.values.Part.{Part}
use Rattle.ps_word.specs.declared.values.Content.{Content}
use Rattle.ps_word.specs.declared.values.Content.TheVariants.{Null, Integer, Boolean, Mark, Name, Operator, Array, Text}
use Rattle.ps_word.specs.declared.values.Content.TheVariants.{Dictionary, Lock, Condition, Body}
use Rattle.ps_word.specs.Format.{content_in, executable_in}
use Rattle.ps_mem.specs.Heap.{Heap}
use Rattle.ps_mem.specs.References.{IsKnownContent, IsKnown}
use Rattle.ps_mem.specs.Meaning.{what_of, value_of, part_of}
use Rattle.ps_mem.specs.Shows.{IsWithinContent, IsWithin}
use Rattle.ps_text.specs.Shown.{simple_text, text_to}

-- ---- a word by its content

module _ (w : Word) (c : Content) (is : c ≡ content_in w.0) where
  pub known_content : (h : Heap) → IsKnown h w → IsKnownContent h c
  unfolding IsKnown
  known_content h known = subst (IsKnownContent h) (sym is) known

  module _ (births : ℕ → ℕ) (names : List (List ℕ)) where
    pub what_is : (value_of births names w).what ≡ what_of births names c
    unfolding value_of
    what_is = ap (what_of births names) (sym is)

    pub type_is : type_name (value_of births names w).what ≡ type_name (what_of births names c)
    type_is = ap type_name what_is

    module _ (s : Store) where
      pub within_content : IsWithin births names s w → IsWithinContent births names s c
      unfolding IsWithin
      within_content within = subst (IsWithinContent births names s) (sym is) within

      pub plain_is : plain_text s (value_of births names w) ≡ plain_text_in s (what_of births names c)
      unfolding plain_text
      plain_is = ap (plain_text_in s) what_is

-- ---- what has no text

module _ (births : ℕ → ℕ) (names : List (List ℕ)) (s : Store) (c : Content) where
  abbrev pub HasNone : Type 0
  HasNone = (c ≡ Null) ⊎ ((c ≡ Mark)
      ⊎ (((part : Part) × (c ≡ Array part)) ⊎ (((address : ℕ) × (c ≡ Dictionary address))
      ⊎ (((address : ℕ) × (c ≡ Lock address))
      ⊎ (((address : ℕ) × (c ≡ Condition address)) ⊎ ((address : ℕ) × (c ≡ Body address)))))))

  no_text_at : (d : Content) → c ≡ d
      → plain_text_in s (what_of births names c) ≡ plain_text_in s (what_of births names d)
  no_text_at d is = ap (λ x. plain_text_in s (what_of births names x)) is

  pub no_text_is : HasNone → plain_text_in s (what_of births names c) ≡ no_text
  no_text_is (inl is) = no_text_at Null is
  no_text_is (inr (inl is)) = no_text_at Mark is
  no_text_is (inr (inr (inl p))) = no_text_at (Array p.0) p.1
  no_text_is (inr (inr (inr (inl p)))) = no_text_at (Dictionary p.0) p.1
  no_text_is (inr (inr (inr (inr (inl p))))) = no_text_at (Lock p.0) p.1
  no_text_is (inr (inr (inr (inr (inr (inl p)))))) = no_text_at (Condition p.0) p.1
  no_text_is (inr (inr (inr (inr (inr (inr p)))))) = no_text_at (Body p.0) p.1

-- ---- strings

pub readable_string : (s : Store) (p : PartValue) → is_readable p.access ≡ true
    → string_text s p ≡ ((40 ∷ []) ++ flat_map escaped (part_bytes s p)) ++ 41 ∷ []
readable_string s p readable = rw readable refl

-- ---- arrays

-- what an array begins and ends with
abbrev pub opening_of : Bool → List ℕ
opening_of executable = cond executable (codes "{") (codes "[")

abbrev pub closing_of : Bool → List ℕ
closing_of executable = cond executable (codes "}") (codes "]")

enclosed_is : (executable : Bool) (text : List ℕ)
    → enclosed executable text ≡ (opening_of executable ++ text) ++ closing_of executable
enclosed_is true text = refl
enclosed_is false text = refl

module _ (births : ℕ → ℕ) (names : List (List ℕ)) (s : Store) (w : Word) where
  -- what is no array has one text at any depth
  text_in : (depth : ℕ) (c : Content) → ((part : Part) → c ≡ Array part → ⊥)
      → text_within depth s (record { what = what_of births names c; executable = executable_in w.0 })
      ≡ simple_text s (executable_in w.0) (what_of births names c)
  text_in zero c other = refl
  text_in (suc depth) (Array part) other = absurd (other part refl)
  text_in (suc depth) Null other = refl
  text_in (suc depth) (Integer number) other = refl
  text_in (suc depth) (Boolean truth) other = refl
  text_in (suc depth) Mark other = refl
  text_in (suc depth) (Name number) other = refl
  text_in (suc depth) (Operator operator) other = refl
  text_in (suc depth) (Text part) other = refl
  text_in (suc depth) (Dictionary address) other = refl
  text_in (suc depth) (Lock address) other = refl
  text_in (suc depth) (Condition address) other = refl
  text_in (suc depth) (Body address) other = refl

  module _ (c : Content) (is : c ≡ content_in w.0) where
    value_is : value_of births names w ≡ record { what = what_of births names c; executable = executable_in w.0 }
    unfolding value_of
    value_is = ap (λ (d : Content). record { what = what_of births names d; executable = executable_in w.0 }) (sym is)

    pub simple_is : (depth : ℕ) → ((part : Part) → c ≡ Array part → ⊥)
        → text_to depth s (value_of births names w) ≡ simple_text s (executable_in w.0) (what_of births names c)
    unfolding text_to
    simple_is depth other = ap (text_within depth s) value_is ∙ text_in depth c other

  module _ (part : Part) (is : Array part ≡ content_in w.0) where
    pub deepest_is : text_to 0 s (value_of births names w) ≡ codes "-array-"
    unfolding text_to
    deepest_is = ap (text_within 0 s) (value_is (Array part) is)

    unreadable_at : (depth : ℕ) → is_readable part.access ≡ false
        → text_within depth s (record { what = what_of births names (Array part); executable = executable_in w.0 })
        ≡ codes "-array-"
    unreadable_at zero closed = refl
    unreadable_at (suc depth) closed = rw closed refl

    pub unreadable_is : (depth : ℕ) → is_readable part.access ≡ false
        → text_to depth s (value_of births names w) ≡ codes "-array-"
    unfolding text_to
    unreadable_is depth closed = ap (text_within depth s) (value_is (Array part) is) ∙ unreadable_at depth closed

    abbrev pub elements_text : ℕ → List ℕ
    elements_text depth = join_with_byte 32 (map (text_to depth s) (part_elements s (part_of births part)))

    array_at : (depth : ℕ) → is_readable part.access ≡ true
        → text_within (suc depth) s (record {
          what = what_of births names (Array part);
          executable = executable_in w.0;
        }) ≡ (opening_of (executable_in w.0) ++ elements_text depth) ++ closing_of (executable_in w.0)
    unfolding text_to
    array_at depth readable = rw readable (enclosed_is (executable_in w.0) _)

    pub array_is : (depth : ℕ) → 0 < depth → is_readable part.access ≡ true
        → text_to depth s (value_of births names w)
        ≡ (opening_of (executable_in w.0) ++ elements_text (depth - 1)) ++ closing_of (executable_in w.0)
    unfolding text_to
    array_is depth deep readable =
        let more : depth ≡ suc (depth - 1) = omega arith in
        ap (text_within depth s) (value_is (Array part) is)
        ∙ (ap (λ n. text_within n s (record {
          what = what_of births names (Array part);
          executable = executable_in w.0;
        })) more ∙ array_at (depth - 1) readable)

-- ---- the whole

pub full_is : (s : Store) (v : Value) → full_text s v ≡ take 65535 (text_to 32 s v)
unfolding full_text text_to
full_is s v = refl

-- a text that ends so many bytes behind what stood
pub full_written : (s : Store) (v : Value) (old new : List ℕ) (end : ℕ) → end ≡ length old + 65535
    → new ≡ take end (old ++ text_to 32 s v) → new ≡ old ++ full_text s v
full_written s v old new end is written =
    written ∙ (ap (λ n. take n (old ++ text_to 32 s v)) is
    ∙ (take-append-add old (text_to 32 s v) 65535 ∙ ap (λ xs. old ++ xs) (sym (full_is s v))))

-- What a memory is told of where values stand.
use Rattle.std.proofs.Common.{◌≡◌, ℕ, suc, ◌+◌, ◌-◌, ◌*◌, ◌/◌, ◌%◌, ◌^◌, ◌<◌, ◌≤◌, Bool, true, false, List, [], ◌∷◌, length, Option, Some, None, refl, sym, ap, ◌∙◌, arith, subst}
use Rattle.std.specs.Prelude.{option_map, unwrap_or, ◌==◌, if◌then◌else◌, slice_index_or}
use Rattle.std.specs.Option.{option_or}
use Rattle.ps_language.specs.Limits.{capacity_limit}
use Rattle.ps_language.specs.Access.{is_readable}
use Rattle.ps_language.specs.declared.access.Access.{Access}
use Rattle.ps_language.specs.declared.kinds.Kind.TheVariants.{Dictionary as DictionaryKind, Body as BodyKind}
use Rattle.ps_word.specs.declared.words.Word.{Word}
use Rattle.ps_word.specs.declared.values.Content.{Content}
use Rattle.ps_word.specs.declared.values.Content.TheVariants.{Null, Integer, Boolean, Mark, Name, Operator, Array, Text, Dictionary, Lock, Condition, Body}
use Rattle.ps_word.specs.Format.{content_in, content_of, type_in, access_of, address_in}
use Rattle.ps_word.specs.Readers.{as_dictionary, as_name, as_body}
use Rattle.ps_mem.specs.Heap.{Heap, Standing, birth_at, fields_at, zero_word}
use Rattle.ps_mem.specs.References.{StandsAs, IsKnown, IsKnownContent}
use Rattle.ps_mem.specs.Shows.{IsValue, IsSound}
use Rattle.ps_mem.specs.declared.cells.Cell.{Cell}
use Rattle.ps_mem.specs.declared.cells.DictionaryPlace.{DictionaryPlace}
use Rattle.ps_mem.specs.declared.cells.DictionaryPair.{DictionaryPair}
use Rattle.ps_mem.specs.Cells.{kind_at, cell_at, first_cell, IsOpen, IsCellOf}
use Rattle.ps_dict.specs.Keys.{same_content, same_words}
use Rattle.ps_dict.specs.Places.{body_in, count_at, capacity_at, access_at, body_at, pairs_at, place_of}
use Rattle.ps_dict.proofs.Shapes.{shape, capacity-is, count-fits, body-stands}
use Rattle.ps_dict.proofs.Reading.{value-place, position-below}

-- ---- the dictionary that a word refers to

stands_dictionary : (h : Heap) (c : Content) → IsKnownContent h c → (a : ℕ) → Some a ≡ as_dictionary c
    → StandsAs h DictionaryKind a 4
stands_dictionary h Null k a is = cc
stands_dictionary h (Integer _) k a is = cc
stands_dictionary h (Boolean _) k a is = cc
stands_dictionary h Mark k a is = cc
stands_dictionary h (Name _) k a is = cc
stands_dictionary h (Operator _) k a is = cc
stands_dictionary h (Array p) k a is = cc
stands_dictionary h (Text p) k a is = cc
stands_dictionary h (Dictionary b) k a is =
    let same : a ≡ b = cc in subst (λ n. StandsAs h DictionaryKind n 4) (sym same) k
stands_dictionary h (Lock _) k a is = cc
stands_dictionary h (Condition _) k a is = cc
stands_dictionary h (Body _) k a is = cc

pub dictionary_stands : (h : Heap) (w : Word) → IsValue h w → (a : ℕ)
    → Some a ≡ as_dictionary (content_in w.0) → StandsAs h DictionaryKind a 4
unfolding IsKnown
dictionary_stands h w v a is = stands_dictionary h (content_in w.0) v.known a is

pub opens : (h : Heap) (w : Word) (a b : ℕ) (access : Access) → StandsAs h DictionaryKind a 4
    → IsSound h → Some a ≡ as_dictionary (content_in w.0) → b ≡ body_at h a
    → access ≡ access_of (access_at h a) → is_readable access ≡ true
    → IsOpen h (record { word = w; address = a; body = b })
opens h w a b access known sound is at same may = record {
  is = sym is;
  stands = ap (option_map (λ (o : Standing). o.kind)) known.at ∙ ap Some known.kind_is;
  readable = ap is_readable (sym same) ∙ may;
  body = sym at;
  body_stands = ap (kind_at h) at
      ∙ ap (option_map (λ (o : Standing). o.kind)) (body-stands h a known sound);
}

-- ---- addresses are small

abbrev LowBody : Content → Type 0
LowBody c = unwrap_or (as_body c) 0 < 2 ^ 24

pick : (b : Bool) (x y : Content) → LowBody x → LowBody y → LowBody (if b then x else y)
pick true x y first second = first
pick false x y first second = second

low-content : (t w : ℕ) → LowBody (content_of t w)
low-content t w =
    pick (t == 1) _ _ (omega arith) (pick (t == 2) _ _ (omega arith)
    (pick (t == 3) _ _ (omega arith) (pick (t == 4) _ _ (omega arith)
    (pick (t == 5) _ _ (omega arith) (pick (t == 6) _ _ (omega arith)
    (pick (t == 7) _ _ (omega arith) (pick (t == 8) _ _ (omega arith)
    (pick (t == 9) _ _ (omega arith) (pick (t == 10) _ _ (omega arith)
    (pick (t == 11) (Body (address_in w)) Null (omega arith) (omega arith)))))))))))

low-body : (h : Heap) (a : ℕ) → body_at h a < 2 ^ 24
unfolding body_in content_in
low-body h a = low-content (type_in (slice_index_or (fields_at h a) 3 zero_word).0)
    (slice_index_or (fields_at h a) 3 zero_word).0

module _ (h : Heap) (a : ℕ) (known : StandsAs h DictionaryKind a 4) (sound : IsSound h)
    (key : Word) (body place : ℕ) (is : body ≡ body_at h a)
    (first : place_of (pairs_at h a) key ≡ Some place) where
  below : place < count_at h a
  below = position-below h a known sound key place first

  pub sum-fits : body + (2 * place + 1) < 2 ^ 32
  sum-fits =
      let low = low-body h a in
      let few = (shape h a known sound).few in
      let capacity = capacity-is h a known sound in
      let fits = count-fits h a known sound in
      omega (arith, is, low, few, capacity, fits, below)

  pub value-within : body + (2 * place + 1) - body < length (fields_at h body)
  value-within =
      let fits : 2 * place + 1 < length (fields_at h body) =
      subst (λ b. 2 * place + 1 < length (fields_at h b)) (sym is)
      (value-place h a known sound place below) in
      omega (arith, fits)

-- ---- by any word of the name

pub name-content : (c : Content) (name : ℕ) → Some name ≡ as_name c → c ≡ Name name
name-content Null name is = cc
name-content (Integer _) name is = cc
name-content (Boolean _) name is = cc
name-content Mark name is = cc
name-content (Name n) name is = let same : name ≡ n = cc in ap Name (sym same)
name-content (Operator _) name is = cc
name-content (Array p) name is = cc
name-content (Text p) name is = cc
name-content (Dictionary b) name is = cc
name-content (Lock _) name is = cc
name-content (Condition _) name is = cc
name-content (Body _) name is = cc

place-alike : (ps : List (Word × Word)) (k l : Word) → content_in k.0 ≡ content_in l.0
    → place_of ps k ≡ place_of ps l
unfolding place_of same_words
place-alike [] k l same = refl
place-alike (p ∷ ps) k l same =
    ap (λ c. if same_content (content_in p.0.0) c then Some 0 else option_map suc (place_of ps k))
    same
    ∙ ap (λ found. if same_content (content_in p.0.0) (content_in l.0) then Some 0
    else option_map suc found) (place-alike ps k l same)

module _ (h : Heap) (pair : DictionaryPair) (name : ℕ) (key : Word) (cell : Cell)
    (named : content_in key.0 ≡ Name name) where
  abbrev upper_place : Word → Option ℕ
  upper_place k = place_of (pairs_at h pair.upper.address) k

  abbrev lower_place : Word → Option ℕ
  lower_place k = place_of (pairs_at h pair.lower.address) k

  first-alike : (k : Word) → content_in k.0 ≡ Name name → first_cell h pair k ≡ first_cell h pair key
  first-alike k is =
      ap (λ p. option_or (option_map (cell_at pair.upper.body) p)
      (option_map (cell_at pair.lower.body) (lower_place k)))
      (place-alike (pairs_at h pair.upper.address) k key (is ∙ sym named))
      ∙ ap (λ p. option_or (option_map (cell_at pair.upper.body) (upper_place key))
      (option_map (cell_at pair.lower.body) p))
      (place-alike (pairs_at h pair.lower.address) k key (is ∙ sym named))

  pub first-upper : Some cell ≡ option_map (cell_at pair.upper.body) (upper_place key)
      → (k : Word) → content_in k.0 ≡ Name name → first_cell h pair k ≡ Some cell
  first-upper found k is = first-alike k is
      ∙ ap (λ o. option_or o (option_map (cell_at pair.lower.body) (lower_place key))) (sym found)

  pub first-lower : None ≡ option_map (cell_at pair.upper.body) (upper_place key)
      → Some cell ≡ option_map (cell_at pair.lower.body) (lower_place key)
      → (k : Word) → content_in k.0 ≡ Name name → first_cell h pair k ≡ Some cell
  first-lower none found k is = first-alike k is
      ∙ (ap (λ o. option_or o (option_map (cell_at pair.lower.body) (lower_place key))) (sym none)
      ∙ sym found)

-- ---- what is told

-- over a heap that stays the same
module _ (h h1 h2 h3 : Heap) (upper lower : DictionaryPlace) (name : ℕ) (key : Word) (cell : Cell)
    (e1 : h1 ≡ h) (e2 : h2 ≡ h1) (e3 : h3 ≡ h2) where
  abbrev two : DictionaryPair
  two = record { upper = upper; lower = lower }

  module _ (g : Heap) (back : g ≡ h2) (named : content_in key.0 ≡ Name name)
      (above : IsOpen h upper) (below : IsOpen h1 lower)
      (first : (k : Word) → content_in k.0 ≡ Name name → first_cell h2 two k ≡ Some cell)
      (from : cell.body ≤ cell.at) (within : cell.at - cell.body < length (fields_at h2 cell.body))
    where
      tells : IsCellOf g two name cell
      tells = subst (λ (k : Heap). IsCellOf k two name cell) (sym back) (record {
        upper = subst (λ (k : Heap). IsOpen k upper) (sym (e2 ∙ e1)) above;
        lower = subst (λ (k : Heap). IsOpen k lower) (sym e2) below;
        first = first;
        from = from;
        within = within;
      })

  module _ (named : content_in key.0 ≡ Name name) (above : IsOpen h upper)
      (below : IsOpen h1 lower) where
    pub tells-upper
        : Some cell ≡ option_map (cell_at upper.body) (place_of (pairs_at h2 upper.address) key)
        → cell.body ≤ cell.at → cell.at - cell.body < length (fields_at h2 cell.body)
        → IsCellOf h3 two name cell
    tells-upper found from within =
        tells h3 e3 named above below (first-upper h2 two name key cell named found) from within

    -- the lower one is looked through behind the upper one
    pub tells-behind : (h4 : Heap) → h4 ≡ h3
        → None ≡ option_map (cell_at upper.body) (place_of (pairs_at h2 upper.address) key)
        → Some cell ≡ option_map (cell_at lower.body) (place_of (pairs_at h3 lower.address) key)
        → cell.body ≤ cell.at → cell.at - cell.body < length (fields_at h3 cell.body)
        → IsCellOf h4 two name cell
    tells-behind h4 e4 none found from within =
        tells h4 (e4 ∙ e3) named above below (first-lower h2 two name key cell named none
        (subst (λ (k : Heap). Some cell ≡ option_map (cell_at lower.body)
        (place_of (pairs_at k lower.address) key)) e3 found)) from
        (subst (λ (k : Heap). cell.at - cell.body < length (fields_at k cell.body)) e3 within)

pub tells-lower : (h h1 h2 h3 h4 : Heap) (upper lower : DictionaryPlace) (name : ℕ) (key : Word)
    (cell : Cell) → h1 ≡ h → h2 ≡ h1 → h3 ≡ h2 → h4 ≡ h3 → content_in key.0 ≡ Name name
    → IsOpen h upper → IsOpen h1 lower
    → None ≡ option_map (cell_at upper.body) (place_of (pairs_at h2 upper.address) key)
    → Some cell ≡ option_map (cell_at lower.body) (place_of (pairs_at h3 lower.address) key)
    → cell.body ≤ cell.at → cell.at - cell.body < length (fields_at h3 cell.body)
    → IsCellOf h4 (record { upper = upper; lower = lower }) name cell
tells-lower h h1 h2 h3 h4 upper lower name key cell e1 e2 e3 e4 named above below none found from within =
    tells-behind h h1 h2 h3 upper lower name key cell e1 e2 e3 named above below h4 e4 none found
    from within

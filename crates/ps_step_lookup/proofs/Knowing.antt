-- What a memory knows of a name without a search is what the dictionaries have.
use Rattle.std.proofs.Common.{◌≡◌, ◌≢◌, ◌⊎◌, ℕ, suc, ◌+◌, ◌-◌, ◌*◌, ◌<◌, ◌≤◌, true, List, drop, map, slice_get, length, Option, Some, None, Ok, Err, refl, sym, ap, ◌∙◌, arith, subst, inl, inr}
use Rattle.std.specs.Prelude.{option_map, Result, IfOk, IfSome}
use Rattle.std.specs.Option.{option_or}
use Rattle.std.specs.List.{AllPairs}
use Rattle.ps_language.specs.declared.errors.ErrorName.{ErrorName}
use Rattle.ps_language.specs.declared.kinds.Kind.TheVariants.{Dictionary as DictionaryKind}
use Rattle.ps_language.specs.Value.{Value, Store}
use Rattle.ps_language.specs.Access.{dictionary_at, may_read}
use Rattle.ps_language.specs.Dictionaries.{look_up}
use Rattle.ps_language.specs.Outcome.{leaves, fails}
use Rattle.ps_language.specs.StepValues.{LookedUp, known, unknown, unreadable, looked_up, seen}
use Rattle.ps_word.specs.declared.words.Word.{Word}
use Rattle.ps_word.specs.declared.values.Content.TheVariants.{Name}
use Rattle.ps_word.specs.Format.{content_in}
use Rattle.ps_mem.specs.Heap.{Heap, birth_at, fields_at}
use Rattle.ps_mem.specs.References.{StandsAs}
use Rattle.ps_mem.specs.Meaning.{value_of}
use Rattle.ps_mem.specs.Shows.{AreValues, IsSound, IsValue, IsWithin, Shows}
use Rattle.ps_mem.specs.Cells.{cell_at, IsOpen, IsFirstValue}
use Rattle.ps_mem.specs.declared.cells.Cell.{Cell}
use Rattle.ps_mem.specs.declared.cells.DictionaryPlace.{DictionaryPlace}
use Rattle.ps_mem.proofs.Lists.{all_at}
use Rattle.ps_dict.specs.Places.{body_at, pairs_at, place_of}
use Rattle.ps_dict.proofs.Shapes.{access_of-shown, body-values, body-within}
use Rattle.ps_dict.proofs.Reading.{value-pair, position-below, found-shown, missing-shown}
use Rattle.ps_dict.proofs.Telling.{dictionary_stands}
use Rattle.ps_step_lookup.specs.Lookups.{LooksIn, found_of, known_value, second_of}
use Rattle.ps_step_lookup.proofs.Looking.{dictionary_read, looks_found, found_here, missing_here}

-- ---- by the outcome

pub known_as : (looked : LookedUp) (v : Value) → Some v ≡ known_value looked → looked ≡ known v
known_as (known x) v is = let same : v ≡ x = cc in ap known (sym same)
known_as unknown v is = absurd (cc)
known_as unreadable v is = absurd (cc)

module _ (births : ℕ → ℕ) (names : List (List ℕ)) (s : Store) (k : Value) (values : List Value)
  where
    by_look_up : (result : Result (Option (Word × Word)) ErrorName)
        → look_up s values k ≡ found_of births names result
        → option_map (value_of births names) (second_of result)
        ≡ known_value (looked_up k values s)
    unfolding looked_up
    by_look_up (Ok (Some pair)) is = rw is refl
    by_look_up (Ok None) is = rw is refl
    by_look_up (Err error) is = rw is refl

    pub known_by : (d v : Value) → look_up s values k ≡ leaves (Some (d, v))
        → Some v ≡ known_value (looked_up k values s)
    unfolding looked_up
    known_by d v is = sym (ap (λ found. known_value (seen found)) is)

    pub none_by : (error : ErrorName) → look_up s values k ≡ fails error
        → None ≡ known_value (looked_up k values s)
    unfolding looked_up
    none_by error is = sym (ap (λ found. known_value (seen found)) is)

    pub as_looked_up : (result : Result (Option (Word × Word)) ErrorName) (found : Option Word)
        → found ≡ second_of result → look_up s values k ≡ found_of births names result
        → option_map (value_of births names) found ≡ known_value (looked_up k values s)
    as_looked_up result found same is =
        ap (option_map (value_of births names)) same ∙ by_look_up result is

-- what holds of what was found
pub found_as : (P : Word → Type 0) (result : Result (Option (Word × Word)) ErrorName)
    (pair : Word × Word) → result ≡ Ok (Some pair)
    → IfOk result (λ found. IfSome found (λ p. P p.0 × P p.1)) → P pair.1
found_as P result pair is held = (subst (λ (r : Result (Option (Word × Word)) ErrorName).
    IfOk r (λ found. IfSome found (λ p. P p.0 × P p.1))) is held).1

-- ---- where it stands

either_cell : (b c : ℕ) (up low : Option ℕ) (cell : Cell)
    → option_or (option_map (cell_at b) up) (option_map (cell_at c) low) ≡ Some cell
    → ((p : ℕ) × (up ≡ Some p) × (cell ≡ cell_at b p))
    ⊎ ((up ≡ None) × ((p : ℕ) × (low ≡ Some p) × (cell ≡ cell_at c p)))
either_cell b c (Some p) low cell is =
    inl (p, refl, (let same : cell ≡ cell_at b p = cc in same))
either_cell b c None (Some p) cell is =
    inr (refl, (p, refl, (let same : cell ≡ cell_at c p = cc in same)))
either_cell b c None None cell is = absurd (cc)

module _ (h : Heap) (word : Word) (value : Word) where
  -- the dictionary's first pair with the key has this place, and this value
  abbrev HasAt : DictionaryPlace → ℕ → Type 0
  HasAt d place = (place_of (pairs_at h d.address) word ≡ Some place)
      × (slice_get (fields_at h (body_at h d.address)) (2 * place + 1) ≡ Some value)

  has_at : (d : DictionaryPlace) (cell : Cell) (place : ℕ) → body_at h d.address ≡ d.body
      → cell ≡ cell_at d.body place
      → slice_get (fields_at h cell.body) (cell.at - cell.body) ≡ Some value
      → slice_get (fields_at h (body_at h d.address)) (2 * place + 1) ≡ Some value
  has_at d cell place body is stands =
      let at : d.body + (2 * place + 1) - d.body ≡ 2 * place + 1 = omega arith in
      ap (λ b. slice_get (fields_at h b) (2 * place + 1)) body
      ∙ (ap (slice_get (fields_at h d.body)) (sym at)
      ∙ (sym (ap (λ (c : Cell). slice_get (fields_at h c.body) (c.at - c.body)) is) ∙ stands))

  module _ (upper lower : Word) (name : ℕ) (told : IsFirstValue h upper lower name value)
      (named : content_in word.0 ≡ Name name) where
    abbrev above : DictionaryPlace
    above = told.pair.upper

    abbrev below : DictionaryPlace
    below = told.pair.lower

    where_found : ((p : ℕ) × HasAt above p)
        ⊎ ((place_of (pairs_at h above.address) word ≡ None) × ((p : ℕ) × HasAt below p))
    where_found =
        let either = either_cell above.body below.body (place_of (pairs_at h above.address) word)
        (place_of (pairs_at h below.address) word) told.cell (told.tells.first word named) in
        elim either [
          | inl (p, at, is) ↦
              inl (p, (at, has_at above told.cell p told.tells.upper.body is told.stands))
          | inr (none, (p, at, is)) ↦
              inr (none, (p, (at, has_at below told.cell p told.tells.lower.body is told.stands)))
        ]

-- ---- what it means

module _ (h : Heap) (sound : IsSound h) (word : Word) (value : Word) (d : DictionaryPlace)
    (is_open : IsOpen h d) (held : IsValue h d.word) (p : ℕ) (has : HasAt h word value d p) where
  stands : StandsAs h DictionaryKind d.address 4
  stands = dictionary_stands h d.word held d.address (sym is_open.is)

  has-held : IsValue h value
  has-held = all_at (IsValue h) (fields_at h (body_at h d.address)) (2 * p + 1) value
      (body-values h d.address stands sound) has.1

  has-within : (names : List (List ℕ)) (s : Store) → Shows h names s
      → IsWithin (birth_at h) names s value
  has-within names s shows = all_at (IsWithin (birth_at h) names s)
      (fields_at h (body_at h d.address)) (2 * p + 1) value
      (body-within h d.address stands sound names s shows) has.1

module _ (h : Heap) (sound : IsSound h) (names : List (List ℕ)) (s : Store)
    (shows : Shows h names s) (distinct : AllPairs (λ first later. first ≢ later) names)
    (word : Word) (key : IsValue h word) (within : IsWithin (birth_at h) names s word) where
  abbrev meant : Value
  meant = value_of (birth_at h) names word

  module _ (d : DictionaryPlace) (is_open : IsOpen h d) (held : IsValue h d.word) where
    there : StandsAs h DictionaryKind d.address 4
    there = dictionary_stands h d.word held d.address (sym is_open.is)

    readable : may_read s (value_of (birth_at h) names d.word) ≡ true
    readable = dictionary_read (birth_at h) names s d.word d.address (sym is_open.is)
        (access_of-shown h d.address there sound names s shows) (sym is_open.readable)

    has-looks : (value : Word) (p : ℕ) → HasAt h word value d p
        → LooksIn (birth_at h) names s d.word meant (Ok (Some value))
    has-looks value p (at, at_value) =
        let (k, pair) = value-pair h d.address there sound p
        (position-below h d.address there sound word p at) value at_value in
        looks_found (birth_at h) names s d.word meant readable d.address (sym is_open.is) (Some value)
        (sym (found-shown h d.address there sound names s shows word key distinct within p (k, value)
        at pair))

    lacks-looks : place_of (pairs_at h d.address) word ≡ None
        → LooksIn (birth_at h) names s d.word meant (Ok None)
    lacks-looks none =
        looks_found (birth_at h) names s d.word meant readable d.address (sym is_open.is) None
        (sym (missing-shown h d.address there sound names s shows word key distinct within none))

-- ---- through the dictionary stack

module _ (h : Heap) (sound : IsSound h) (ws : List Word) (held : AreValues h ws) (n : ℕ)
    (upper lower word : Word) (first : slice_get ws n ≡ Some upper)
    (second : slice_get ws (n + 1) ≡ Some lower) (name : ℕ) (named : content_in word.0 ≡ Name name)
    (value : Word) (told : IsFirstValue h upper lower name value) where
  first_is : slice_get ws n ≡ Some told.pair.upper.word
  first_is = first ∙ ap Some (sym told.above)

  second_is : slice_get ws (n + 1) ≡ Some told.pair.lower.word
  second_is = second ∙ ap Some (sym told.below)

  upper_held : IsValue h told.pair.upper.word
  upper_held = all_at (IsValue h) ws n told.pair.upper.word held first_is

  lower_held : IsValue h told.pair.lower.word
  lower_held = all_at (IsValue h) ws (n + 1) told.pair.lower.word held second_is

  pub known-held : IsValue h value
  known-held = elim (where_found h word value upper lower name told named) [
    | inl (p, has) ↦ has-held h sound word value told.pair.upper told.tells.upper upper_held p has
    | inr (none, (p, has)) ↦
        has-held h sound word value told.pair.lower told.tells.lower lower_held p has
  ]

  pub known-within : (names : List (List ℕ)) (s : Store) → Shows h names s
      → IsWithin (birth_at h) names s value
  known-within names s shows = elim (where_found h word value upper lower name told named) [
    | inl (p, has) ↦
        has-within h sound word value told.pair.upper told.tells.upper upper_held p has names s shows
    | inr (none, (p, has)) ↦
        has-within h sound word value told.pair.lower told.tells.lower lower_held p has names s shows
  ]

  module _ (key : IsValue h word) (names : List (List ℕ)) (s : Store) (shows : Shows h names s)
      (distinct : AllPairs (λ first later. first ≢ later) names)
      (within : IsWithin (birth_at h) names s word) where
    abbrev sought : Value
    sought = value_of (birth_at h) names word

    abbrev values : List Value
    values = map (value_of (birth_at h) names) ws

    pub known-found : (d : Value) × (look_up s (drop n values) sought
        ≡ leaves (Some (d, value_of (birth_at h) names value)))
    known-found = elim (where_found h word value upper lower name told named) [
      | inl (p, has) ↦ (
        value_of (birth_at h) names told.pair.upper.word,
        found_here (birth_at h) names s sought ws n told.pair.upper.word first_is value
            (has-looks h sound names s shows distinct word key within told.pair.upper
            told.tells.upper upper_held value p has),
      )
      | inr (none, (p, has)) ↦ (
        value_of (birth_at h) names told.pair.lower.word,
        missing_here (birth_at h) names s sought ws n told.pair.upper.word first_is
            (lacks-looks h sound names s shows distinct word key within told.pair.upper
            told.tells.upper upper_held none)
            ∙ found_here (birth_at h) names s sought ws (n + 1) told.pair.lower.word second_is value
            (has-looks h sound names s shows distinct word key within told.pair.lower
            told.tells.lower lower_held value p has),
      )
    ]

    -- which was left of all
    pub known-value : look_up s values sought ≡ look_up s (drop n values) sought
        → option_map (value_of (birth_at h) names) (Some value)
        ≡ known_value (looked_up sought values s)
    known-value left = known_by (birth_at h) names s sought values known-found.0
        (value_of (birth_at h) names value) (left ∙ known-found.1)

-- the two lowest of all, by how many are below each
pub lowest_two : (ws : List Word) (upper lower : Word) → 2 ≤ length ws
    → slice_get ws (length ws - 1 - 1) ≡ Some upper → slice_get ws (length ws - 1 - 0) ≡ Some lower
    → (slice_get ws (length ws - 2) ≡ Some upper) × (slice_get ws (length ws - 2 + 1) ≡ Some lower)
lowest_two ws upper lower two first second =
    let one : length ws - 1 - 1 ≡ length ws - 2 = omega arith in
    let other : length ws - 1 - 0 ≡ length ws - 2 + 1 = omega (arith, two) in (
      subst (λ (n : ℕ). slice_get ws n ≡ Some upper) one first,
      subst (λ (n : ℕ). slice_get ws n ≡ Some lower) other second,
    )

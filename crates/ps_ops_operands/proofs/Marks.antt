-- The search for the topmost mark, from the topmost operand down.
use Rattle.std.proofs.Common.{◌≡◌, ℕ, zero, suc, ◌+◌, ◌≤◌, true, false, Option, Some, None, List, [], ◌∷◌, ◌++◌, length}
use Rattle.std.proofs.Common.{take, drop, Ok, Err, Result, refl, sym, ◌∙◌, ap, arith, add-one}
use Rattle.std.specs.Prelude.{option_map, slice_get}
use Rattle.std.proofs.lemmas.Option.{slice_get-map}
use Rattle.std.proofs.lemmas.List.{drop-map, length-map, length-take-le}
use Rattle.ps_language.specs.declared.errors.ErrorName.{ErrorName}
use Rattle.ps_language.specs.declared.errors.ErrorName.TheVariants.{UnmatchedMark}
use Rattle.ps_language.specs.Outcome.{leaves}
use Rattle.ps_language.specs.Value.{Value}
use Rattle.ps_language.specs.Readers.{is_mark, natural, push}
use Rattle.ps_language.specs.RowsStack.{split_at_mark, cleartomark_row, counttomark_row}
use Rattle.ps_word.specs.declared.words.Word.{Word}
use Rattle.ps_word.specs.Format.{content_in}
use Rattle.ps_word.specs.Readers as readers
use Rattle.ps_mem.specs.Meaning.{value_of}
use Rattle.ps_ops_operands.specs.Does.{values_of, Does}
use Rattle.ps_ops_operands.specs.Marks.{IsMarkAt, HasNoMark}
use Rattle.ps_ops_operands.proofs.Meanings.{is_mark-word}
use Rattle.ps_ops_operands.proofs.Doing.{does_leaves, does_fails, does_same}

-- what is found behind the operands that were passed
abbrev pub split_behind : (passed : ℕ) → List Value → Option (List Value × List Value)
split_behind passed values =
    option_map (λ (parts : List Value × List Value). (
      take passed values ++ parts.0,
      parts.1,
    )) (split_at_mark (drop passed values))

same_parts : (parts : Option (List Value × List Value))
    → parts ≡ option_map (λ (p : List Value × List Value). ([] ++ p.0, p.1)) parts
same_parts None = refl
same_parts (Some parts) = refl

-- none was passed yet
pub split_start : (values : List Value) → split_at_mark values ≡ split_behind 0 values
split_start values = same_parts (split_at_mark values)

-- the operand at a place comes first behind those before it
at_drop : {A : Type 0} (xs : List A) (i : ℕ) (x : A) → slice_get xs i ≡ Some x → drop i xs ≡ x ∷ drop (suc i) xs
at_drop [] i x h = cc
at_drop (y ∷ ys) zero x h = let same : y ≡ x = cc in ap (λ z. z ∷ ys) same
at_drop (y ∷ ys) (suc i) x h = at_drop ys i x h

take_next : {A : Type 0} (xs : List A) (i : ℕ) (x : A) → slice_get xs i ≡ Some x → take (suc i) xs ≡ take i xs ++ x ∷ []
take_next [] i x h = cc
take_next (y ∷ ys) zero x h = let same : y ≡ x = cc in ap (λ z. z ∷ []) same
take_next (y ∷ ys) (suc i) x h = ap (λ zs. y ∷ zs) (take_next ys i x h)

prepended : {A : Type 0} (xs ys : List A) (x : A) → (xs ++ x ∷ []) ++ ys ≡ xs ++ (x ∷ ys)
prepended [] ys x = refl
prepended (z ∷ xs) ys x = ap (λ zs. z ∷ zs) (prepended xs ys x)

nothing_more : {A : Type 0} (xs : List A) → xs ++ [] ≡ xs
nothing_more [] = refl
nothing_more (x ∷ xs) = ap (λ ys. x ∷ ys) (nothing_more xs)

-- the parts with operands in front
abbrev behind : List Value → (List Value × List Value) → List Value × List Value
behind front parts = (front ++ parts.0, parts.1)

moved_on : (front : List Value) (x : Value) (found : Option (List Value × List Value))
    → option_map (behind front) (option_map (behind (x ∷ [])) found) ≡ option_map (behind (front ++ x ∷ [])) found
moved_on front x None = refl
moved_on front x (Some parts) = let whole : List Value → Option (List Value × List Value) = λ xs. Some (xs, parts.1) in
    ap whole (sym (prepended front parts.0 x))

-- an operand that is no mark is passed
pub split_next : (values : List Value) (passed : ℕ) (x : Value) → slice_get values passed ≡ Some x → is_mark x ≡ false
    → split_behind passed values ≡ split_behind (passed + 1) values
split_next values passed x h other =
    rw (add-one, at_drop values passed x h, other, take_next values passed x h)
    (moved_on (take passed values) x (split_at_mark (drop (suc passed) values)))

-- the first mark ends the search
pub split_found : (values : List Value) (passed : ℕ) (x : Value) → slice_get values passed ≡ Some x → is_mark x ≡ true
    → split_behind passed values ≡ Some (take passed values, drop (passed + 1) values)
split_found values passed x h mark =
    rw (add-one, at_drop values passed x h, mark)
    (let whole : List Value → Option (List Value × List Value) = λ xs. Some (xs, drop (suc passed) values) in
    ap whole (nothing_more (take passed values)))

drop_past : {A : Type 0} (xs : List A) (i : ℕ) → length xs ≤ i → drop i xs ≡ []
drop_past [] zero h = refl
drop_past [] (suc i) h = refl
drop_past (x ∷ xs) zero h = absurd (omega arith)
drop_past (x ∷ xs) (suc i) h = drop_past xs i (omega arith)

-- none is left
pub split_end : (values : List Value) (passed : ℕ) → length values ≤ passed → split_behind passed values ≡ None
split_end values passed h = rw (drop_past values passed h) refl

-- an operand's value
pub value_at : (births : ℕ → ℕ) (names : List (List ℕ)) (operands : List Word) (place : ℕ) (w : Word)
    → slice_get operands place ≡ Some w → slice_get (values_of births names operands) place
    ≡ Some (value_of births names w)
value_at births names operands place w h = slice_get-map (value_of births names) operands place
    ∙ ap (option_map (value_of births names)) h

module _ (words : List Word) (depth : ℕ) where
  -- the search goes on behind the operands that were passed
  pub record IsBehind : Type 0 where
    pub behind : (births : ℕ → ℕ) (names : List (List ℕ))
        → split_at_mark (values_of births names words) ≡ split_behind depth (values_of births names words)

pub mark_start : (words : List Word) → IsBehind words 0
mark_start words = record { behind = λ births names. split_start (values_of births names words) }

pub mark_next : (words : List Word) (depth : ℕ) (w : Word) → IsBehind words depth → slice_get words depth ≡ Some w
    → readers.is_mark (content_in w.0) ≡ false → IsBehind words (depth + 1)
mark_next words depth w so at other = record {
  behind = λ births names. so.behind births names
      ∙ split_next (values_of births names words) depth (value_of births names w)
      (value_at births names words depth w at) (is_mark-word births names w ∙ other);
}

pub mark_found : (words : List Word) (depth : ℕ) (w : Word) → IsBehind words depth → slice_get words depth ≡ Some w
    → readers.is_mark (content_in w.0) ≡ true → IsMarkAt words depth
mark_found words depth w so at mark = record {
  splits = λ births names. so.behind births names
      ∙ split_found (values_of births names words) depth (value_of births names w)
      (value_at births names words depth w at) (is_mark-word births names w ∙ mark);
}

pub mark_end : (words : List Word) (depth : ℕ) → IsBehind words depth → length words ≤ depth → HasNoMark words
mark_end words depth so past = record {
  none = λ births names. so.behind births names
      ∙ split_end (values_of births names words) depth (omega (arith, length-map words (value_of births names), past));
}

-- what an operator that looks for the mark did
pub cleartomark_done : (old new : List Word) (depth : ℕ) → IsMarkAt old depth → new ≡ drop (depth + 1) old
    → Does cleartomark_row (Ok tt) old new
cleartomark_done old new depth mark is =
    does_leaves cleartomark_row old new (λ births names. rw (mark.splits births names, is)
    (ap leaves (drop-map (value_of births names) (depth + 1) old)))

pub cleartomark_lacks : (words : List Word) → HasNoMark words → Does cleartomark_row (Err UnmatchedMark) words words
cleartomark_lacks words lacks =
    does_fails cleartomark_row UnmatchedMark words words (λ births names. rw (lacks.none births names) refl) refl

pub counttomark_done : (old new : List Word) (depth : ℕ) (result : Result Unit ErrorName) → IsMarkAt old depth
    → depth ≤ length old
    → Does (push (natural depth)) result old new → Does counttomark_row result old new
counttomark_done old new depth result mark within did =
    does_same (push (natural depth)) counttomark_row result old new
    (λ births names.
    let values : List Value = values_of births names old in
    let count : length (take depth values) ≡ depth =
    length-take-le depth values (omega (arith, length-map old (value_of births names), within)) in
    rw (mark.splits births names, count) refl) did

pub counttomark_lacks : (words : List Word) → HasNoMark words → Does counttomark_row (Err UnmatchedMark) words words
counttomark_lacks words lacks =
    does_fails counttomark_row UnmatchedMark words words (λ births names. rw (lacks.none births names) refl) refl

pub ruleset search_lemmas = (mark_start, mark_next, mark_found, mark_end)

pub ruleset mark_lemmas = (cleartomark_lacks, counttomark_lacks)

-- Where the words come from that are left.
use Rattle.std.proofs.Common.{◌≡◌, ℕ, zero, suc, List, [], ◌∷◌, ◌++◌, take, drop, Some, Result, Ok, Err, refl, ap}
use Rattle.std.proofs.Common.{subst}
use Rattle.std.specs.Prelude.{slice_get, OnOk, OnErr}
use Rattle.std.specs.List.{AllByRecursion}
use Rattle.ps_language.specs.declared.errors.ErrorName.{ErrorName}
use Rattle.ps_stacks.specs.Tops.{first_of, rotated}
use Rattle.ps_word.specs.declared.words.Word.{Word}
use Rattle.ps_ops_operands.specs.Plain.{IsPlain}
use Rattle.ps_ops_operands.specs.Kept.{IsFrom, held, plain, AreFrom}

-- ---- what all have

all_at : (P : Word → Type 0) (words : List Word) (place : ℕ) (w : Word) → AllByRecursion P words
    → slice_get words place ≡ Some w → P w
all_at P [] place w all at = cc
all_at P (x ∷ words) zero w all at = let same : x ≡ w = cc in subst P same all.0
all_at P (x ∷ words) (suc place) w all at = all_at P words place w all.1 at

has_from : (P : Word → Type 0) (old : List Word) (w : Word) → ((x : Word) → IsPlain x → P x) → AllByRecursion P old
    → IsFrom old w → P w
has_from P old w plains all (held place at) = all_at P old place w all at
has_from P old w plains all (plain is) = plains w is

have_each : (P : Word → Type 0) (old new : List Word) → ((x : Word) → IsPlain x → P x) → AllByRecursion P old
    → AllByRecursion (IsFrom old) new → AllByRecursion P new
have_each P old [] plains all each = tt
have_each P old (w ∷ new) plains all each = (has_from P old w plains all each.0, have_each P old new plains all each.1)

-- what all plain words have and all words that were held, all words have that are left
pub have_from : (P : Word → Type 0) (old new : List Word) → ((x : Word) → IsPlain x → P x) → AllByRecursion P old
    → AreFrom old new → AllByRecursion P new
have_from P old new plains all from = have_each P old new plains all from.each

-- ---- the words that are held

behind : (x : Word) (old : List Word) (w : Word) → IsFrom old w → IsFrom (x ∷ old) w
behind x old w (held place at) = held (suc place) at
behind x old w (plain is) = plain is

all_behind : (x : Word) (old new : List Word) → AllByRecursion (IsFrom old) new → AllByRecursion (IsFrom (x ∷ old)) new
all_behind x old [] each = tt
all_behind x old (w ∷ new) each = (behind x old w each.0, all_behind x old new each.1)

each_held : (words : List Word) → AllByRecursion (IsFrom words) words
each_held [] = tt
each_held (w ∷ words) = (held 0 refl, all_behind w words words (each_held words))

each_drop : (P : Word → Type 0) (n : ℕ) (words : List Word) → AllByRecursion P words → AllByRecursion P (drop n words)
each_drop P zero words each = each
each_drop P (suc n) [] each = tt
each_drop P (suc n) (w ∷ words) each = each_drop P n words each.1

each_take : (P : Word → Type 0) (n : ℕ) (words : List Word) → AllByRecursion P words → AllByRecursion P (take n words)
each_take P zero words each = tt
each_take P (suc n) [] each = tt
each_take P (suc n) (w ∷ words) each = (each.0, each_take P n words each.1)

each_append : (P : Word → Type 0) (front words : List Word) → AllByRecursion P front → AllByRecursion P words
    → AllByRecursion P (front ++ words)
each_append P [] words first second = second
each_append P (w ∷ front) words first second = (first.0, each_append P front words first.1 second)

-- all of them
pub from_same : (words : List Word) → AreFrom words words
from_same words = record { each = each_held words }

-- none
pub from_none : (words : List Word) → AreFrom words []
from_none words = record { each = tt }

pub from_drop : (old words : List Word) (n : ℕ) → AreFrom old words → AreFrom old (drop n words)
from_drop old words n from = record { each = each_drop (IsFrom old) n words from.each }

pub from_take : (old words : List Word) (n : ℕ) → AreFrom old words → AreFrom old (take n words)
from_take old words n from = record { each = each_take (IsFrom old) n words from.each }

pub from_append : (old front words : List Word) → AreFrom old front → AreFrom old words → AreFrom old (front ++ words)
from_append old front words first second = record { each = each_append (IsFrom old) front words first.each second.each }

-- one more
pub from_plain : (old words : List Word) (w : Word) → IsPlain w → AreFrom old words → AreFrom old (w ∷ words)
from_plain old words w is from = record { each = (plain is, from.each) }

pub from_held : (old words : List Word) (place : ℕ) (w : Word) → slice_get old place ≡ Some w → AreFrom old words
    → AreFrom old (w ∷ words)
from_held old words place w at from = record { each = (held place at, from.each) }

-- a plain word in the place of the topmost ones
pub from_replaced : (old new : List Word) (w : Word) (count : ℕ) → new ≡ w ∷ drop count old → IsPlain w
    → AreFrom old new
from_replaced old new w count is whole =
    rw is (from_plain old (drop count old) w whole (from_drop old old count (from_same old)))

pub from_dropped : (old new : List Word) (count : ℕ) → new ≡ drop count old → AreFrom old new
from_dropped old new count is = rw is (from_drop old old count (from_same old))

-- a group goes round
pub from_rotated : (old new words : List Word) (count places from : ℕ) → words ≡ drop from old
    → new ≡ rotated places (take count words) ++ drop count words → AreFrom old new
from_rotated old new words count places from behind is =
    let all : AreFrom old words = rw behind (from_drop old old from (from_same old)) in
    let group : AreFrom old (take count words) = from_take old words count all in
    rw is (from_append old (rotated places (take count words)) (drop count words)
    (from_append old (drop places (take count words)) (take places (take count words))
    (from_drop old (take count words) places group) (from_take old (take count words) places group))
    (from_drop old words count all))

-- a group is repeated
pub from_repeated : (old new words : List Word) (count from : ℕ) → words ≡ drop from old
    → new ≡ take count words ++ words → AreFrom old new
from_repeated old new words count from behind is =
    let all : AreFrom old words = rw behind (from_drop old old from (from_same old)) in
    rw is (from_append old (take count words) words (from_take old words count all) all)

-- one of the words again, in the place of the topmost ones
pub from_read : (old new : List Word) (w : Word) (count place : ℕ) → new ≡ w ∷ drop count old
    → slice_get old place ≡ Some w → AreFrom old new
from_read old new w count place is at =
    rw is (from_held old (drop count old) place w at (from_drop old old count (from_same old)))

-- the topmost word is pushed again, or not
pub from_top : (result : Result Unit ErrorName) (old new : List Word) (w : Word) → OnOk result (new ≡ w ∷ old)
    → OnErr result (new ≡ old) → Some w ≡ first_of old → AreFrom old new
from_top (Ok done) [] new w pushed full top = cc
from_top (Ok done) (x ∷ words) new w pushed full top =
    let same : x ≡ w = cc in
    let at : slice_get (x ∷ words) 0 ≡ Some w = ap Some same in
    rw pushed (from_held (x ∷ words) (x ∷ words) 0 w at (from_same (x ∷ words)))
from_top (Err error) old new w pushed full top = rw full (from_same old)

-- a plain word is pushed, or not
pub from_pushed : (result : Result Unit ErrorName) (old new : List Word) (w : Word) → OnOk result (new ≡ w ∷ old)
    → OnErr result (new ≡ old) → IsPlain w → AreFrom old new
from_pushed (Ok done) old new w pushed full is = rw pushed (from_plain old old w is (from_same old))
from_pushed (Err error) old new w pushed full is = rw full (from_same old)

pub ruleset sources = (
  from_same,
  from_none,
  from_drop,
  from_take,
  from_append,
  from_plain,
  from_held,
  from_replaced,
  from_dropped,
  from_read,
  from_top,
  from_pushed,
)

-- Steps of one context, and one behind them, are at most one entry more.
use Rattle.std.proofs.Common.{◌≡◌, inl, inr, ℕ, zero, suc, ◌+◌, ◌<◌, ◌≤◌, true, List, length, ◌∙◌, ap, arith}
use Rattle.ps_language.specs.declared.schedules.Entry.{Entry}
use Rattle.ps_language.specs.Schedules.{plain_move}
use Rattle.ps_run_schedules.specs.Keeping.{Kept, MayAdd, most_of}
use Rattle.ps_run_schedules.specs.Turns.{added_times, joins_last}

-- a schedule in which so many steps of a context were noted, fewer than find room in one entry
pub record HasNoted (context made free : ℕ) (old now : Kept) : Type 0 where
  pub added : now.items ≡ added_times made old.items (plain_move context)
  pub longer : length now.items ≤ length old.items + 1
  pub most : most_of now ≡ most_of old
  pub few : made < free
  pub joins : 1 ≤ made → made < free → joins_last now.items context ≡ true

-- where no step was noted
none_noted : (context free : ℕ) (old now : Kept) → HasNoted context 0 free old now
    → now.items ≡ old.items
unfolding added_times
none_noted context free old now noted = noted.added

-- it takes a further step of that context
pub may_note : (context made free : ℕ) (old now : Kept) → HasNoted context made free old now
    → MayAdd old context → MayAdd now context
may_note context zero free old now noted may = elim may [
  | inl joins ↦ inl (ap (λ (entries : List Entry). joins_last entries context)
      (none_noted context free old now noted) ∙ joins)
  | inr left ↦
      let same = ap {B = ℕ} (λ (entries : List Entry). length entries)
      (none_noted context free old now noted) in
      let most = noted.most in
      inr (omega (arith, same, most, left))
]
may_note context (suc made) free old now noted may = inl (noted.joins (omega arith) noted.few)

-- and then has at most one entry more than before them
pub longer_noted : (context made free : ℕ) (old now : Kept) (new : List Entry)
    → HasNoted context made free old now → length new ≤ length now.items + 1
    → (joins_last now.items context ≡ true → length new ≡ length now.items)
    → length new ≤ length old.items + 1
longer_noted context zero free old now new noted longer joined =
    let same = ap {B = ℕ} (λ (entries : List Entry). length entries)
    (none_noted context free old now noted) in
    omega (arith, same, longer)
longer_noted context (suc made) free old now new noted longer joined =
    let one = joined (noted.joins (omega arith) noted.few) in
    let few = noted.longer in
    omega (arith, one, few)

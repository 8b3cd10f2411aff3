-- A try to flip, with the roots of all contexts.
use Rattle.std.specs.Prelude.{◌≡◌, ◌≤◌, true, false, List, Option, Result, is_ok, length, map}
use Rattle.ps_word.specs.declared.words.Word.{Word}
use Rattle.ps_core_laws.specs.declared.tries.Unready.{Unready}
use Rattle.ps_core_laws.specs.Tries.{BothSides, IsFlip}
use Rattle.ps_ctx_table.specs.declared.members.Member.{Member}
use Rattle.ps_gc_roots.specs.declared.reading.TheConstants.{ROOT_LIMIT}
use Rattle.ps_gc_roots.specs.Renamed.{Renaming, renamed_members}
use Rattle.ps_gc_roots.specs.Roots.{roots_in}

-- it came to this with the roots of these contexts; where it flipped, what they became stands in
-- their places, and else the contexts are as before
pub record IsFlipOf (came : Result Unit Unready) (old new : BothSides)
    (members now : List (Option Member)) (renamed : List Word) : Type 0 where
  pub flips : IsFlip came old new (roots_in members) renamed
  pub few : length (roots_in members) ≤ ROOT_LIMIT
  pub written : is_ok came ≡ true → (rename : Renaming) → renamed ≡ map rename (roots_in members)
      → now ≡ renamed_members rename members
  pub stays : is_ok came ≡ false → now ≡ members

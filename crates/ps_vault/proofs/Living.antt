-- What is used where nothing stands but what lives.
use Rattle.std.proofs.Common.{◌≡◌, ℕ, ◌≤◌, Option, Some, None, List, sym, ap, subst, ◌∙◌, arith}
use Rattle.std.specs.Prelude.{false}
use Rattle.ps_language.specs.declared.schedules.Entry.{Entry}
use Rattle.ps_language.specs.Keeping.{Stays}
use Rattle.ps_language.specs.Live.{Live}
use Rattle.ps_language.specs.Lowest.{HasFirstDictionaries}
use Rattle.ps_language.specs.Schedules.{moves}
use Rattle.ps_language.specs.Step.{with_machine}
use Rattle.ps_language.specs.World.{Context, World}
use Rattle.ps_language.specs.Worlds.{world}
use Rattle.ps_language.proofs.LeftContexts.{context_at-left}
use Rattle.ps_language.proofs.LiveLaws.{Live-unique}
use Rattle.ps_language.proofs.LowestSteps.{after_moves-lowest}
use Rattle.ps_language.proofs.Taken.{taken-less}
use Rattle.ps_mem.specs.Heap.{Heap}
use Rattle.ps_ctx_table.specs.Desks.{Desk, IsWorld}
use Rattle.ps_ctx_table.proofs.Owning.{goes_left, put_back}
use Rattle.ps_step_outcome.specs.Turns.{calling_of}
use Rattle.ps_gc_roots.specs.Moved.{IsLeft, UsesLive}
use Rattle.ps_ctx.specs.declared.worlds.Calling.{Calling}
use Rattle.ps_ctx.specs.Held.{IsAtBy, IsCalling}
use Rattle.ps_vault.specs.Stories.{Story, UsesOnlyLive, world_at}
use Rattle.ps_vault.proofs.Keeping.{caller_of, no_call}
use Rattle.ps_vault.proofs.Reasons.{left_stays}

-- it is that of the world with what the element left, of whose call waits
module _ (program : List ℕ) (schedule : List Entry) (d : Desk) (now : Heap) (calling : Calling)
    (at : IsCalling calling d (world program schedule))
    (uses : (w : World) → IsWorld d w → UsesLive now w) where
  abbrev before : World
  before = world program schedule

  abbrev taken : World
  taken = with_machine calling.caller before at.left

  caller_left : IsLeft taken
  unfolding world
  caller_left = record {
    identifier = calling.caller;
    context = at.left.context;
    found = put_back before calling.caller at.context at.found at.left
        (goes_left at.left.context at.runs);
    first = subst HasFirstDictionaries
        (sym (ap (λ (x : Stays). x.1) (left_stays calling d before at)))
        (context_at-left (λ (c : Context). HasFirstDictionaries c.dictionaries) calling.caller
        at.context before (after_moves-lowest program (moves schedule)) at.found);
  }

  used_at_most : (words : ℕ) → Live before words → now.used ≤ words
  used_at_most words live =
      taken-less before calling.caller at.context at.found (calling_of calling.operator) at.left
      (at.leaves false) now.used words (uses taken at.world caller_left) live

-- whether its call waits or not
module _ (program : List ℕ) (schedule : List Entry) (d : Desk) (now : Heap)
    (uses : (w : World) → IsWorld d w → UsesLive now w) where
  pub used_exactly : (calling : Option Calling) → IsAtBy calling d (world program schedule)
      → caller_of calling ≡ None → IsLeft (world program schedule)
      → Live (world program schedule) now.used
  used_exactly calling at none =
      uses (world program schedule)
      (subst (λ (c : Option Calling). IsAtBy c d (world program schedule)) (no_call calling none)
      at)

  pub used_most : (calling : Option Calling) → IsAtBy calling d (world program schedule)
      → IsLeft (world program schedule) → (words : ℕ) → Live (world program schedule) words
      → now.used ≤ words
  used_most None at left words live =
      let same : now.used ≡ words =
      Live-unique (world program schedule) now.used words (uses (world program schedule) at left)
      live in
      omega (arith, same)
  used_most (Some calling) at left words live =
      used_at_most program schedule d now calling at uses words live

-- of a story with these numbers
pub uses_only_live : (story : Story) (program : List ℕ) (schedule : List Entry) (d : Desk)
    (now : Heap) (calling : Option Calling) → story.program ≡ program → story.schedule ≡ schedule
    → story.used ≡ now.used → caller_of calling ≡ story.caller
    → IsAtBy calling d (world program schedule)
    → ((w : World) → IsWorld d w → UsesLive now w) → UsesOnlyLive story
uses_only_live story program schedule d now calling same made used caller at uses =
    let here : world_at story ≡ world program schedule =
    ap (λ (p : List ℕ). world p story.schedule) same ∙ ap (world program) made in
    record {
      exact = λ none left. subst (λ (w : World). Live w story.used) (sym here)
          (subst (Live (world program schedule)) (sym used)
          (used_exactly program schedule d now uses calling at (caller ∙ none)
          (subst IsLeft here left)));
      most = λ left words live.
          let less : now.used ≤ words =
          used_most program schedule d now uses calling at (subst IsLeft here left) words
          (subst (λ (w : World). Live w words) here live) in
          omega (arith, less, used);
    }

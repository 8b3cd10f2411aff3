-- Contexts stay at their worlds where a collector moves their memory, and where grants change.
use Rattle.std.proofs.Common.{◌≡◌, List, [], ◌∷◌, map, Option, Some, None, refl, sym, ap, ◌∙◌, subst}
use Rattle.ps_language.specs.Step.{with_machine}
use Rattle.ps_language.specs.Value.{Store}
use Rattle.ps_language.specs.World.{World}
use Rattle.ps_mem.specs.Heap.{Heap, Grants}
use Rattle.ps_mem.specs.Shows.{AreValues}
use Rattle.ps_mem.specs.Stands.{IsAddressed}
use Rattle.ps_word.specs.declared.words.Word.{Word}
use Rattle.ps_core_laws.specs.Collected.{IsCollected}
use Rattle.ps_core_laws.specs.Moves.{Forwarding, IsMovedTo, HaveReplicas, moved_word}
use Rattle.ps_core_laws.proofs.Objects.{sound-moved, shown_all-moved}
use Rattle.ps_ops_state.specs.declared.lent.Shared.{Shared}
use Rattle.ps_ops_state.specs.Lent.{IsShown}
use Rattle.ps_ctx_table.specs.declared.members.Member.{Member}
use Rattle.ps_ctx_table.specs.declared.contexts.Contexts.{Contexts}
use Rattle.ps_ctx_table.specs.Desks.{Desk, desk, lent_to, AllMembers, IsWorld, IsGoodMember, IsSteady}
use Rattle.ps_ctx.specs.declared.worlds.Calling.{Calling}
use Rattle.ps_ctx.specs.Calls.{over}
use Rattle.ps_ctx.specs.Held.{Held, held, IsAtBy, AreFramedBy}
use Rattle.ps_gc_roots.specs.Formats.{AreInFormat}
use Rattle.ps_gc_roots.specs.Roots.{roots_in}
use Rattle.ps_gc_roots.specs.Renamed.{Renaming, renamed_members, moved_desk}
use Rattle.ps_gc_roots.specs.Moved.{KeepsWorlds}
use Rattle.ps_gc_roots.proofs.Membering.{members-values, members-format, members-led, members-shown, contexts-same, all_framed-renamed}
use Rattle.ps_gc_roots.proofs.Membering.{framed_but-renamed, runs-renamed}

-- ---- a move

module _ (d : Desk) (now : Heap) (grants : Grants) (forward : Forwarding)
    (moves : IsMovedTo d.heap now forward) (addressed : IsAddressed d.heap)
    (have : HaveReplicas forward (roots_in d.members)) where
  abbrev after : Desk
  after = moved_desk d now grants forward

  world-led : IsSteady d → (w : World) → IsWorld d w → IsWorld after w
  world-led steady w at = record {
    shows = shown_all-moved d.heap now forward moves d.names w.store at.shows;
    program = at.program;
    names = at.names;
    printed = at.printed;
    faulted = at.faulted;
    contexts = at.contexts
        ∙ sym (contexts-same d now grants forward moves addressed d.members steady.members have);
    members = members-shown d now grants forward moves addressed w.store d.members steady.members
        have at.members;
  }

  at-led : IsSteady d → (calling : Option Calling) (w : World) → IsAtBy calling d w
      → IsAtBy calling after w
  at-led steady None w at = world-led steady w at
  at-led steady (Some calling) w at = record {
    context = at.context;
    found = at.found;
    goes_on = at.goes_on;
    left = at.left;
    runs = at.runs;
    leaves = at.leaves;
    world = world-led steady (with_machine calling.caller w at.left) at.world;
  }

  steady-led : IsSteady d → IsSteady after
  steady-led steady = record {
    sound = sound-moved d.heap now forward moves steady.sound;
    names = steady.names;
    first = steady.first;
    empty = steady.empty;
    members = members-led d now grants forward moves addressed d.members steady.members have;
  }

  framed-led : (calling : Option Calling) → AreFramedBy calling d → AreFramedBy calling after
  framed-led None framed = all_framed-renamed (moved_word forward) d.members framed
  framed-led (Some calling) framed = (
    framed_but-renamed (moved_word forward) d.members calling.caller framed.0,
    runs-renamed (moved_word forward) d.members calling.caller framed.1,
  )

  pub moved-keeps : (calling : Option Calling) → IsSteady d
      → KeepsWorlds (held d calling) (held after calling)
  moved-keeps calling steady = record {
    at = at-led steady calling;
    steady = steady-led;
    framed = framed-led calling;
    program = refl;
    most = refl;
  }

-- ---- other grants

module _ (d : Desk) (grants : Grants) where
  abbrev granted : Desk
  granted = record d { grants = grants }

  granted-good : (members : List (Option Member)) → AllMembers (IsGoodMember d) members
      → AllMembers (IsGoodMember granted) members
  granted-good [] good = tt
  granted-good (None ∷ members) good = (good.0, granted-good members good.1)
  granted-good (Some member ∷ members) good = (
    record {
      good = record {
        sound = good.0.good.sound;
        operands = good.0.good.operands;
        dictionaries = good.0.good.dictionaries;
        frames = good.0.good.frames;
        error_stands = good.0.good.error_stands;
        names = good.0.good.names;
        first = good.0.good.first;
        empty = good.0.good.empty;
      };
      course = good.0.course;
    },
    granted-good members good.1,
  )

  granted-shown : (store : Store) (members : List (Option Member))
      → AllMembers (λ member. IsShown (lent_to d member.context) store) members
      → AllMembers (λ member. IsShown (lent_to granted member.context) store) members
  granted-shown store [] shown = tt
  granted-shown store (None ∷ members) shown = (shown.0, granted-shown store members shown.1)
  granted-shown store (Some member ∷ members) shown = (
    record {
      shows = shown.0.shows;
      operands = shown.0.operands;
      dictionaries = shown.0.dictionaries;
      frames = shown.0.frames;
    },
    granted-shown store members shown.1,
  )

  granted-world : (w : World) → IsWorld d w → IsWorld granted w
  granted-world w at = record {
    shows = at.shows;
    program = at.program;
    names = at.names;
    printed = at.printed;
    faulted = at.faulted;
    contexts = at.contexts;
    members = granted-shown w.store d.members at.members;
  }

  granted-at : (calling : Option Calling) (w : World) → IsAtBy calling d w
      → IsAtBy calling granted w
  granted-at None w at = granted-world w at
  granted-at (Some calling) w at = record {
    context = at.context;
    found = at.found;
    goes_on = at.goes_on;
    left = at.left;
    runs = at.runs;
    leaves = at.leaves;
    world = granted-world (with_machine calling.caller w at.left) at.world;
  }

  granted-framed : (calling : Option Calling) → AreFramedBy calling d
      → AreFramedBy calling granted
  granted-framed None framed = framed
  granted-framed (Some calling) framed = framed

  pub granted-keeps : (calling : Option Calling)
      → KeepsWorlds (held d calling) (held granted calling)
  granted-keeps calling = record {
    at = granted-at calling;
    steady = λ steady. record {
      sound = steady.sound;
      names = steady.names;
      first = steady.first;
      empty = steady.empty;
      members = granted-good d.members steady.members;
    };
    framed = granted-framed calling;
    program = refl;
    most = refl;
  }

-- ---- one change after another

pub keeps-then : (a b c : Held) → KeepsWorlds a b → KeepsWorlds b c → KeepsWorlds a c
keeps-then a b c first then = record {
  at = λ w at. then.at w (first.at w at);
  steady = λ steady. then.steady (first.steady steady);
  framed = λ framed. then.framed (first.framed framed);
  program = then.program ∙ first.program;
  most = then.most ∙ first.most;
}

-- ---- contexts over a memory

module _ (h now : Heap) (grants after : Grants) (shared : Shared) (before : Contexts) where
  -- what is read of them has a place in a word
  pub over-format : IsSteady (over h grants shared before) → IsAddressed h → AreInFormat before.table
  over-format steady addressed =
      members-format (over h grants shared before) addressed before.table steady.members

  -- what a collector is handed
  pub over-values : (words : List Word) → now ≡ h → words ≡ roots_in before.table
      → IsSteady (over h grants shared before) → IsAddressed h → AreValues now words
  over-values words same are steady addressed =
      subst (λ heap. AreValues heap words) (sym same)
      (subst (AreValues h) (sym are)
      (members-values (over h grants shared before) addressed before.table steady.members))

  -- nothing has moved
  pub over-granted : now ≡ h → (calling : Option Calling)
      → KeepsWorlds (held (over h grants shared before) calling) (held (over now after shared before) calling)
  over-granted same calling =
      subst (λ heap. KeepsWorlds (held (over h grants shared before) calling)
      (held (over heap after shared before) calling)) (sym same)
      (granted-keeps (over h grants shared before) after calling)

  -- the memory was moved with what the roots refer to, which are renamed
  pub over-moved : (roots words : List Word) (contexts : Contexts) → IsSteady (over h grants shared before)
      → IsAddressed h → roots ≡ roots_in before.table → IsCollected h now roots words
      → ((rename : Renaming) → words ≡ map rename (roots_in before.table)
      → contexts.table ≡ renamed_members rename before.table)
      → contexts.has_faulted ≡ before.has_faulted
      → (calling : Option Calling)
      → KeepsWorlds (held (over h grants shared before) calling) (held (over now after shared contexts) calling)
  over-moved roots words contexts steady addressed are collected table faulted calling =
      let forward = collected.forward in
      let renamed = table (moved_word forward)
      (collected.are ∙ ap (map (moved_word forward)) are) in
      let same : over now after shared contexts ≡ moved_desk (over h grants shared before) now after forward =
      λ i. desk now after (renamed i) shared (faulted i) in
      subst (λ d. KeepsWorlds (held (over h grants shared before) calling) (held d calling)) (sym same)
      (moved-keeps (over h grants shared before) now after forward collected.moves addressed
      (subst (HaveReplicas forward) are collected.complete) calling steady)

-- A cycle that moves just what the roots of all contexts reach leaves the words of what lives.
use Rattle.std.proofs.Common.{◌≡◌, ◌≢◌, List, Option, Some, None, subst, sym}
use Rattle.ps_language.specs.Live.{Live}
use Rattle.ps_language.specs.World.{World}
use Rattle.ps_mem.specs.Heap.{Heap, Standing, Grants, object_at}
use Rattle.ps_mem.specs.Stands.{IsAddressed}
use Rattle.ps_core_laws.specs.Moves.{Forwarding, IsMovedTo, HaveReplicas, moved_word}
use Rattle.ps_core_laws.specs.Collected.{IsExact}
use Rattle.ps_word.specs.declared.words.Word.{Word}
use Rattle.ps_ops_state.specs.declared.lent.Shared.{Shared}
use Rattle.ps_ctx_table.specs.declared.contexts.Contexts.{Contexts}
use Rattle.ps_ctx.specs.Calls.{over}
use Rattle.ps_gc_roots.specs.Moved.{UsesLive}
use Rattle.ps_ctx_table.specs.Desks.{Desk, IsWorld, IsSteady}
use Rattle.ps_gc_roots.specs.Roots.{roots_in}
use Rattle.ps_gc_roots.specs.Renamed.{moved_desk}
use Rattle.ps_gc_roots.proofs.Membering.{members-format}
use Rattle.ps_gc_roots.proofs.Moving.{moved-keeps}
use Rattle.ps_core_laws.specs.Reached.{MovesReached, AreReached}
use Rattle.ps_core_laws.proofs.ReachedObjects.{are-reached}
use Rattle.ps_gc_roots.proofs.Back.{are-back}
use Rattle.ps_gc_roots.proofs.Lives.{lives}

module _ (d : Desk) (now : Heap) (grants : Grants) (forward : Forwarding)
    (moves : IsMovedTo d.heap now forward) (have : HaveReplicas forward (roots_in d.members))
    (just : MovesReached d.heap forward (roots_in d.members)) (addressed : IsAddressed d.heap)
    (steady : IsSteady d) where
  abbrev after : Desk
  after = moved_desk d now grants forward

  some_there : (x : Option Standing) → x ≢ None → (o : Standing) × (x ≡ Some o)
  some_there None some = absurd (some (λ i. None))
  some_there (Some o) some = (o, λ i. Some o)

  pub still_addressed : IsAddressed now
  still_addressed a stands =
      let there = some_there (object_at now a) stands in
      let from = moves.only a there.0 there.1 in
      (moves.replicas from.0 a from.1).to

  pub all_reached : AreReached now (roots_in after.members)
  all_reached = are-back (moved_word forward) now d.members
      (members-format d addressed d.members steady.members)
      (are-reached d.heap now forward (roots_in d.members) moves have just)

  pub whole-lives : (w : World) → IsWorld d w → UsesLive now w
  whole-lives w at is =
      let keeps = moved-keeps d now grants forward moves addressed have None steady in
      subst (Live w) (sym moves.used)
      (lives after w (keeps.at w at) (keeps.steady steady) still_addressed all_reached
      is.identifier is.context is.found is.first)

-- over a memory that was moved so
pub over-lives : (h now : Heap) (grants : Grants) (shared : Shared) (before : Contexts)
    (roots words : List Word) → IsSteady (over h grants shared before) → IsAddressed h → roots ≡ roots_in before.table
    → IsExact h now roots words → (w : World) → IsWorld (over h grants shared before) w
    → UsesLive now w
over-lives h now grants shared before roots words steady addressed are exact w at =
    let c = exact.collected in
    whole-lives (over h grants shared before) now grants c.forward c.moves
    (subst (HaveReplicas c.forward) are c.complete)
    (subst (MovesReached h c.forward) are exact.just) addressed steady w at

-- All contexts stand where memory and what is shared are the same, and at the world in which no
-- line of an error was printed; and who is ready there.
use Rattle.std.proofs.Common.{◌≡◌, ℕ, true, false, Option, Some, None, true≢false, refl, sym, ap, subst, ◌∙◌}
use Rattle.std.specs.Option.{option_map_or}
use Rattle.std.specs.Prelude.{IfSome, IsSome, option_map}
use Rattle.ps_language.specs.Locks.{is_ready, is_ready_as}
use Rattle.ps_language.specs.World.{Context, World}
use Rattle.ps_mem.specs.Heap.{Heap, Grants}
use Rattle.ps_mem.proofs.Lists.{all_map}
use Rattle.ps_ops_state.specs.declared.lent.Runtime.{Runtime}
use Rattle.ps_ctx_table.specs.declared.members.Member.{Member}
use Rattle.ps_ctx_table.specs.Seats.{item_at}
use Rattle.ps_ctx_table.specs.Worlds.{context_of}
use Rattle.ps_ctx_table.specs.Desks.{Desk, IsGoodMember, IsWorld}
use Rattle.ps_ctx_table.proofs.Holding.{contexts_in-found}
use Rattle.ps_ctx.specs.declared.worlds.World.{World as Contexts}
use Rattle.ps_ctx.specs.declared.worlds.Calling.{Calling}
use Rattle.ps_ctx.specs.Held.{held, IsAt, IsSteadyHeld}
use Rattle.ps_walks.specs.Walks.{desk_in, Stands, without_lines}

-- what was only read
module _ {M : Type 0} (heap : M → Heap) (grants : M → Grants) (world : Contexts)
    (old new : Runtime M) (same_heap : heap new.memory ≡ heap old.memory)
    (same_grants : grants new.memory ≡ grants old.memory)
    (same_shared : new.shared ≡ old.shared) where
  pub desk_same : desk_in heap grants old world ≡ desk_in heap grants new world
  desk_same = rw (same_heap, same_grants, same_shared) refl

  pub stands_same : Stands heap grants old world → Stands heap grants new world
  stands_same stands = record {
    steady = subst (λ d. IsSteadyHeld (held d None)) desk_same stands.steady;
    calling = stands.calling;
    at = (stands.at.0, subst (λ d. IsWorld d stands.at.0) desk_same stands.at.1);
  }

  pub world_same : (w : World) → IsWorld (desk_in heap grants old world) w
      → IsWorld (desk_in heap grants new world) w
  world_same w at = subst (λ d. IsWorld d w) desk_same at

-- no call waits
pub at_held : (d : Desk) (calling : Option Calling) (w : World) → calling ≡ None → IsWorld d w
    → IsAt (held d calling) w
at_held d calling w none at = subst (λ c. IsAt (held d c) w) (sym none) at

-- the desk at which none was
abbrev pub unlined : Desk → Desk
unlined d = record d { has_faulted = false }

pub unlined_world : (d : Desk) (w : World) → IsWorld d w → IsWorld (unlined d) (without_lines w)
unlined_world d w at = record {
  shows = at.shows;
  program = at.program;
  names = at.names;
  printed = at.printed;
  faulted = refl;
  contexts = at.contexts;
  members = at.members;
}

-- a context is there as good
good_unlined : (d : Desk) (item : Option Member) → IfSome item (IsGoodMember d)
    → IfSome item (IsGoodMember (unlined d))
good_unlined d None is = tt
good_unlined d (Some member) is = record { good = is.good; course = is.course }

pub steady_unlined : (d : Desk) → IsSteadyHeld (held d None)
    → IsSteadyHeld (held (unlined d) None)
steady_unlined d held = record {
  steady = record {
    sound = held.steady.sound;
    names = held.steady.names;
    first = held.steady.first;
    empty = held.steady.empty;
    members = all_map (λ item. IfSome item (IsGoodMember d))
        (λ item. IfSome item (IsGoodMember (unlined d))) (good_unlined d) d.members
        held.steady.members;
  };
  framed = held.framed;
}

-- all contexts, of which no line of an error was printed
abbrev pub fresh : Contexts → Contexts
fresh world = record world { contexts = record world.contexts { has_faulted = false } }

pub stands_fresh : {M : Type 0} (heap : M → Heap) (grants : M → Grants) (runtime : Runtime M)
    (world : Contexts) → Stands heap grants runtime world
    → Stands heap grants runtime (fresh world)
stands_fresh heap grants runtime world stands =
    let d : Desk = desk_in heap grants runtime world in
    record {
      steady = steady_unlined d stands.steady;
      calling = stands.calling;
      at = (without_lines stands.at.0, unlined_world d stands.at.0 stands.at.1);
    }

-- who is ready is there
module _ (d : Desk) (w : World) (identifier : ℕ) (at : IsWorld d w)
    (ready : is_ready w identifier ≡ true) where
  pub ready_is_there : IsSome (item_at d.members identifier)
  unfolding is_ready
  ready_is_there = by (item_at d.members identifier) refl
    where
      by : (found : Option Member) → item_at d.members identifier ≡ found
          → IsSome (item_at d.members identifier)
      by (Some member) is = subst IsSome (sym is) refl
      by None is = absurd (true≢false (sym ready
          ∙ ap (λ (there : Option Context).
          option_map_or (λ one. is_ready_as one.status identifier one w) there false)
          (contexts_in-found d.heap d.names d.members w identifier at.contexts
          ∙ ap (option_map (context_of d.heap d.names)) is)))

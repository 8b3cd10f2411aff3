-- The table of contexts through each change, in the definitions.
use Rattle.std.proofs.Common.{◌≡◌, ℕ, zero, suc, ◌+◌, List, [], ◌∷◌, ◌++◌, length, Option, Some, None, option_map}
use Rattle.std.proofs.Common.{option_and_then, slice_get, refl, ap, ◌∙◌}
use Rattle.std.proofs.lemmas.List.{map-append, length-map, map-set}
use Rattle.std.proofs.lemmas.Option.{slice_get-map}
use Rattle.ps_language.specs.Contexts as contexts
use Rattle.ps_language.specs.Contexts.{context_at, count_not_ended}
use Rattle.ps_language.specs.World as world
use Rattle.ps_mem.specs.Heap.{Heap}
use Rattle.ps_ctx_table.specs.declared.members.Member.{Member}
use Rattle.ps_ctx_table.specs.Seats.{item_at, with_item, count_left}
use Rattle.ps_ctx_table.specs.Worlds.{context_of, contexts_in}

module _ (h : Heap) (names : List (List ℕ)) where
  pub contexts_in-length : (members : List (Option Member))
      → length (contexts_in h names members) ≡ length members
  unfolding contexts_in
  contexts_in-length members = length-map members (option_map (context_of h names))

  pub contexts_in-count : (members : List (Option Member))
      → count_not_ended (contexts_in h names members) ≡ count_left members
  unfolding contexts_in count_not_ended
  contexts_in-count [] = refl
  contexts_in-count (None ∷ members) = contexts_in-count members
  contexts_in-count (Some member ∷ members) = ap (λ n. n + 1) (contexts_in-count members)

  flat : (found : Option (Option Member))
      → contexts.context_in (option_map (option_map (context_of h names)) found)
      ≡ option_map (context_of h names) (option_and_then (λ item. item) found)
  flat None = refl
  flat (Some None) = refl
  flat (Some (Some member)) = refl

  pub contexts_in-found : (members : List (Option Member)) (w : world.World) (identifier : ℕ)
      → w.contexts ≡ contexts_in h names members
      → context_at w identifier ≡ option_map (context_of h names) (item_at members identifier)
  unfolding contexts_in context_at
  contexts_in-found members w zero same = refl
  contexts_in-found members w (suc place) same =
      ap (λ list. contexts.context_in (slice_get list place)) same
      ∙ (ap contexts.context_in (slice_get-map (option_map (context_of h names)) members place)
      ∙ flat (slice_get members place))

  pub contexts_in-more : (members : List (Option Member)) (member : Member)
      → contexts_in h names (members ++ Some member ∷ [])
      ≡ contexts_in h names members ++ Some (context_of h names member) ∷ []
  unfolding contexts_in
  contexts_in-more members member =
      map-append (option_map (context_of h names)) members (Some member ∷ [])

  pub contexts_in-changed : (members : List (Option Member)) (identifier : ℕ)
      (member : Option Member) → contexts_in h names (with_item members identifier member)
      ≡ contexts.contexts_with (contexts_in h names members) identifier
      (option_map (context_of h names) member)
  unfolding contexts_in
  contexts_in-changed members zero member = refl
  contexts_in-changed members (suc place) member =
      map-set (option_map (context_of h names)) members place member

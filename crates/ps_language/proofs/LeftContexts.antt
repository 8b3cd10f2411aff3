-- What holds of each context that is left.
use Rattle.std.proofs.Common.{◌≡◌, ℕ, zero, suc, Bool, true, false, Option, Some, None, List, [], ◌∷◌, ◌++◌, subst}
use Rattle.std.specs.Prelude.{IfSome, map, option_map, slice_get, slice_set, if◌then◌else◌}
use Rattle.std.specs.List.{AllByRecursion}
use Rattle.ps_language.specs.World.{Context, World}
use Rattle.ps_language.specs.Contexts.{context_in, contexts_with, left_of, context_at, with_context}

module _ (P : Context → Type 0) where
  -- of each that is left of these
  abbrev pub AllLeft : List (Option Context) → Type 0
  AllLeft contexts = AllByRecursion (λ context. IfSome context P) contexts

  set_left : (contexts : List (Option Context)) (place : ℕ) (context : Option Context)
      → AllLeft contexts → IfSome context P → AllLeft (slice_set contexts place context)
  set_left [] place context all one = tt
  set_left (old ∷ contexts) zero context all one = (one, all.1)
  set_left (old ∷ contexts) (suc place) context all one =
      (all.0, set_left contexts place context all.1 one)

  pub contexts_with-left : (contexts : List (Option Context)) (identifier : ℕ)
      (context : Option Context) → AllLeft contexts → IfSome context P
      → AllLeft (contexts_with contexts identifier context)
  contexts_with-left contexts zero context all one = all
  contexts_with-left contexts (suc place) context all one =
      set_left contexts place context all one

  left_if : (b : Bool) (context : Context) → P context
      → IfSome (if b then None else Some context) P
  left_if true context p = tt
  left_if false context p = p

  pub with_context-left : (identifier : ℕ) (context : Context) (world : World)
      → AllLeft world.contexts → P context
      → AllLeft (with_context identifier context world).contexts
  unfolding with_context
  with_context-left identifier context world all p =
      contexts_with-left world.contexts identifier (left_of context) all
      (left_if _ context p)

  -- one of them
  pub place-left : (contexts : List (Option Context)) (place : ℕ) (context : Context)
      → AllLeft contexts → context_in (slice_get contexts place) ≡ Some context → P context
  place-left [] place context all found = cc
  place-left (None ∷ contexts) zero context all found = cc
  place-left (Some one ∷ contexts) zero context all found =
      let same : one ≡ context = cc in subst P same all.0
  place-left (one ∷ contexts) (suc place) context all found =
      place-left contexts place context all.1 found

  pub context_at-left : (identifier : ℕ) (context : Context) (world : World)
      → AllLeft world.contexts → context_at world identifier ≡ Some context → P context
  unfolding context_at
  context_at-left zero context world all found = cc
  context_at-left (suc place) context world all found =
      place-left world.contexts place context all found

  -- one more
  pub more-left : (contexts : List (Option Context)) (context : Context) → AllLeft contexts
      → P context → AllLeft (contexts ++ Some context ∷ [])
  more-left [] context all p = (p, tt)
  more-left (one ∷ contexts) context all p = (all.0, more-left contexts context all.1 p)

  pub map-left : (change : Context → Context) → ((context : Context) → P context
      → P (change context)) → (contexts : List (Option Context)) → AllLeft contexts
      → AllLeft (map (option_map change) contexts)
  map-left change each [] all = tt
  map-left change each (None ∷ contexts) all = (tt, map-left change each contexts all.1)
  map-left change each (Some context ∷ contexts) all =
      (each context all.0, map-left change each contexts all.1)

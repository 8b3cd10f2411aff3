-- A context that the table has is the world's, and where it has none the world has none.
use Rattle.std.proofs.Common.{◌≡◌, ℕ, Option, Some, None, sym, ap, ◌∙◌}
use Rattle.std.specs.Prelude.{option_map}
use Rattle.ps_language.specs.Contexts.{context_at}
use Rattle.ps_language.specs.World.{Context, World}
use Rattle.ps_ctx_table.specs.declared.members.Member.{Member}
use Rattle.ps_ctx_table.specs.Seats.{item_at}
use Rattle.ps_ctx_table.specs.Worlds.{context_of}
use Rattle.ps_ctx_table.specs.Desks.{Desk, IsWorld}
use Rattle.ps_ctx_table.proofs.Holding.{contexts_in-found}

module _ (d : Desk) (w : World) (at : IsWorld d w) (identifier : ℕ) where
  pub there : (found : Option Member) → found ≡ item_at d.members identifier
      → option_map (context_of d.heap d.names) found ≡ context_at w identifier
  there found is = ap (option_map (context_of d.heap d.names)) is
      ∙ sym (contexts_in-found d.heap d.names d.members w identifier at.contexts)

  -- a function of the context
  pub of_there : {A : Type 0} (f : Option Context → A) (member : Member)
      → Some member ≡ item_at d.members identifier
      → f (Some (context_of d.heap d.names member)) ≡ f (context_at w identifier)
  of_there f member is = ap f (there (Some member) is)

  pub of_none : {A : Type 0} (f : Option Context → A)
      → None ≡ item_at d.members identifier → f None ≡ f (context_at w identifier)
  of_none f is = ap f (there None is)

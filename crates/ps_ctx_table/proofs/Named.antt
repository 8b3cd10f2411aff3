-- Which contexts may be named, and the seat of one more, in the definitions.
use Rattle.std.proofs.Common.{◌≡◌, ℕ, ◌+◌, ◌<◌, ◌≤◌, ◌⊎◌, inl, inr, Bool, true, false, List, length, Option, Some, None}
use Rattle.std.proofs.Common.{refl, sym, ap, ◌∙◌}
use Rattle.std.proofs.lemmas.Bool.{lt-ltb, le-ltb}
use Rattle.std.specs.Prelude.{◌&&◌, nat_lt, option_map, option_and_then, if◌then◌else◌}
use Rattle.ps_language.specs.Contexts as contexts
use Rattle.ps_language.specs.Contexts.{count_not_ended, named_context}
use Rattle.ps_language.specs.Limits.{context_limit, identifier_limit}
use Rattle.ps_language.specs.World.{World}
use Rattle.ps_mem.specs.Heap.{Heap}
use Rattle.ps_ctx_table.specs.declared.members.Member.{Member}
use Rattle.ps_ctx_table.specs.Seats.{item_at, count_left}
use Rattle.ps_ctx_table.specs.Worlds.{context_of, contexts_in}
use Rattle.ps_ctx_table.specs.Desks.{named_member, seat_in, unless_detached}
use Rattle.ps_ctx_table.proofs.Holding.{contexts_in-length, contexts_in-count, contexts_in-found}

module _ (h : Heap) (names : List (List ℕ)) (members : List (Option Member)) where
  -- ---- by name

  either_named : (b : Bool) (member : Member)
      → (if b then None else Some (context_of h names member))
      ≡ option_map (context_of h names) (if b then None else Some member)
  either_named true member = refl
  either_named false member = refl

  found_named : (found : Option Member)
      → option_and_then contexts.unless_detached (option_map (context_of h names) found)
      ≡ option_map (context_of h names) (option_and_then unless_detached found)
  found_named None = refl
  found_named (Some member) = either_named member.is_detached member

  -- the context that may be named is that of the definitions
  pub named_same : (w : World) (identifier : ℕ) → w.contexts ≡ contexts_in h names members
      → named_context identifier w
      ≡ option_map (context_of h names) (named_member members identifier)
  unfolding named_context
  named_same w identifier at =
      ap (option_and_then contexts.unless_detached)
      (contexts_in-found h names members w identifier at)
      ∙ found_named (item_at members identifier)

  -- ---- a seat

  seat_by : (few within : Bool)
      → nat_lt (count_left members) context_limit ≡ few
      → nat_lt (length members) identifier_limit ≡ within
      → seat_in (contexts_in h names members)
      ≡ (if few && within then Some (length members + 1) else None)
  seat_by few within one other =
      let made = contexts_in-length h names members in
      (λ i. if nat_lt (contexts_in-count h names members i) context_limit
      && nat_lt (made i) identifier_limit then Some (made i + 1) else None)
      ∙ (λ i. if one i && other i then Some (length members + 1) else None)

  pub seat_some : (made left : ℕ) → made ≡ length members → left ≡ count_left members
      → left < context_limit → made < identifier_limit
      → Some (made + 1) ≡ seat_in (contexts_in h names members)
  seat_some made left all those few within =
      ap (λ n. Some (n + 1)) all
      ∙ sym (seat_by true true
      (ap (λ n. nat_lt n context_limit) (sym those) ∙ lt-ltb left context_limit few)
      (ap (λ n. nat_lt n identifier_limit) (sym all) ∙ lt-ltb made identifier_limit within))

  and_false : (b : Bool) → (b && false) ≡ false
  and_false true = refl
  and_false false = refl

  pub seat_none : (made left : ℕ) → made ≡ length members → left ≡ count_left members
      → (context_limit ≤ left) ⊎ (identifier_limit ≤ made)
      → None ≡ seat_in (contexts_in h names members)
  seat_none made left all those (inl many) =
      sym (seat_by false (nat_lt (length members) identifier_limit)
      (ap (λ n. nat_lt n context_limit) (sym those) ∙ le-ltb left context_limit many) refl)
  seat_none made left all those (inr past) =
      sym (seat_by (nat_lt (count_left members) context_limit) false refl
      (ap (λ n. nat_lt n identifier_limit) (sym all) ∙ le-ltb made identifier_limit past)
      ∙ ap (λ b. if b then Some (length members + 1) else None)
      (and_false (nat_lt (count_left members) context_limit)))

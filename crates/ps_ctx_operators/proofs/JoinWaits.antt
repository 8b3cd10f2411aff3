-- Whether `join` waits, by the context that it names.
use Rattle.std.proofs.Common.{◌≡◌, ◌≢◌, ℕ, Bool, true, false, List, Option, Some, None, refl, sym, ap, ◌∙◌}
use Rattle.std.proofs.lemmas.Bool.{ne_eqb}
use Rattle.std.specs.Prelude.{◌==◌, ◌&&◌, not, option_map, if◌then◌else◌}
use Rattle.ps_language.specs.declared.errors.ErrorName.TheVariants.{InvalidContext}
use Rattle.ps_language.specs.Acts.{operands_effect}
use Rattle.ps_language.specs.Contexts.{doing, is_finished, join_row, named_context, without_context}
use Rattle.ps_language.specs.Effect.{Call, Scene, Deed, waits}
use Rattle.ps_language.specs.Locks.{is_wait}
use Rattle.ps_language.specs.Outcome.{Outcome, leaves, fails, given, given_that, and_then}
use Rattle.ps_language.specs.Value.{Value}
use Rattle.ps_language.specs.World.{Context, World}
use Rattle.ps_mem.specs.Heap.{Heap, birth_at}
use Rattle.ps_ctx_table.specs.declared.members.Member.{Member}
use Rattle.ps_ctx_table.specs.Worlds.{context_of, contexts_in}
use Rattle.ps_ctx_table.specs.Desks.{has_finished, named_member}
use Rattle.ps_ctx_table.proofs.Going.{finished-same}
use Rattle.ps_ctx_table.proofs.Named.{named_same}
use Rattle.ps_ctx_operators.specs.Deeds.{scene_at, with_scene_of, after_part}
use Rattle.ps_ctx_operators.specs.Rows.{identifier_operand, join_part}
use Rattle.ps_ctx_operators.proofs.DeedLaws.{join_deed}

module _ (call : Call) (held : List Value) (identifier : ℕ) where
  -- by the context that may be named
  abbrev joins : Option Context → Outcome Deed
  joins found =
      given found InvalidContext λ other.
      given_that (not (identifier == call.caller)) InvalidContext
      (if is_finished other.status then
      after_part (operands_effect (scene_at call) (join_part other.operands held))
      (λ scene. doing (without_context identifier (with_scene_of call scene)))
      else leaves waits)

  -- no error waits, and nothing that is done
  done_waits : (outcome : Outcome (List Value)) (next : Scene → World)
      → is_wait (after_part (operands_effect (scene_at call) outcome) (λ scene. doing (next scene)))
      ≡ false
  done_waits (leaves left) next = refl
  done_waits (fails error) next = refl

  found_waits : (other : Context) (own over : Bool)
      → is_wait (given_that (not own) InvalidContext
      (if over then after_part (operands_effect (scene_at call) (join_part other.operands held))
      (λ scene. doing (without_context identifier (with_scene_of call scene)))
      else leaves waits)) ≡ (not own && not over)
  found_waits other true over = refl
  found_waits other false true =
      done_waits (join_part other.operands held)
      (λ scene. without_context identifier (with_scene_of call scene))
  found_waits other false false = refl

  module _ (named : identifier_operand held ≡ leaves identifier) where
    join_is : is_wait (join_row held call)
        ≡ is_wait (joins (named_context identifier call.world))
    join_is =
        ap is_wait (join_deed call held
        ∙ ap (λ (operand : Outcome ℕ). and_then operand λ i.
        given (named_context i call.world) InvalidContext λ other.
        given_that (not (i == call.caller)) InvalidContext
        (if is_finished other.status then
        after_part (operands_effect (scene_at call) (join_part other.operands held))
        (λ scene. doing (without_context i (with_scene_of call scene)))
        else leaves waits)) named)

    module _ (h : Heap) (names : List (List ℕ)) (members : List (Option Member))
        (at : call.world.contexts ≡ contexts_in h names members) where
      joins_named : (found : Option Member) → found ≡ named_member members identifier
          → is_wait (join_row held call) ≡ is_wait (joins (option_map (context_of h names) found))
      joins_named found is =
          join_is
          ∙ ap (λ (one : Option Context). is_wait (joins one))
          (named_same h names members call.world identifier at
          ∙ ap (option_map (context_of h names)) (sym is))

      -- there is none
      pub unnamed_waits : None ≡ named_member members identifier
          → false ≡ is_wait (join_row held call)
      unnamed_waits none = sym (joins_named None none)

      -- another context is waited for until it is finished
      pub named_waits : (other : Member) → Some other ≡ named_member members identifier
          → identifier ≢ call.caller
          → not (has_finished other.course) ≡ is_wait (join_row held call)
      named_waits other found apart =
          sym (joins_named (Some other) found
          ∙ (found_waits (context_of h names other) (identifier == call.caller)
          (is_finished (context_of h names other).status)
          ∙ ((λ i. not (ne_eqb identifier call.caller apart i)
          && not (is_finished (context_of h names other).status))
          ∙ ap not (finished-same (birth_at h) other.course))))

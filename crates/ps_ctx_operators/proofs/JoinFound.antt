-- What `join` finds of the context that it names.
use Rattle.std.proofs.Common.{◌≡◌, ◌∙◌, ℕ, ◌+◌, ◌<◌, arith, ℤ, Bool, true, false, List, [], ◌∷◌, ◌++◌, drop, length}
use Rattle.std.proofs.Common.{Option, Some, None, Ok, Err, refl, sym, ap, subst}
use Rattle.std.proofs.lemmas.Bool.{eq-eqb}
use Rattle.std.proofs.lemmas.Bool.Decides.{nat_tests}
use Rattle.std.proofs.lemmas.List.{length-append, length-map}
use Rattle.std.specs.Prelude.{◌==◌, IsSome, not, nat_le, option_map, option_and_then, if◌then◌else◌}
use Rattle.ps_language.specs.declared.errors.ErrorName.{ErrorName}
use Rattle.ps_language.specs.declared.errors.ErrorName.TheVariants.{InvalidContext, StackOverflow, TypeCheck}
use Rattle.ps_language.specs.Acts.{operands_effect}
use Rattle.ps_language.specs.Contexts.{identifier_of, is_finished, named_context, doing, join_row, without_context}
use Rattle.ps_language.specs.Effect.{Call, Deed, waits}
use Rattle.ps_language.specs.Limits.{operand_limit}
use Rattle.ps_language.specs.Outcome.{Outcome, leaves, fails, given, given_that, and_then}
use Rattle.ps_language.specs.Readers.{literal, as_integer, leaving}
use Rattle.ps_language.specs.Value.{Value, mark_value}
use Rattle.ps_language.specs.World.{Context, World}
use Rattle.ps_mem.specs.Heap.{Heap, birth_at}
use Rattle.ps_mem.specs.Meaning.{value_of}
use Rattle.ps_ops_operands.specs.Changes.{values_in}
use Rattle.ps_ctx_table.specs.declared.members.Member.{Member}
use Rattle.ps_ctx_table.specs.Desks.{has_finished, named_member, unless_detached}
use Rattle.ps_ctx_table.specs.Seats.{item_at}
use Rattle.ps_ctx_table.specs.Worlds.{context_of, contexts_in}
use Rattle.ps_ctx_table.proofs.Going.{finished-same}
use Rattle.ps_ctx_table.proofs.Named.{named_same}
use Rattle.ps_ctx.specs.Calls.{call_by}
use Rattle.ps_ctx_operators.specs.Deeds.{part_at, scene_at, with_scene_of, after_part}
use Rattle.ps_ctx_operators.specs.Rows.{identifier_operand, join_part, join_caller}
use Rattle.ps_ctx_operators.proofs.DeedLaws.{join_deed}
use Rattle.ps_ctx_operators.specs.Joined.{JoinsTo}
use Rattle.ps_ctx_operators.specs.Named.{named_in, Names}
use Rattle.ps_ctx_operators.proofs.NamedOperand.{and_then_misnamed, named_reads, names_here}

-- ---- in the definitions

module _ (call : Call) where
  abbrev operands : List Value
  operands = call.context.operands

  -- of the context that is named
  abbrev joined_of : (own over : Bool) (identifier : ℕ) → Context → Outcome Deed
  joined_of own over identifier other =
      given_that (not own) InvalidContext
      (if over then after_part (part_at call (join_caller other.operands))
      (λ scene. doing (without_context identifier (with_scene_of call scene)))
      else leaves waits)

  pub join_named : (identifier : ℕ) (other : Context)
      → named_in call.world operands ≡ leaves identifier
      → named_context identifier call.world ≡ Some other → (own over : Bool)
      → (identifier == call.caller) ≡ own → is_finished other.status ≡ over
      → join_row operands call ≡ joined_of own over identifier other
  join_named identifier other named there own over mine done =
      join_deed call operands
      ∙ (ap (λ (read : Outcome ℕ). and_then read λ i.
      given (named_context i call.world) InvalidContext λ one.
      joined_of (i == call.caller) (is_finished one.status) i one)
      (named_reads (λ i. named_context i call.world) (identifier_operand operands) identifier named)
      ∙ (ap (λ (found : Option Context). given found InvalidContext λ one.
      joined_of (identifier == call.caller) (is_finished one.status) identifier one) there
      ∙ (λ i. joined_of (mine i) (done i) identifier other)))

  misnamed_join : (error : ErrorName) → named_in call.world operands ≡ fails error
      → join_row operands call ≡ fails error
  misnamed_join error named =
      join_deed call operands
      ∙ and_then_misnamed (λ i. named_context i call.world) (identifier_operand operands) (λ i one.
      joined_of (i == call.caller) (is_finished one.status) i one) error named

-- the operands that go over have room, or haven't
pub join_part_is : (taken operands : List Value) (identifier : ℕ)
    → identifier_operand operands ≡ leaves identifier
    → join_part taken operands
    ≡ given_that (nat_le (length taken + length operands) operand_limit) StackOverflow
    (leaves (taken ++ literal mark_value ∷ drop 1 operands))
join_part_is taken [] identifier is = absurd (cc)
join_part_is taken (x ∷ rest) identifier is = by (as_integer x) is
  where
    by : (number : Option ℤ)
        → given number TypeCheck (λ i. leaves (identifier_of i)) ≡ leaves identifier
        → given number TypeCheck (λ i. leaving (taken ++ literal mark_value ∷ rest))
        ≡ given_that (nat_le (length taken + length (x ∷ rest)) operand_limit) StackOverflow
        (leaves (taken ++ literal mark_value ∷ drop 1 (x ∷ rest)))
    by None is = absurd (cc)
    by (Some i) is =
        ap (λ n. given_that (nat_le n operand_limit) StackOverflow
        (leaves (taken ++ literal mark_value ∷ rest)))
        (length-append taken (literal mark_value ∷ rest))

-- ---- over words

module _ (h : Heap) (names : List (List ℕ)) (caller identifier : ℕ)
    (members : List (Option Member)) (named : Names caller (Ok identifier) members)
    (member : Member) (found : item_at members caller ≡ Some member) (w : World)
    (shown : Option (ℤ × ℤ)) (at : w.contexts ≡ contexts_in h names members) where
  abbrev here : Context
  here = context_of h names member

  abbrev call : Call
  call = call_by caller shown w here

  is_named : named_in w here.operands ≡ leaves identifier
  is_named = names_here caller (Ok identifier) members member found named h names w at

  pub reads_here : identifier_operand here.operands ≡ leaves identifier
  reads_here =
      named_reads (λ i. named_context i w) (identifier_operand here.operands) identifier is_named

  module _ (other : Member) (there : item_at members identifier ≡ Some other) where
    named_there : named_context identifier w ≡ Some (context_of h names other)
    named_there =
        named_same h names members w identifier at
        ∙ ap (option_map (context_of h names)) (some_named named.there)
      where
        either : (b : Bool) → IsSome (if b then None else Some other)
            → (if b then None else Some other) ≡ Some other
        either true some = absurd (cc)
        either false some = refl

        some_named : IsSome (named_member members identifier)
            → named_member members identifier ≡ Some other
        some_named some =
            ap (option_and_then unless_detached) there
            ∙ either other.is_detached (subst (λ (item : Option Member).
            IsSome (option_and_then unless_detached item)) there some)

    pub join_there : (own over : Bool) → (identifier == caller) ≡ own
        → has_finished other.course ≡ over
        → join_row here.operands call
        ≡ given_that (not own) InvalidContext
        (if over then after_part (part_at call (join_caller
        (values_in h names other.context.operands)))
        (λ scene. doing (without_context identifier (with_scene_of call scene)))
        else leaves waits)
    join_there own over mine done =
        join_named call identifier (context_of h names other) is_named named_there own over mine
        (finished-same (birth_at h) other.course ∙ done)

    -- how many they are with a mark in the place of the identifier
    pub counted : length (values_in h names other.context.operands) + length here.operands
        ≡ length other.context.operands + length member.context.operands
    counted = λ i. length-map other.context.operands (value_of (birth_at h) names) i
        + length-map member.context.operands (value_of (birth_at h) names) i

    -- the operands of a finished one have no room
    pub join_overflows : (identifier == caller) ≡ false → has_finished other.course ≡ true
        → operand_limit < length other.context.operands + length member.context.operands
        → join_row here.operands call ≡ fails StackOverflow
    join_overflows mine done many =
        let taken = values_in h names other.context.operands in
        join_there false true mine done
        ∙ ap (λ (o : Outcome (List Value)). after_part (operands_effect (scene_at call) o)
        (λ scene. doing (without_context identifier (with_scene_of call scene))))
        (join_part_is taken here.operands identifier reads_here
        ∙ ap (λ b. given_that b StackOverflow
        (leaves (taken ++ literal mark_value ∷ drop 1 here.operands)))
        (ap (λ n. nat_le n operand_limit) counted ∙ above _ many))
      where
        above : (n : ℕ) → operand_limit < n → nat_le n operand_limit ≡ false
        above n many = grind (arith, nat_tests)

  -- it is the caller itself
  pub join_self : identifier ≡ caller → join_row here.operands call ≡ fails InvalidContext
  join_self same =
      join_there member (subst (λ n. item_at members n ≡ Some member) (sym same) found) true
      (has_finished member.course) (eq-eqb identifier caller same) refl

-- nothing is named
pub misnamed_so : (caller : ℕ) (error : ErrorName) (members : List (Option Member))
    → Names caller (Err error) members → JoinsTo caller (fails error) members
misnamed_so caller error members named h names member w shown found at =
    misnamed_join (call_by caller shown w (context_of h names member)) error
    (names_here caller (Err error) members member found named h names w at)

-- What the operand of a caller names.
use Rattle.std.proofs.Common.{◌≡◌, ◌∙◌, ℕ, Bool, false, List, Option, Some, None, Ok, Err, refl, sym, ap, subst}
use Rattle.std.specs.Prelude.{Result, IsSome, option_map, option_and_then}
use Rattle.std.specs.Option.{is_some}
use Rattle.ps_language.specs.declared.errors.ErrorName.{ErrorName}
use Rattle.ps_language.specs.declared.errors.ErrorName.TheVariants.{InvalidContext}
use Rattle.ps_language.specs.Contexts.{named_context, detach_row, doing, with_detached}
use Rattle.ps_language.specs.Effect.{Call}
use Rattle.ps_language.specs.Outcome.{Outcome, leaves, fails, given, and_then}
use Rattle.ps_language.specs.World as world
use Rattle.ps_language.specs.World.{World}
use Rattle.ps_mem.specs.Heap.{Heap, birth_at}
use Rattle.ps_ops_operands.specs.Does.{outcome_of, Reads}
use Rattle.ps_ops_operands.specs.Changes.{values_in}
use Rattle.ps_ctx_table.specs.declared.members.Member.{Member}
use Rattle.ps_ctx_table.specs.Desks.{named_member, unless_detached}
use Rattle.ps_ctx_table.specs.Seats.{item_at}
use Rattle.ps_ctx_table.specs.Worlds.{context_of, contexts_in}
use Rattle.ps_ctx_table.proofs.Named.{named_same}
use Rattle.ps_ctx_table.proofs.Places.{one_there}
use Rattle.ps_ctx_operators.specs.Rows.{detach_caller, identifier_operand}
use Rattle.ps_ctx_operators.specs.Deeds.{part_at, with_scene_of, after_part}
use Rattle.ps_ctx_operators.proofs.DeedLaws.{detach_deed}
use Rattle.ps_ctx_operators.specs.Named.{named_in, Names}

-- ---- in the definitions

module _ (named : ℕ → Option world.Context) where
  -- the same as named_in says
  abbrev named_by : (read : Outcome ℕ) → Outcome ℕ
  named_by read = and_then read λ i. given (named i) InvalidContext λ context. leaves i

  module _ {B : Type 0} where
    -- what follows it
    and_then_named : (read : Outcome ℕ) (next : ℕ → Outcome B)
        → and_then read (λ i. given (named i) InvalidContext λ context. next i)
        ≡ and_then (named_by read) next
    and_then_named (fails error) next = refl
    and_then_named (leaves i) next = by (named i)
      where
        by : (found : Option world.Context)
            → given found InvalidContext (λ context. next i)
            ≡ and_then (given found InvalidContext λ context. leaves i) next
        by None = refl
        by (Some context) = refl

    -- nothing follows where nothing is named
    pub and_then_misnamed : (read : Outcome ℕ) (next : ℕ → world.Context → Outcome B)
        (error : ErrorName) → named_by read ≡ fails error
        → and_then read (λ i. given (named i) InvalidContext (next i)) ≡ fails error
    and_then_misnamed (fails other) next error is =
        let same : other ≡ error = cc in ap (λ e. fails e) same
    and_then_misnamed (leaves i) next error is = by (named i) is
      where
        by : (found : Option world.Context)
            → given found InvalidContext (λ context. leaves i) ≡ fails error
            → given found InvalidContext (next i) ≡ fails error
        by None is = let same : InvalidContext ≡ error = cc in ap (λ e. fails e) same
        by (Some context) is = absurd (cc)

  -- what is named is read
  pub named_reads : (read : Outcome ℕ) (identifier : ℕ) → named_by read ≡ leaves identifier
      → read ≡ leaves identifier
  named_reads (fails error) identifier is = absurd (cc)
  named_reads (leaves i) identifier is = by (named i) is
    where
      by : (found : Option world.Context)
          → given found InvalidContext (λ context. leaves i) ≡ leaves identifier
          → leaves i ≡ leaves identifier
      by None is = absurd (cc)
      by (Some context) is = is

pub detach_named : (call : Call) (named : Outcome ℕ)
    → named_in call.world call.context.operands ≡ named
    → detach_row call.context.operands call ≡ and_then named λ identifier.
    after_part (part_at call detach_caller) λ scene.
    doing (with_detached identifier (with_scene_of call scene))
detach_named call named is =
    detach_deed call call.context.operands
    ∙ (and_then_named (λ identifier. named_context identifier call.world)
    (identifier_operand call.context.operands) (λ identifier.
    after_part (part_at call detach_caller) λ scene.
    doing (with_detached identifier (with_scene_of call scene)))
    ∙ ap (λ (o : Outcome ℕ). and_then o λ identifier.
    after_part (part_at call detach_caller) λ scene.
    doing (with_detached identifier (with_scene_of call scene))) is)

-- ---- over words

-- of the member that is there
pub names_here : (caller : ℕ) (result : Result ℕ ErrorName) (members : List (Option Member))
    (member : Member) → item_at members caller ≡ Some member → Names caller result members
    → (h : Heap) (names : List (List ℕ)) (w : World) → w.contexts ≡ contexts_in h names members
    → named_in w (values_in h names member.context.operands) ≡ outcome_of result
names_here caller result members member found named h names w at =
    subst (λ (one : Member). named_in w (values_in h names one.context.operands)
    ≡ outcome_of result) (one_there members caller named.member member named.found found)
    (named.names h names w at)

-- one that may be named is there
pub there_named : (members : List (Option Member)) (identifier : ℕ)
    → IsSome (named_member members identifier) → IsSome (item_at members identifier)
there_named members identifier = by (item_at members identifier)
  where
    by : (item : Option Member) → IsSome (option_and_then unless_detached item) → IsSome item
    by None some = some
    by (Some member) some = refl

-- ---- what is read

module _ {A B : Type 0} (f : A → B) where
  pub some_mapped : (o : Option A) (mapped : Option B) (b : Bool) → option_map f o ≡ mapped
      → is_some o ≡ b → is_some mapped ≡ b
  some_mapped None mapped b is some = ap is_some (sym is) ∙ some
  some_mapped (Some a) mapped b is some = ap is_some (sym is) ∙ some

module _ (members : List (Option Member)) (caller identifier : ℕ) (member : Member)
    (found : item_at members caller ≡ Some member)
    (reads : Reads identifier_operand (Ok identifier) member.context.operands) where
  read_then : (h : Heap) (names : List (List ℕ)) (w : World)
      → w.contexts ≡ contexts_in h names members
      → named_in w (values_in h names member.context.operands)
      ≡ given (option_map (context_of h names) (named_member members identifier)) InvalidContext
      λ context. leaves identifier
  read_then h names w at =
      ap (λ (read : Outcome ℕ). and_then read λ i.
      given (named_context i w) InvalidContext λ context. leaves i)
      (reads.agrees (birth_at h) names)
      ∙ ap (λ (context : Option world.Context). given context InvalidContext λ one.
      leaves identifier) (named_same h names members w identifier at)

  pub named_so : IsSome (named_member members identifier) → Names caller (Ok identifier) members
  named_so some = record {
    member = member;
    found = found;
    names = λ h names w at.
        read_then h names w at ∙ by (context_of h names) (named_member members identifier) some;
    there = some;
  }
    where
      by : (f : Member → world.Context) (item : Option Member) → IsSome item
          → given (option_map f item) InvalidContext (λ context. leaves identifier)
          ≡ leaves identifier
      by f None some = absurd (cc)
      by f (Some one) some = refl

  pub unnamed_so : is_some (named_member members identifier) ≡ false
      → Names caller (Err InvalidContext) members
  unnamed_so none = record {
    member = member;
    found = found;
    names = λ h names w at.
        read_then h names w at ∙ by (context_of h names) (named_member members identifier) none;
    there = tt;
  }
    where
      by : (f : Member → world.Context) (item : Option Member) → is_some item ≡ false
          → given (option_map f item) InvalidContext (λ context. leaves identifier)
          ≡ fails InvalidContext
      by f None none = refl
      by f (Some one) none = absurd (cc)

-- The world after a context went on: from what is lent of a machine to all contexts.
use Rattle.std.proofs.Common.{◌≡◌, ℕ, zero, suc, Bool, true, false, List, [], ◌∷◌, Option, Some, None, refl, sym, ap}
use Rattle.std.proofs.Common.{ap₂, subst, ◌∙◌}
use Rattle.std.specs.Prelude.{◌&&◌, not, nat_eq, IfSome, option_map, slice_set, if◌then◌else◌}
use Rattle.ps_language.specs.Contexts.{is_finished, left_of, contexts_with, with_context}
use Rattle.ps_language.specs.Effect.{Scene}
use Rattle.ps_language.specs.Step.{with_machine}
use Rattle.ps_language.specs.World.{Machine, World}
use Rattle.ps_mem.specs.Heap.{birth_at}
use Rattle.ps_ops_state.specs.Lent.{IsShown}
use Rattle.ps_ops_state.specs.Acts.{Lasts}
use Rattle.ps_ctx_table.specs.declared.members.Course.{Course}
use Rattle.ps_ctx_table.specs.declared.members.Course.TheVariants.{Running, Unwinding, Again, Waiting, Retaking}
use Rattle.ps_ctx_table.specs.declared.members.Course.TheVariants.{Finished}
use Rattle.ps_ctx_table.specs.declared.members.Member.{Member}
use Rattle.ps_ctx_table.specs.Seats.{with_item}
use Rattle.ps_ctx_table.specs.Worlds.{status_of, context_of, contexts_in}
use Rattle.ps_ctx_table.specs.Desks.{Desk, lent_to, AllMembers, IsWorld, IsLentBy, IsGoodMember, IsSteady, GoesOn}
use Rattle.ps_ctx_table.specs.Desks.{has_finished, member_left}
use Rattle.ps_ctx_table.proofs.Holding.{contexts_in-changed}
use Rattle.ps_ctx_table.proofs.Staying.{contexts-same, members_shown, members_good}

-- ---- a table with another in a place

module _ (P : Member → Type 0) where
  set_members : (members : List (Option Member)) (place : ℕ) (item : Option Member)
      → AllMembers P members → IfSome item P → AllMembers P (slice_set members place item)
  set_members [] place item all one = tt
  set_members (old ∷ members) zero item all one = (one, all.1)
  set_members (old ∷ members) (suc place) item all one =
      (all.0, set_members members place item all.1 one)

  pub with_item_members : (members : List (Option Member)) (identifier : ℕ)
      (item : Option Member) → AllMembers P members → IfSome item P
      → AllMembers P (with_item members identifier item)
  with_item_members members zero item all one = all
  with_item_members members (suc place) item all one = set_members members place item all one

-- what is left of one
left_if : (P : Member → Type 0) (b : Bool) (member : Member) → P member
    → IfSome (if b then None else Some member) P
left_if P true member p = tt
left_if P false member p = p

pub left_members : (P : Member → Type 0) (member : Member) → P member
    → IfSome (member_left member) P
left_members P member p =
    left_if P (member.is_detached && has_finished member.course) member p

-- ---- a context

pub finished-same : (births : ℕ → ℕ) (course : Course)
    → is_finished (status_of births course) ≡ has_finished course
finished-same births Running = refl
finished-same births (Unwinding cause) = refl
finished-same births Again = refl
finished-same births (Waiting lock condition) = refl
finished-same births (Retaking lock) = refl
finished-same births Finished = refl

left_map : {A B : Type 0} (f : A → B) (b : Bool) (a : A)
    → option_map f (if b then None else Some a) ≡ (if b then None else Some (f a))
left_map f true a = refl
left_map f false a = refl

-- what is left of a context in the definitions
pub left-same : (d : Desk) (member : Member)
    → option_map (context_of d.heap d.names) (member_left member)
    ≡ left_of (context_of d.heap d.names member)
left-same d member =
    left_map (context_of d.heap d.names) (member.is_detached && has_finished member.course) member
    ∙ ap (λ b. if (member.is_detached && b) then None
    else Some (context_of d.heap d.names member))
    (sym (finished-same (birth_at d.heap) member.course))

-- the context of a machine that what is lent to it is of
pub context-lent : (d : Desk) (member : Member) (lines : ℕ) (machine : Machine)
    → IsLentBy (lent_to d member.context) member.is_detached
    (status_of (birth_at d.heap) member.course) lines machine
    → context_of d.heap d.names member ≡ machine.context
context-lent d member lines machine lent = λ i. record {
  operands = (lent.scene i).operands;
  dictionaries = (lent.scene i).dictionaries;
  frames = (lent.scene i).frames;
  error_dictionary = sym lent.error_dictionary i;
  is_detached = sym lent.detached i;
  status = sym lent.is_so i;
}

-- ---- the world

module _ (old new : Desk) (goes : GoesOn old new) (steady : IsSteady old) (identifier : ℕ) where
  pub goes_steady : (item : Option Member) → new.members ≡ with_item old.members identifier item
      → IfSome item (IsGoodMember new) → IsSteady new
  goes_steady item changed good = record {
    sound = goes.sound;
    names = goes.are;
    first = goes.first;
    empty = goes.empty;
    members = subst (AllMembers (IsGoodMember new)) (sym changed)
        (with_item_members (IsGoodMember new) old.members identifier item
        (members_good old new goes old.members steady.members) good);
  }

  module _ (member : Member)
      (changed : new.members ≡ with_item old.members identifier (member_left member)) (w : World)
      (at : IsWorld old w) (lines : ℕ) (next : Machine)
      (lasts : Lasts w.store next.store)
      (lent : IsLentBy (lent_to new member.context) member.is_detached
      (status_of (birth_at new.heap) member.course) lines next) where
    contexts-lent : contexts_with w.contexts identifier (left_of next.context)
        ≡ contexts_in new.heap new.names new.members
    contexts-lent =
        ap₂ (λ list context. contexts_with list identifier (left_of context))
        (at.contexts ∙ sym (contexts-same old new goes w.store next.store lasts lent.shown.shows
        old.members steady.members at.members)) (sym (context-lent new member lines next lent))
        ∙ (ap (contexts_with (contexts_in new.heap new.names old.members) identifier)
        (sym (left-same new member))
        ∙ (sym (contexts_in-changed new.heap new.names old.members identifier
        (member_left member))
        ∙ ap (contexts_in new.heap new.names) (sym changed)))

    -- so many lines more or less: whether there was one
    pub goes_world : new.has_faulted ≡ not (nat_eq lines 0)
        → IsWorld new (with_machine identifier w next)
    unfolding with_context
    goes_world faulted = record {
      shows = lent.shown.shows;
      program = at.program ∙ sym goes.program;
      names = ap (λ (scene : Scene). scene.names) (sym lent.scene);
      printed = lent.printed;
      faulted = faulted ∙ ap (λ n. not (nat_eq n 0)) (sym lent.error_lines);
      contexts = contexts-lent;
      members = subst (AllMembers (λ one. IsShown (lent_to new one.context) next.store))
          (sym changed)
          (with_item_members (λ one. IsShown (lent_to new one.context) next.store) old.members
          identifier (member_left member)
          (members_shown old new goes w.store next.store lasts lent.shown.shows old.members
          steady.members at.members)
          (left_members (λ one. IsShown (lent_to new one.context) next.store) member lent.shown));
    }

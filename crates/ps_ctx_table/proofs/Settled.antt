-- The table after the turn of a context.
use Rattle.std.proofs.Common.{◌≡◌, ℕ, Bool, true, List, Option, Some, None, sym, ap, subst, ◌∙◌}
use Rattle.std.specs.Option.{option_map_or}
use Rattle.std.specs.Prelude.{◌&&◌, ◌||◌, OnSome, if◌then◌else◌}
use Rattle.ps_mem.specs.Heap.{Heap, Grants}
use Rattle.ps_ops_state.specs.declared.lent.Shared.{Shared}
use Rattle.ps_step_outcome.specs.declared.turned.Turned.{Turned}
use Rattle.ps_ctx_table.specs.declared.members.Course.{Course}
use Rattle.ps_ctx_table.specs.declared.members.Member.{Member}
use Rattle.ps_ctx_table.specs.Seats.{item_at, with_item}
use Rattle.ps_ctx_table.specs.Desks.{desk, has_finished, member_left, course_after, tells, turned_member, turned_members}
use Rattle.ps_ctx_table.proofs.Places.{with_item-twice, item_at-with_item}

-- of a context that is there
pub turned_there : (turned : Turned) (identifier : ℕ) (members : List (Option Member))
    (member : Member) → item_at members identifier ≡ Some member
    → turned_members turned identifier members
    ≡ with_item members identifier (member_left (turned_member turned member))
turned_there turned identifier members member found =
    ap (λ (item : Option Member). option_map_or (λ one. with_item members identifier
    (member_left (turned_member turned one))) item members) found

-- of one whose context was changed before
pub turned_changed : (turned : Turned) (identifier : ℕ) (members : List (Option Member))
    (member now : Member) → item_at members identifier ≡ Some member
    → turned_members turned identifier (with_item members identifier (Some now))
    ≡ with_item members identifier (member_left (turned_member turned now))
turned_changed turned identifier members member now found =
    turned_there turned identifier (with_item members identifier (Some now)) now
    (item_at-with_item members identifier member (Some now) found)
    ∙ with_item-twice members identifier (Some now) (member_left (turned_member turned now))

-- it is taken out where it is detached and finished
pub turned_gone : (turned : Turned) (identifier : ℕ) (members after : List (Option Member))
    (member : Member) (course : Course) (removed : Option Member)
    → Some member ≡ item_at members identifier
    → course ≡ course_after turned member.context.frames → member.is_detached ≡ true
    → has_finished course ≡ true
    → removed ≡ item_at (with_item members identifier (Some (record member { course = course })))
    identifier
    → OnSome removed (after ≡ with_item (with_item members identifier
    (Some (record member { course = course }))) identifier None)
    → after ≡ turned_members turned identifier members
turned_gone turned identifier members after member course removed there is detached finished taken
    done =
    let now : Member = record member { course = course } in
    let gone : after ≡ with_item (with_item members identifier (Some now)) identifier None =
    subst (λ (r : Option Member). OnSome r (after ≡ with_item (with_item members identifier
    (Some now)) identifier None))
    (taken ∙ item_at-with_item members identifier member (Some now) (sym there)) done in
    let left : member_left (turned_member turned member) ≡ None =
    ap (λ (c : Course). member_left (record member { course = c })) (sym is)
    ∙ (ap (λ b. if b && has_finished course then None else Some now) detached
    ∙ ap (λ b. if b then None else Some now) finished) in
    gone
    ∙ (with_item-twice members identifier (Some now) None
    ∙ (ap (with_item members identifier) (sym left)
    ∙ sym (turned_there turned identifier members member (sym there))))

-- the desk then
pub desk_settled : (h : Heap) (grants : Grants) (members settled : List (Option Member))
    (identifier : ℕ) (member now : Member) (shared : Shared) (had faulted : Bool)
    (turned : Turned) → item_at members identifier ≡ Some member
    → settled ≡ turned_members turned identifier (with_item members identifier (Some now))
    → faulted ≡ (had || tells turned)
    → desk h grants settled shared faulted
    ≡ desk h grants (with_item members identifier (member_left (turned_member turned now))) shared
    (had || tells turned)
desk_settled h grants members settled identifier member now shared had faulted turned found is
    told =
    let table = is ∙ turned_changed turned identifier members member now found in
    λ i. desk h grants (table i) shared (told i)

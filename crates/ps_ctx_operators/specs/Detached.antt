-- A context is detached (PLRM2, 7.1, 8 'detach').
use Rattle.std.specs.Prelude.{ℕ, true, List, Option}
use Rattle.std.specs.Option.{option_map_or}
use Rattle.ps_ctx_table.specs.declared.members.Member.{Member}
use Rattle.ps_ctx_table.specs.Desks.{member_left}
use Rattle.ps_ctx_table.specs.Seats.{item_at, with_item}

abbrev pub detached : Member → Member
detached member = record member { is_detached = true }

-- all of them then: one that is finished is gone
abbrev pub detached_members : (identifier : ℕ) → List (Option Member) → List (Option Member)
detached_members identifier members =
    option_map_or (λ member. with_item members identifier (member_left (detached member)))
    (item_at members identifier) members

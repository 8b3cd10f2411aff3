use Rattle.std.proofs.Common.{◌≡◌, drop}
use Rattle.std.specs.List.{list_all}
use Rattle.ps_ctx_table.specs.declared.members.Member.{Member}
use Rattle.ps_ctx_table.specs.Desks.{has_finished}
use Rattle.ps_ctx_table.proofs.contexts.Contexts.is_all_over.Given as goal

abbrev pub invariant-loop-member : goal.invariant-loop-member
invariant-loop-member l =
    list_all (λ (member : Member). has_finished member.course) (drop l.member-index l.member-items)
    ≡ list_all (λ (member : Member). has_finished member.course) l.member-items

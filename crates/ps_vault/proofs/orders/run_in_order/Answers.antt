use Rattle.std.proofs.Common.{◌≡◌, List, ap, ◌∙◌, arith}
use Rattle.ps_language.specs.declared.schedules.Entry.{Entry}
use Rattle.ps_language.specs.Schedules.{count_of, moves}
use Rattle.ps_language.proofs.ScheduleLaws.{count_of-nil}
use Rattle.ps_mem.specs.Objects.{heap_in}
use Rattle.ps_vault.specs.Reports.{are_ordinary}
use Rattle.ps_vault.proofs.Beginning.{nothing_stands, plain_grows}
use Rattle.ps_vault.proofs.Warrants.{nothing_warranted}
use Rattle.ps_vault.proofs.orders.run_in_order.Goals as goal

pub new-requires : goal.new-requires
unfolding heap_in
new-requires g c = record { empty = nothing_stands _ _ c.plain_with_marks-memory.ensures }

pub into_run-requires-clause-starved : goal.into_run-requires-clause-starved
into_run-requires-clause-starved g c = c.run_by-run.ensures.starved (λ m. plain_grows _ _ _ _)

pub into_run-requires-clause-counted : goal.into_run-requires-clause-counted
into_run-requires-clause-counted g c =
    let none : count_of c.in_ok-vault.vault.schedule ≡ 0 =
    ap count_of c.in_ok-vault.ensures.schedule ∙ count_of-nil in
    omega (arith, none, c.run_by-run.ensures.counted)

pub into_run-requires-clause-ordinary : goal.into_run-requires-clause-ordinary
unfolding moves
into_run-requires-clause-ordinary g c = c.run_by-run.ensures.ordinary
    (ap (λ (entries : List Entry). are_ordinary (moves entries)) c.in_ok-vault.ensures.schedule)

pub into_run-requires-clause-warranted : goal.into_run-requires-clause-warranted
into_run-requires-clause-warranted g c =
    c.run_by-run.ensures.warranted (nothing_warranted _ _ _ c.in_ok-vault.ensures.schedule)

pub into_run-requires-clause-space : goal.into_run-requires-clause-space
unfolding heap_in
into_run-requires-clause-space g c = c.run_by-run.ensures.space ∙ c.in_ok-vault.ensures.space

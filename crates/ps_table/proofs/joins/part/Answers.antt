use Rattle.std.proofs.Common.{rules, arith, sym, ap, ◌∙◌}
use Rattle.ps_core_machine.specs.Steps.{table_size}
use Rattle.ps_table.proofs.Seats.{splits}
use Rattle.ps_table.proofs.joins.part.Goals as goal

pub split_seat-requires : goal.split_seat-requires
split_seat-requires c =
    let both = c.swap.ensures.x_after in
    let wide = c.requires.same.1 ∙ ap (λ s. table_size s.me.0.vm.space) (sym both) in (
      search rules,
      omega arith,
      splits _ _ _ (ap (λ s. s.me.0.acts_vm) both ∙ c.requires.acts.0)
          (ap (λ s. s.me.0.acts_gc) both ∙ c.requires.acts.1),
    )

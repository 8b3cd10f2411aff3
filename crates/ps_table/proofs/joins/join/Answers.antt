use Rattle.std.proofs.Common.{rules, ◌≡◌, true, ◌∙◌, ap, arith}
use Rattle.ps_table.proofs.Seats.{spares, joins}
use Rattle.ps_table.proofs.joins.join.Goals as goal

pub split_seat-spare-requires : goal.split_seat-spare-requires
split_seat-spare-requires c = let wide = c.requires.same.2 in (
  search rules,
  omega arith,
  spares _ _
      _,
)

pub join_seat-requires : goal.join_seat-requires
join_seat-requires c =
    let was = c.replace-other.ensures.value in
    let me = c.split_seat-spare.ensures.2 in
    let wide = c.requires.same.2 in
    let acts : c.split_seat-spare.new.seat.me.0.acts_vm ≡ true = ap (λ m. m.0.acts_vm) me
    ∙ c.requires.acts.0 in (
      search rules,
      ap (λ s. s.table_id) was ∙ c.requires.same.1,
      ap (λ s. s.me.1) was ∙ c.requires.acts.2,
      omega arith,
      joins _ _ _ _ _ acts (ap (λ s. s.me.0.acts_gc) was ∙ c.requires.acts.1),
    )

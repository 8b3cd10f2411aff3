use Rattle.std.proofs.Common.{rules, ap, arith, ◌∙◌, ◌≡◌, length}
use Rattle.std.proofs.lemmas.List.{length-replicate}
use Rattle.ps_core_machine.specs.Steps.{table_size}
use Rattle.ps_core_laws.specs.Memory.{heap_of}
use Rattle.ps_core_laws.proofs.Room.{heap_start}
use Rattle.ps_table.specs.Shown.{vm_side}
use Rattle.ps_table.proofs.Seats.{opens, splits}
use Rattle.ps_table.proofs.shared.SharedSeats.new.Goals as goal

pub of_words-requires : goal.of_words-requires
of_words-requires c = opens c.args.space c.requires.size c.as_slice.result.now
    (c.as_slice.ensures.value ∙ c.in_ok-words.ensures.items_if_clones_equal (λ y h. h))

pub split_seat-other-requires : goal.split_seat-other-requires
split_seat-other-requires c =
    let e = c.in_ok-table.ensures in
    let words = c.as_slice.ensures.value
    ∙ c.in_ok-words.ensures.items_if_clones_equal (λ y h. h) in
    let count : c.in_ok-table.table.shared.table_id.words ≡ table_size c.args.space =
    e.0 ∙ (ap length words ∙ length-replicate (table_size c.args.space) 0) in (
      search rules,
      omega arith,
      splits _ _ _ (ap (λ m. m.0.acts_vm) e.4) (ap (λ m. m.0.acts_gc) e.4),
    )

pub returns-clause-heap : goal.returns-clause-heap
returns-clause-heap c =
    let e = c.in_ok-table.ensures in
    ap (λ x. heap_of x.me.0.vm) c.seated-vm.ensures
    ∙ (ap (λ m. heap_of m.0.vm)
    (c.split_seat-other.ensures.2 ∙ ap (λ m. (vm_side m.0, m.1)) e.4) ∙ heap_start c.args.space)

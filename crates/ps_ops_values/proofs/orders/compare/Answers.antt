-- Two integers or two strings, or an error.
use Rattle.std.proofs.Common.{◌∙◌, sym, ap, w32, rules}
use Rattle.std.proofs.lemmas.Int.{to_z-of_z}
use mir.Val.{SFits}
use Rattle.ps_language.specs.Outcome.{leaves}
use Rattle.ps_mem.specs.Heap.{birth_at}
use Rattle.ps_mem.specs.Meaning.{part_of}
use Rattle.ps_ops_values.proofs.Comparing.{order_unordered, order_no_integer, order_no_string, order_integers}
use Rattle.ps_ops_values.proofs.Comparing.{order_readable, order_hidden_first, order_hidden_second}
use Rattle.ps_ops_values.proofs.orders.compare.Goals.{then-not-is_readable-via-then-not-is_readable}
use Rattle.ps_ops_values.proofs.orders.compare.Goals.{then-not-is_readable-via-else-not-is_readable+then-not-is_readable-2}
use Rattle.ps_ops_values.proofs.orders.compare.Goals as goal

pub returns-in_default-integer_of-clause-found : goal.returns-in_default-integer_of-clause-found
returns-in_default-integer_of-clause-found g c = λ names. record {
  agrees = λ s shows distinct within inside.
      order_no_integer s _ _ _ (c.in-Some.ensures _ names)
      (c.in_default-integer_of.ensures _ names);
}

pub returns-in-Some-clause-found : goal.returns-in-Some-clause-found
returns-in-Some-clause-found g c = λ names. record {
  agrees = λ s shows distinct within inside.
      let first : SFits w32 c.in-Some.i = search rules in
      let second : SFits w32 c.in-Some-integer_of.j = search rules in
      order_integers s _ _ _ _ (c.in-Some.ensures _ names)
      (c.in-Some-integer_of.ensures _ names) ∙ ap leaves (sym (simp to_z-of_z at c.cmp.ensures));
}

pub returns-in_default-string_of-clause-found : goal.returns-in_default-string_of-clause-found
returns-in_default-string_of-clause-found g c = λ names. record {
  agrees = λ s shows distinct within inside.
      order_unordered s _ _ (c.in_default.ensures _ names)
      (c.in_default-string_of.ensures.part _ names);
}

pub returns-in_default-string_of-2-clause-found : goal.returns-in_default-string_of-2-clause-found
returns-in_default-string_of-2-clause-found g c = λ names. record {
  agrees = λ s shows distinct within inside.
      order_no_string s _ _ _ (c.in-Some-string_of.ensures.part _ names)
      (c.in_default-string_of-2.ensures.part _ names);
}

pub returns-then-not-is_readable-clause-found : goal.returns-then-not-is_readable-clause-found
returns-then-not-is_readable-clause-found g c = λ names. record {
  agrees = λ s shows distinct within inside.
      let births = birth_at (g.M.Memory.heap c.args.memory.now) in
      elim c.then-not-is_readable.branch [
        | then-not-is_readable-via-then-not-is_readable w ↦
            order_hidden_first s _ _ (part_of births c.in-Some-string_of.first) _
            (c.in-Some-string_of.ensures.part births names)
            (c.in-Some-string_of-2.ensures.part births names)
            (sym c.is_readable.ensures ∙ w.if-not-is_readable.true)
        | then-not-is_readable-via-else-not-is_readable+then-not-is_readable-2 w ↦
            order_hidden_second s _ _ _ (part_of births c.in-Some-string_of-2.second)
            (c.in-Some-string_of.ensures.part births names)
            (c.in-Some-string_of-2.ensures.part births names)
            (sym w.is_readable-else-not-is_readable.ensures ∙ w.if-not-is_readable-2.true)
      ];
}

pub returns-clause-found : goal.returns-clause-found
returns-clause-found g c = λ names. record {
  agrees = λ s shows distinct within inside.
      let births = birth_at (g.M.Memory.heap c.args.memory.now) in
      let first = c.in-Some-string_of.ensures in
      let second = c.in-Some-string_of-2.ensures in
      order_readable s _ _ (part_of births c.in-Some-string_of.first)
      (part_of births c.in-Some-string_of-2.second) (first.part births names)
      (second.part births names) (sym c.is_readable.ensures ∙ c.if-not-is_readable.false)
      (sym c.is_readable-else-not-is_readable.ensures ∙ c.if-not-is_readable-2.false)
      ∙ ap leaves (sym (c.compare_bytes.ensures.order names s shows
      (first.within births names s within) (second.within births names s inside)));
}

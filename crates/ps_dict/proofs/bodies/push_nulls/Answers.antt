use Rattle.std.proofs.Common.{◌≡◌, ◌+◌, ◌-◌, ◌++◌, ◌∙◌, ℕ, List, OnOk, length, take, replicate, vec_len, ap, arith}
use Rattle.std.specs.Prelude.{is_ok, Ok, Err, if◌then◌else◌}
use Rattle.std.proofs.lemmas.List.{take_all}
use Rattle.ps_word.specs.declared.words.Word.{Word}
use Rattle.ps_mem.specs.Heap.{zero_word}
use Rattle.ps_dict.proofs.Removing.{null_is_zero}
use Rattle.ps_dict.proofs.bodies.push_nulls.Goals as goal

-- a list made longer by so many of one word
more_of : (items : List Word) (here len count : ℕ) → here ≡ len → len ≡ length items → (w : Word)
    → w ≡ zero_word → take (here + count) items ++ replicate (here + count - len) w ≡ items
    ++ replicate count zero_word
more_of items here len count is long w null =
    ap (λ front. front ++ replicate (here + count - len) w)
    (take_all (here + count) items (omega (arith, is, long)))
    ∙ (ap (λ n. items ++ replicate n w) (let e : here + count - len ≡ count = omega (arith, is) in e)
    ∙ ap (λ x. items ++ replicate count x) null)

pub returns-clause-nulls : goal.returns-clause-nulls
returns-clause-nulls c =
    let list = c.args.scratch.now in
    elim c.resize.result as
    (λ r. c.resize.new.self.items ≡ (if is_ok r then take (c.len.result + c.args.count) list.items
    ++ replicate (c.len.result + c.args.count - vec_len list) c.null.result else list.items)
    → OnOk r (c.resize.new.self.items ≡ list.items ++ replicate c.args.count zero_word)) [
      | Ok _ ↦ λ e. e ∙ more_of list.items c.len.result (vec_len list) c.args.count c.len.ensures
          list.ok.0 c.null.result (null_is_zero c.null.result c.null.ensures.value c.null.ensures.word)
      | Err _ ↦ λ e. tt
    ] c.resize.ensures.items

-- What stores use up of what was granted, one after another.
use Rattle.std.proofs.Common.{◌≡◌, ℕ, ◌+◌, sym, ◌∙◌, arith, subst}
use Rattle.ps_mem.specs.Heap.{Grants, AfterStore}
use Rattle.ps_dict.specs.Puts.{AfterChange}

pub none-used : (old new : Grants) (slot : ℕ) → new ≡ old → AfterChange old new slot 0 0
none-used old new slot same = subst (λ (x : Grants). AfterChange old x slot 0 0) (sym same)
    (record {
      words = omega arith;
      births = omega arith;
      cycle_open = λ i. old.cycle_open;
      closed = λ i. old.closed;
      used = omega arith;
      others = λ s apart i. old.records s;
      kept = omega arith;
      put = omega arith;
      put_no_other = λ s apart i. old.put s;
    })

pub store-used : (old new : Grants) (slot : ℕ) → AfterStore old new slot
    → AfterChange old new slot 1 0
store-used old new slot store = record {
  words = (let e = store.words in omega (arith, e));
  births = (let e = store.births in omega (arith, e));
  cycle_open = store.cycle_open;
  closed = store.closed;
  used = (let e = store.used in let f = store.one in omega (arith, e, f));
  others = store.others;
  kept = store.kept;
  put = store.one;
  put_no_other = store.put_no_other;
}

pub then-used : (old mid new : Grants) (slot m n room more : ℕ) → AfterChange old mid slot m room
    → AfterChange mid new slot n more → AfterChange old new slot (m + n) (room + more)
then-used old mid new slot m n room more first second = record {
  words = (let e = first.words in let f = second.words in omega (arith, e, f));
  births = (let e = first.births in let f = second.births in omega (arith, e, f));
  cycle_open = second.cycle_open ∙ first.cycle_open;
  closed = second.closed ∙ first.closed;
  used = (let e = first.used in let f = second.used in omega (arith, e, f));
  others = λ s apart. second.others s apart ∙ first.others s apart;
  kept = (let e = first.kept in let f = second.kept in omega (arith, e, f));
  put = (let e = first.put in let f = second.put in omega (arith, e, f));
  put_no_other = λ s apart. second.put_no_other s apart ∙ first.put_no_other s apart;
}

use Rattle.std.proofs.Common.{arith, ◌≡◌, ◌+◌, ◌<◌, ℕ, [], length, Some, refl, sym, ap, ◌∙◌, subst, replicate, Bool}
use Rattle.std.proofs.Common.{false}
use Rattle.std.specs.Prelude.{if◌then◌else◌}
use Rattle.std.proofs.lemmas.List.{get_or-replicate}
use Rattle.ps_core_machine.specs.declared.events.Gc.{Gc}
use Rattle.ps_core_machine.specs.declared.events.Pair.{Pair}
use Rattle.ps_core_machine.specs.Objects.{pair_of, closes}
use Rattle.ps_gc.specs.Keeps.{Copies, Takes}
use Rattle.ps_gc.proofs.collector.Collector.new.Goals as goal

pub invariant_of-result : goal.invariant_of-result
invariant_of-result g c =
    let start = c.requires.start in
    let at : ℕ = 8256 + c.args.space in
    record {
      copies = subst (λ (x : Gc). Copies x (record {
        space = c.args.space;
        cycle = 0;
        end = at;
        at = at;
        field = 0;
      })) (sym start) (record {
        space_is = refl;
        cycle_is = refl;
        end_is = omega arith;
        behind = λ a p e. absurd (cc);
        at_is = λ ne. absurd (ne refl);
        at_end = λ e. refl;
        within = λ a p e. absurd (cc);
        marked = λ a p e. absurd (cc);
      });
      field = subst (λ (x : Gc). (a : ℕ) (p : Pair) → pair_of x.pairs a ≡ Some p
          → p.replica ≡ at → 0 < length p.fields) (sym start) (λ a p e. absurd (cc));
      takes = subst (λ (x : Gc). Takes x (record {
        numbers = replicate 32 0;
        closed = replicate 32 false;
      })) (sym start) (record {
        wide = refl;
        wide_closed = refl;
        numbers_are = λ slot lt. get_or-replicate 32 slot 0 0 lt
            ∙ sym (ap length (get_or-replicate 32 slot [] [] lt));
        closed_are = λ slot lt. ap closes (get_or-replicate 32 slot [] [] lt)
            ∙ sym (ap (λ (b : Bool). 0 + (if b then 1 else 0))
            (get_or-replicate 32 slot false false lt));
      });
      idle = (ap (λ (x : Gc). x.taking) start, ap (λ (x : Gc). x.copying) start);
    }

-- Events that only look, one after another.
use Rattle.std.proofs.Common.{◌≡◌, ℕ, ◌+◌, ◌≤◌, Bool, true, false, ◌&&◌, List, [], ◌∷◌, ◌++◌, refl, sym, ap}
use Rattle.std.proofs.Common.{◌∙◌, arith}
use Rattle.std.specs.List.{list_all}
use Rattle.std.proofs.lemmas.Bool.{true≢false}
use Rattle.std.proofs.lemmas.List.{append_assoc, length-append}
use Rattle.ps_core_machine.specs.declared.events.Event.{Event}
use Rattle.ps_core_machine.specs.declared.events.Event.TheVariants.{VmLoad}
use Rattle.ps_core_laws.specs.Looks.{OnlyLooks, is_look_or_flip}
use Rattle.ps_table.specs.Shown.{BothLook, SeatState}

pub no_looks : (most : ℕ) (events : List Event) → OnlyLooks most events events
no_looks most events = record { more = []; is = refl; looks = refl; few = omega arith }

-- a look by both sides is an event of the mutator's
module _ (m n : SeatState) (place found : ℕ) (look : BothLook m place found n) where
  pub one_look : OnlyLooks 1 m.0.vm_events n.0.vm_events
  one_look = record {
    more = VmLoad place found ∷ [];
    is = ap (λ (s : SeatState). s.0.vm_events) look.did;
    looks = refl;
    few = omega arith;
  }

  pub no_gc_look : n.0.gc_events ≡ m.0.gc_events
  no_gc_look = ap (λ (s : SeatState). s.0.gc_events) look.did

all_both : (first second : List Event) → list_all is_look_or_flip first ≡ true
    → list_all is_look_or_flip second ≡ true → list_all is_look_or_flip (first ++ second) ≡ true
all_both [] second one other = other
all_both (event ∷ first) second one other =
    by (is_look_or_flip event) one (λ rest. all_both first second rest other)
  where
    by : (is : Bool) → is && list_all is_look_or_flip first ≡ true
        → (list_all is_look_or_flip first ≡ true
        → list_all is_look_or_flip (first ++ second) ≡ true)
        → is && list_all is_look_or_flip (first ++ second) ≡ true
    by true rest then = then rest
    by false rest then = absurd (true≢false (sym rest))

pub more_looks : (few many most : ℕ) (a b c : List Event) → few + many ≤ most
    → OnlyLooks few a b → OnlyLooks many b c → OnlyLooks most a c
more_looks few many most a b c within first second = record {
  more = second.more ++ first.more;
  is = second.is ∙ (ap (λ (es : List Event). second.more ++ es) first.is
      ∙ sym (append_assoc second.more first.more a));
  looks = all_both second.more first.more second.looks first.looks;
  few = let both = length-append second.more first.more in let one = first.few in
      let other = second.few in omega (arith, within, both, one, other);
}

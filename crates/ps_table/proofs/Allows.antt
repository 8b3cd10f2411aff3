-- Each step of a seat is the next event of a run.
use Rattle.std.proofs.Common.{◌≡◌, ◌≢◌, ℕ, Bool, true, false, List, ◌∷◌, set, refl, sym, ap, ◌∙◌, ⊎_elim, subst}
use Rattle.std.specs.Prelude.{Option, Some, None, is_some, slice_index, slice_set}
use Rattle.std.specs.List.{filter}
use mathlib.Core.Option.{some}
use lib.ListN.{get_elem?}
use Rattle.atomic_table.specs.Table as table
use Rattle.atomic_table.proofs.Lists.{at_set}
use Rattle.ps_core_machine.specs.declared.events.Event.{Event}
use Rattle.ps_core_machine.specs.declared.events.Event.TheVariants.{VmLoad}
use Rattle.ps_core_machine.specs.declared.events.Vm.{Vm}
use Rattle.ps_core_machine.specs.declared.events.Gc.{Gc}
use Rattle.ps_core_machine.specs.Steps.{State, vm_after, gc_after, words_after}
use Rattle.ps_core_machine.specs.Conditions.{Permitted}
use Rattle.ps_core_laws.specs.Runs.{run, IsRun, IsSpace}
use Rattle.ps_core_laws.proofs.Kept.{good}
use Rattle.ps_core_laws.specs.Shown.{VmRuns, VmFinds}
use Rattle.ps_table.specs.declared.plays.View.{View}
use Rattle.ps_table.specs.Shown.{by_vm, by_gc, Fits, Shows, GcRuns, GcFinds, BothFind, BothRun, BothLook, VmDoes}
use Rattle.ps_table.specs.Shown.{VmStores, GcDoes, GcStores, BothDo, longer, vm_did, gc_did, both_did, SeatState}

-- ---- the parts of a run

-- what a run leads to, it leads to over the space that a part of its state tells
own : (space mine : ℕ) (events : List Event) (Q : State → Type 0) → mine ≡ space → IsSpace space
    → IsRun space events → Q (run space events)
    → IsSpace mine × IsRun mine events × Q (run mine events)
own space mine events Q is size r q = subst
    (λ (k : ℕ). IsSpace k × IsRun k events × Q (run k events)) (sym is) (size, r, q)

module _ (space : ℕ) (events : List Event) where
  vm_space : (v : Vm) → IsSpace space → IsRun space events → (run space events).vm ≡ v
      → v.space ≡ space
  vm_space v size r is = ap (λ (w : Vm). w.space) (sym is)
      ∙ (good space size events r).counted.vm_space_is

  gc_space : (g : Gc) → IsSpace space → IsRun space events → (run space events).gc ≡ g
      → g.space ≡ space
  gc_space g size r is = ap (λ (w : Gc). w.space) (sym is)
      ∙ (good space size events r).counted.gc_space_is

  pub vm_runs : (v : Vm) → IsSpace space → IsRun space events → (run space events).vm ≡ v → VmRuns v
  vm_runs v size r is =
      let all = own space v.space events (λ s. s.vm ≡ v) (vm_space v size r is) size r is in
      record { size = all.0; events = events; is_run = all.1; is = all.2 }

  pub gc_runs : (g : Gc) → IsSpace space → IsRun space events → (run space events).gc ≡ g → GcRuns g
  gc_runs g size r is =
      let all = own space g.space events (λ s. s.gc ≡ g) (gc_space g size r is) size r is in
      record { size = all.0; events = events; is_run = all.1; is = all.2 }

  pub vm_finds : (v : Vm) (place word : ℕ) → IsSpace space → IsRun space events
      → (run space events).vm ≡ v → slice_index (run space events).words place ≡ word
      → VmFinds v place word
  vm_finds v place word size r is found =
      let all = own space v.space events
      (λ s. (s.vm ≡ v) × (slice_index s.words place ≡ word)) (vm_space v size r is) size r
      (is, found) in
      record { size = all.0; events = events; is_run = all.1; is = all.2.0; found = all.2.1 }

  pub gc_finds : (g : Gc) (place word : ℕ) → IsSpace space → IsRun space events
      → (run space events).gc ≡ g → slice_index (run space events).words place ≡ word
      → GcFinds g place word
  gc_finds g place word size r is found =
      let all = own space g.space events
      (λ s. (s.gc ≡ g) × (slice_index s.words place ≡ word)) (gc_space g size r is) size r
      (is, found) in
      record { size = all.0; events = events; is_run = all.1; is = all.2.0; found = all.2.1 }

  pub both_find : (v : Vm) (g : Gc) (place word : ℕ) → IsSpace space → IsRun space events
      → (run space events).vm ≡ v → (run space events).gc ≡ g
      → slice_index (run space events).words place ≡ word → BothFind v g place word
  both_find v g place word size r vm gc found =
      let all = own space v.space events
      (λ s. (s.vm ≡ v) × (s.gc ≡ g) × (slice_index s.words place ≡ word))
      (vm_space v size r vm) size r (vm, gc, found) in
      record {
        size = all.0;
        events = events;
        is_run = all.1;
        vm_is = all.2.0;
        gc_is = all.2.1;
        found = all.2.2;
      }

  pub both_run : (v : Vm) (g : Gc) → IsSpace space → IsRun space events
      → (run space events).vm ≡ v → (run space events).gc ≡ g → BothRun v g
  both_run v g size r vm gc =
      let all = own space v.space events (λ s. (s.vm ≡ v) × (s.gc ≡ g)) (vm_space v size r vm)
      size r (vm, gc) in
      record { size = all.0; events = events; is_run = all.1; vm_is = all.2.0; gc_is = all.2.1 }

-- ---- the views

-- an event that the mutator's seat makes alone
pub record VmAlone (e : Event) : Type 0 where
  pub vm_makes : by_vm e ≡ true
  pub gc_not : by_gc e ≡ false
  pub gc_same : (g : Gc) (v : Vm) → gc_after g v e ≡ g
  pub vm_own : (v : Vm) (g h : Gc) → vm_after v g e ≡ vm_after v h e

pub record GcAlone (e : Event) : Type 0 where
  pub gc_makes : by_gc e ≡ true
  pub vm_not : by_vm e ≡ false
  pub vm_same : (v : Vm) (g : Gc) → vm_after v g e ≡ v
  pub gc_own : (g : Gc) (v w : Vm) → gc_after g v e ≡ gc_after g w e

-- an event that both seats make, joined
pub record Both (e : Event) : Type 0 where
  pub vm_makes : by_vm e ≡ true
  pub gc_makes : by_gc e ≡ true

part_in : (test : Event → Bool) (e : Event) (es : List Event) → test e ≡ true → filter test (e ∷ es)
    ≡ e ∷ filter test es
part_in test e es h = rw h refl

part_out : (test : Event → Bool) (e : Event) (es : List Event) → test e ≡ false
    → filter test (e ∷ es) ≡ filter test es
part_out test e es h = rw h refl

-- a run that is known after an event was known before it
was_known : (e : Event) (whole : Option (List Event)) (es : List Event) → longer e whole ≡ Some es
    → (before : List Event) × (whole ≡ Some before) × (es ≡ e ∷ before)
was_known e None es h = absurd (cc)
was_known e (Some before) es h = (before, refl, cc)

-- so what is known of the run before an event is known of the run after it
known_on : (events : List Event) (v : View) (e : Event)
    → ((es : List Event) → v.whole ≡ Some es
    → (events ≡ es) × (v.acts_vm ≡ true) × (v.acts_gc ≡ true)) → (es : List Event)
    → longer e v.whole ≡ Some es → (e ∷ events ≡ es) × (v.acts_vm ≡ true) × (v.acts_gc ≡ true)
known_on events v e known es h =
    let was = was_known e v.whole es h in
    let k = known was.0 was.1 in (
      ap (λ (l : List Event). e ∷ l) k.0 ∙ sym was.2,
      k.1,
      k.2,
    )

-- and where it was known it is known
still_known : (e : Event) (whole : Option (List Event)) → is_some (longer e whole) ≡ is_some whole
still_known e None = refl
still_known e (Some es) = refl

module _ (e : Event) (m m' : SeatState) where
  pub vm_known : m' ≡ (vm_did m.0 e, m.1) → is_some m'.0.whole ≡ is_some m.0.whole
  vm_known did = ap (λ (x : SeatState). is_some x.0.whole) did ∙ still_known e m.0.whole

  pub gc_known : m' ≡ (gc_did m.0 e, m.1) → is_some m'.0.whole ≡ is_some m.0.whole
  gc_known did = ap (λ (x : SeatState). is_some x.0.whole) did ∙ still_known e m.0.whole

  pub both_known : m' ≡ (both_did m.0 e, m.1) → is_some m'.0.whole ≡ is_some m.0.whole
  both_known did = ap (λ (x : SeatState). is_some x.0.whole) did ∙ still_known e m.0.whole

-- the view of the seat that moved, and those of the others
vm_moved : (space : ℕ) (events : List Event) (a b at : ℕ) (v : View) (e : Event) → VmAlone e
    → v.acts_vm ≡ true → Fits space events a b at v → Fits space (e ∷ events) a b at (vm_did v e)
vm_moved space events a b at v e alone acts f = record {
  vm_here = f.vm_here;
  vm_list = λ h. part_in by_vm e events alone.vm_makes ∙ ap (λ (l : List Event). e ∷ l)
      (f.vm_list h);
  vm_is = λ h. alone.vm_own (run space events).vm (run space events).gc v.gc
      ∙ ap (λ (w : Vm). vm_after w v.gc e) (f.vm_is h);
  gc_here = f.gc_here;
  gc_list = λ h. part_out by_gc e events alone.gc_not ∙ f.gc_list h;
  gc_is = λ h. alone.gc_same (run space events).gc (run space events).vm ∙ f.gc_is h;
  whole_is = known_on events v e f.whole_is;
}

vm_beside : (space : ℕ) (events : List Event) (a b at : ℕ) (v : View) (e : Event) → VmAlone e
    → at ≢ a → Fits space events a b at v → Fits space (e ∷ events) a b at v
vm_beside space events a b at v e alone off f = record {
  vm_here = f.vm_here;
  vm_list = λ h. absurd (off (f.vm_here h));
  vm_is = λ h. absurd (off (f.vm_here h));
  gc_here = f.gc_here;
  gc_list = λ h. part_out by_gc e events alone.gc_not ∙ f.gc_list h;
  gc_is = λ h. alone.gc_same (run space events).gc (run space events).vm ∙ f.gc_is h;
  whole_is = λ es h. absurd (off (f.vm_here (f.whole_is es h).1));
}

gc_moved : (space : ℕ) (events : List Event) (a b at : ℕ) (v : View) (e : Event) → GcAlone e
    → v.acts_gc ≡ true → Fits space events a b at v → Fits space (e ∷ events) a b at (gc_did v e)
gc_moved space events a b at v e alone acts f = record {
  vm_here = f.vm_here;
  vm_list = λ h. part_out by_vm e events alone.vm_not ∙ f.vm_list h;
  vm_is = λ h. alone.vm_same (run space events).vm (run space events).gc ∙ f.vm_is h;
  gc_here = f.gc_here;
  gc_list = λ h. part_in by_gc e events alone.gc_makes ∙ ap (λ (l : List Event). e ∷ l)
      (f.gc_list h);
  gc_is = λ h. alone.gc_own (run space events).gc (run space events).vm v.vm
      ∙ ap (λ (w : Gc). gc_after w v.vm e) (f.gc_is h);
  whole_is = known_on events v e f.whole_is;
}

gc_beside : (space : ℕ) (events : List Event) (a b at : ℕ) (v : View) (e : Event) → GcAlone e
    → at ≢ b → Fits space events a b at v → Fits space (e ∷ events) a b at v
gc_beside space events a b at v e alone off f = record {
  vm_here = f.vm_here;
  vm_list = λ h. part_out by_vm e events alone.vm_not ∙ f.vm_list h;
  vm_is = λ h. alone.vm_same (run space events).vm (run space events).gc ∙ f.vm_is h;
  gc_here = f.gc_here;
  gc_list = λ h. absurd (off (f.gc_here h));
  gc_is = λ h. absurd (off (f.gc_here h));
  whole_is = λ es h. absurd (off (f.gc_here (f.whole_is es h).2));
}

both_moved : (space : ℕ) (events : List Event) (a b at : ℕ) (v : View) (e : Event) → Both e
    → v.acts_vm ≡ true → v.acts_gc ≡ true → Fits space events a b at v → Fits space (e ∷ events) a b
    at (both_did v e)
both_moved space events a b at v e both vm gc f = record {
  vm_here = f.vm_here;
  vm_list = λ h. part_in by_vm e events both.vm_makes ∙ ap (λ (l : List Event). e ∷ l)
      (f.vm_list h);
  vm_is = λ h. ap (λ (w : Vm). vm_after w (run space events).gc e) (f.vm_is h)
      ∙ ap (λ (w : Gc). vm_after v.vm w e) (f.gc_is gc);
  gc_here = f.gc_here;
  gc_list = λ h. part_in by_gc e events both.gc_makes ∙ ap (λ (l : List Event). e ∷ l)
      (f.gc_list h);
  gc_is = λ h. ap (λ (w : Gc). gc_after w (run space events).vm e) (f.gc_is h)
      ∙ ap (λ (w : Vm). gc_after v.gc w e) (f.vm_is vm);
  whole_is = known_on events v e f.whole_is;
}

both_beside : (space : ℕ) (events : List Event) (a b at : ℕ) (v : View) (e : Event) → at ≢ a
    → at ≢ b → Fits space events a b at v → Fits space (e ∷ events) a b at v
both_beside space events a b at v e off_a off_b f = record {
  vm_here = f.vm_here;
  vm_list = λ h. absurd (off_a (f.vm_here h));
  vm_is = λ h. absurd (off_a (f.vm_here h));
  gc_here = f.gc_here;
  gc_list = λ h. absurd (off_b (f.gc_here h));
  gc_is = λ h. absurd (off_b (f.gc_here h));
  whole_is = λ es h. absurd (off_a (f.vm_here (f.whole_is es h).1));
}

-- the views after one seat moved
pub re_seated : (P Q : ℕ → View → Type 0) (views : List View) (id : ℕ) (w : View) → Q id w
    → ((at : ℕ) (v : View) → at ≢ id → P at v → Q at v)
    → ((at : ℕ) (v : View) → get_elem? views at ≡ some v → P at v) → (at : ℕ) (v : View)
    → get_elem? (set views id w) at ≡ some v → Q at v
re_seated P Q views id w mine others each at v e =
    ⊎_elim
    (λ (x : (at ≡ id) × (w ≡ v)). subst (λ (y : ℕ × View). Q y.0 y.1) (λ i. (sym x.0 i, x.1 i))
    mine)
    (λ (x : (at ≢ id) × (get_elem? views at ≡ some v)). others at v x.0 (each at v x.1))
    (at_set views id at w v e)

-- ---- a step of one seat, whatever the other one did

-- where the run's part is this one and the word found is n, the event may happen and makes of the
-- words what the step does
pub record VmStep (v : Vm) (i : ℕ) (f : ℕ → ℕ) (e : ℕ → Event) : Type 0 where
  pub alone : (n : ℕ) → VmAlone (e n)
  pub may : (s : State) (n : ℕ) → s.vm ≡ v → slice_index s.words i ≡ n → Permitted s (e n)
  pub writes : (s : State) (n : ℕ) → s.vm ≡ v → slice_index s.words i ≡ n → words_after s.words s.vm
      s.gc (e n) ≡ slice_set s.words i (f n)

pub record GcStep (g : Gc) (i : ℕ) (f : ℕ → ℕ) (e : ℕ → Event) : Type 0 where
  pub alone : (n : ℕ) → GcAlone (e n)
  pub may : (s : State) (n : ℕ) → s.gc ≡ g → slice_index s.words i ≡ n → Permitted s (e n)
  pub writes : (s : State) (n : ℕ) → s.gc ≡ g → slice_index s.words i ≡ n → words_after s.words s.vm
      s.gc (e n) ≡ slice_set s.words i (f n)

pub record BothStep (v : Vm) (g : Gc) (i : ℕ) (f : ℕ → ℕ) (e : ℕ → Event) : Type 0 where
  pub both : (n : ℕ) → Both (e n)
  pub may : (s : State) (n : ℕ) → s.vm ≡ v → s.gc ≡ g → slice_index s.words i ≡ n
      → Permitted s (e n)
  pub writes : (s : State) (n : ℕ) → s.vm ≡ v → s.gc ≡ g → slice_index s.words i ≡ n
      → words_after s.words s.vm s.gc (e n) ≡ slice_set s.words i (f n)

module _ (space slots id : ℕ) (me : SeatState) (i : ℕ) (f : ℕ → ℕ) (e : ℕ → Event) where
  -- the mutator's step, and whatever follows of the run that it comes after
  vm_goes : (tells : ℕ → SeatState → Type 0) → me.0.acts_vm ≡ true → VmStep me.0.vm i f e
      → ((events : List Event) (a b n : ℕ) → IsSpace space → IsRun space events
      → Fits space events a b id me.0 → slice_index (run space events).words i ≡ n
      → IsRun space (e n ∷ events) → Fits space (e n ∷ events) a b id (vm_did me.0 (e n))
      → tells n (vm_did me.0 (e n), me.1))
      → table.Allows (Shows space) slots id me i f tells
  vm_goes tells acts step told s h _ at _ =
      let n : ℕ = slice_index s.words i in
      let mine = h.each_view id me.0 at in
      let st : State = run space h.events in
      let found : slice_index st.words i ≡ n = ap (λ (ws : List ℕ). slice_index ws i)
      (sym h.words_are) in
      let is = mine.vm_is acts in
      let next : IsRun space (e n ∷ h.events) = (h.is_run, step.may st n is found) in
      let moved = vm_moved space h.events h.vm_at h.gc_at id me.0 (e n) (step.alone n) acts mine in (
        vm_did me.0 (e n),
        table.keeps,
        tt,
        record {
          size = h.size;
          events = e n ∷ h.events;
          vm_at = h.vm_at;
          gc_at = h.gc_at;
          is_run = next;
          words_are = ap (λ (ws : List ℕ). slice_set ws i (f n)) h.words_are
              ∙ sym (step.writes st n is found);
          each_view = re_seated (Fits space h.events h.vm_at h.gc_at) (Fits space (e n ∷ h.events)
              h.vm_at h.gc_at) s.views id (vm_did me.0 (e n)) moved
              (λ j v off fits. vm_beside space h.events h.vm_at h.gc_at j v (e n) (step.alone n)
              (λ same. off (same ∙ sym (mine.vm_here acts))) fits)
              h.each_view;
        },
        told h.events h.vm_at h.gc_at n h.size h.is_run mine found next moved,
      )

  pub vm_allows : me.0.acts_vm ≡ true → VmStep me.0.vm i f e → table.Allows (Shows space) slots id
      me i f (λ n me'. VmDoes me i n (e n) me')
  vm_allows acts step = vm_goes (λ n me'. VmDoes me i n (e n) me') acts step
      (λ events a b n size r mine found next moved. record {
        did = refl;
        finds = vm_finds space events me.0.vm i n size r (mine.vm_is acts) found;
        both = λ gc. both_find space events me.0.vm me.0.gc i n size r (mine.vm_is acts)
            (mine.gc_is gc) found;
        runs = vm_runs space (e n ∷ events) (vm_did me.0 (e n)).vm size next (moved.vm_is acts);
      })

  pub gc_allows : me.0.acts_gc ≡ true → GcStep me.0.gc i f e → table.Allows (Shows space) slots id
      me i f (λ n me'. GcDoes me i n (e n) me')
  gc_allows acts step s h _ at _ =
      let n : ℕ = slice_index s.words i in
      let mine = h.each_view id me.0 at in
      let st : State = run space h.events in
      let found : slice_index st.words i ≡ n = ap (λ (ws : List ℕ). slice_index ws i)
      (sym h.words_are) in
      let is = mine.gc_is acts in
      let next : IsRun space (e n ∷ h.events) = (h.is_run, step.may st n is found) in
      let moved = gc_moved space h.events h.vm_at h.gc_at id me.0 (e n) (step.alone n) acts mine in (
        gc_did me.0 (e n),
        table.keeps,
        tt,
        record {
          size = h.size;
          events = e n ∷ h.events;
          vm_at = h.vm_at;
          gc_at = h.gc_at;
          is_run = next;
          words_are = ap (λ (ws : List ℕ). slice_set ws i (f n)) h.words_are
              ∙ sym (step.writes st n is found);
          each_view = re_seated (Fits space h.events h.vm_at h.gc_at) (Fits space (e n ∷ h.events)
              h.vm_at h.gc_at) s.views id (gc_did me.0 (e n)) moved
              (λ j v off fits. gc_beside space h.events h.vm_at h.gc_at j v (e n) (step.alone n)
              (λ same. off (same ∙ sym (mine.gc_here acts))) fits)
              h.each_view;
        },
        record {
          did = refl;
          finds = gc_finds space h.events me.0.gc i n h.size h.is_run is found;
          both = λ vm. both_find space h.events me.0.vm me.0.gc i n h.size h.is_run
              (mine.vm_is vm) is found;
          runs = gc_runs space (e n ∷ h.events) (gc_did me.0 (e n)).gc h.size next
              (moved.gc_is acts);
        },
      )

  pub both_allows : me.0.acts_vm ≡ true → me.0.acts_gc ≡ true → BothStep me.0.vm me.0.gc i f e
      → table.Allows (Shows space) slots id me i f (λ n me'. BothDo me (e n) me')
  both_allows vm gc step s h _ at _ =
      let n : ℕ = slice_index s.words i in
      let mine = h.each_view id me.0 at in
      let st : State = run space h.events in
      let found : slice_index st.words i ≡ n = ap (λ (ws : List ℕ). slice_index ws i)
      (sym h.words_are) in
      let next : IsRun space (e n ∷ h.events) = (
        h.is_run,
        step.may st n (mine.vm_is vm)
            (mine.gc_is gc) found,
      ) in
      let moved = both_moved space h.events h.vm_at h.gc_at id me.0 (e n) (step.both n) vm gc mine
      in (
        both_did me.0 (e n),
        table.keeps,
        tt,
        record {
          size = h.size;
          events = e n ∷ h.events;
          vm_at = h.vm_at;
          gc_at = h.gc_at;
          is_run = next;
          words_are = ap (λ (ws : List ℕ). slice_set ws i (f n)) h.words_are
              ∙ sym (step.writes st n (mine.vm_is vm) (mine.gc_is gc) found);
          each_view = re_seated (Fits space h.events h.vm_at h.gc_at) (Fits space (e n ∷ h.events)
              h.vm_at h.gc_at) s.views id (both_did me.0 (e n)) moved
              (λ j v off fits. both_beside space h.events h.vm_at h.gc_at j v (e n)
              (λ same. off (same ∙ sym (mine.vm_here vm)))
              (λ same. off (same ∙ sym (mine.gc_here gc))) fits)
              h.each_view;
        },
        record {
          did = refl;
          from = both_run space h.events me.0.vm me.0.gc h.size h.is_run (mine.vm_is vm)
              (mine.gc_is gc);
          vm_runs = vm_runs space (e n ∷ h.events) (both_did me.0 (e n)).vm h.size next
              (moved.vm_is vm);
          gc_runs = gc_runs space (e n ∷ h.events) (both_did me.0 (e n)).gc h.size next
              (moved.gc_is gc);
        },
      )

-- a look by both seats joined tells of one run that leads to both parts
pub look_allows : (space slots id : ℕ) (me : SeatState) (i : ℕ) → me.0.acts_vm ≡ true
    → me.0.acts_gc ≡ true → VmStep me.0.vm i (λ n. n) (λ n. VmLoad i n)
    → table.Allows (Shows space) slots id me i (λ n. n) (λ n me'. BothLook me i n me')
look_allows space slots id me i vm gc step =
    vm_goes space slots id me i (λ n. n) (λ n. VmLoad i n) (λ n me'. BothLook me i n me') vm step
    (λ events a b n size r mine found next moved. record {
      did = refl;
      finds = both_find space events me.0.vm me.0.gc i n size r (mine.vm_is vm) (mine.gc_is gc)
          found;
    })

-- a store tells no word found
pub vm_store_allows : (space slots id : ℕ) (me : SeatState) (i word : ℕ) (e : Event) → me.0.acts_vm
    ≡ true
    → VmStep me.0.vm i (λ _. word) (λ _. e) → table.Allows (Shows space) slots id me i (λ _. word)
    (λ _ me'. VmStores me e me')
vm_store_allows space slots id me i word e acts step s h n at small =
    let a = vm_allows space slots id me i (λ _. word) (λ _. e) acts step s h n at small in
    (a.0, a.1, a.2, a.3, record { did = a.4.did; runs = a.4.runs })

pub gc_store_allows : (space slots id : ℕ) (me : SeatState) (i word : ℕ) (e : Event) → me.0.acts_gc
    ≡ true
    → GcStep me.0.gc i (λ _. word) (λ _. e) → table.Allows (Shows space) slots id me i (λ _. word)
    (λ _ me'. GcStores me e me')
gc_store_allows space slots id me i word e acts step s h n at small =
    let a = gc_allows space slots id me i (λ _. word) (λ _. e) acts step s h n at small in
    (a.0, a.1, a.2, a.3, record { did = a.4.did; runs = a.4.runs })

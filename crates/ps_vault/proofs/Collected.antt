-- What a vault keeps while the collector works.
use Rattle.std.proofs.Common.{◌≡◌, ◌≢◌, true≢false, ℕ, ◌<◌, Bool, true, false, Option, List, length, replicate, refl, ap, subst, sym, ◌∙◌, arith}
use Rattle.std.specs.Prelude.{IfSome, slice_index_or, slice_set}
use Rattle.std.proofs.lemmas.List.{length-replicate, length-set, get_or-replicate, get_or-set_same, get_or-set_other}
use Rattle.std.proofs.lemmas.List.FromFn.{get_or-map-range_with_len, length-map-range_with_len, fill_by_all}
use native.Mathlib.Decide.{ℕ_discrete}
use Rattle.ps_language.specs.declared.schedules.Entry.{Entry}
use Rattle.ps_language.specs.Worlds.{world, IsProper}
use Rattle.ps_mem.specs.Heap.{Grants}
use Rattle.ps_core_laws.specs.declared.Closing.{Closing}
use Rattle.ps_core_laws.specs.declared.Closing.TheVariants.{Closed, LogFull}
use Rattle.ps_core_laws.specs.MemoryLaws.{AfterClose}
use Rattle.ps_gc_roots.specs.Moved.{KeepsWorlds}
use Rattle.ps_ctx_table.specs.Desks.{Desk}
use Rattle.ps_ctx.specs.declared.worlds.Calling.{Calling}
use Rattle.ps_ctx.specs.Held.{held, IsAt}
use Rattle.ps_ctx.specs.Notes.{HasNoStatus}
use Rattle.ps_vault.specs.Stories.{Keeps, logs_closed}

-- contexts that are at the same worlds have made the same steps
pub keeps_collected : (old new : Desk) (calling : Option Calling) (schedule : List Entry)
    → KeepsWorlds (held old calling) (held new calling) → Keeps (held old calling) schedule
    → Keeps (held new calling) schedule
keeps_collected old new calling schedule kept keeps = record {
  steady = record {
    steady = kept.steady keeps.steady.steady;
    framed = kept.framed keeps.steady.framed;
  };
  at = subst (λ (p : List ℕ). IsAt (held new calling) (world p schedule)) (sym kept.program)
      (kept.at (world old.program schedule) keeps.at);
  proper = subst (λ (p : List ℕ). IsProper p schedule) (sym kept.program) keeps.proper;
  longest = keeps.longest;
  no_status = subst (λ (p : List ℕ). IfSome calling
      (λ one. HasNoStatus (world p schedule) one.caller)) (sym kept.program) keeps.no_status;
}

-- ---- which logs are closed

pub logs_at : (closed : ℕ → Bool) (slot : ℕ) → slot < 32
    → slice_index_or (logs_closed closed) slot false ≡ closed slot
logs_at closed slot lt = get_or-map-range_with_len closed 0 32 slot slot false lt (omega arith)

pub logs_none : (closed : ℕ → Bool) → ((slot : ℕ) → closed slot ≡ false)
    → logs_closed closed ≡ replicate 32 false
logs_none closed none = sym (fill_by_all closed (replicate 32 false) 32 false
    (length-replicate 32 false) (λ k lt. get_or-replicate 32 k false false lt ∙ sym (none k)))

-- one more is
pub logs_with : (before after : ℕ → Bool) (slot : ℕ) → slot < 32 → after slot ≡ true
    → ((s : ℕ) → s ≢ slot → after s ≡ before s)
    → logs_closed after ≡ slice_set (logs_closed before) slot true
logs_with before after slot lt closed others =
    let logs = logs_closed before in
    let long : length logs ≡ 32 = length-map-range_with_len before 0 32 in
    sym (fill_by_all after (slice_set logs slot true) 32 false (length-set logs slot true ∙ long)
    (λ k within. elim (ℕ_discrete k slot) [
      | yes is ↦ rw is (get_or-set_same logs slot true false (omega arith) ∙ sym closed)
      | no ne ↦ get_or-set_other logs slot k true false ne
          ∙ (logs_at before k within ∙ sym (others k ne))
    ]))

-- a log was closed, or was so before
pub log_closed : (old new : Grants) (slot : ℕ) → slot < 32
    → (old.closed slot ≡ true → new ≡ old) → (old.closed slot ≡ false → AfterClose old new slot)
    → (new.cycle_open ≡ old.cycle_open)
    × (logs_closed new.closed ≡ slice_set (logs_closed old.closed) slot true)
log_closed old new slot lt already after = by (old.closed slot) refl
  where
    by : (b : Bool) → old.closed slot ≡ b → (new.cycle_open ≡ old.cycle_open)
        × (logs_closed new.closed ≡ slice_set (logs_closed old.closed) slot true)
    by true is = (
      ap (λ (g : Grants). g.cycle_open) (already is),
      ap (λ (g : Grants). logs_closed g.closed) (already is)
          ∙ logs_with old.closed old.closed slot lt is (λ s ne. refl),
    )
    by false is =
        let closes = after is in (
          closes.cycle_open,
          logs_with old.closed new.closed slot lt closes.closed closes.closed_others,
        )

is_closing : Closing → Bool
is_closing Closed = true
is_closing LogFull = false

-- whatever the answer, the cycle is open or not as before
pub cycle_kept : (old new : Grants) (slot : ℕ) (answer : Closing)
    → (old.closed slot ≡ true → (answer ≡ Closed) × (new ≡ old))
    → (old.closed slot ≡ false → answer ≡ Closed → AfterClose old new slot)
    → (answer ≡ LogFull → (old.records slot ≡ 0) × (new ≡ old))
    → new.cycle_open ≡ old.cycle_open
cycle_kept old new slot LogFull already after full =
    ap (λ (g : Grants). g.cycle_open) (full refl).1
cycle_kept old new slot Closed already after full = by (old.closed slot) refl
  where
    by : (b : Bool) → old.closed slot ≡ b → new.cycle_open ≡ old.cycle_open
    by true is = ap (λ (g : Grants). g.cycle_open) (already is).1
    by false is = (after is refl).cycle_open

-- one that is full isn't closed
pub unclosed_full : (closed : Bool) (answer : Closing) → (closed ≡ true → answer ≡ Closed)
    → answer ≡ LogFull → closed ≡ false
unfolding is_closing
unclosed_full true answer already full =
    absurd (true≢false (ap is_closing (sym (already refl) ∙ full)))
unclosed_full false answer already full = refl

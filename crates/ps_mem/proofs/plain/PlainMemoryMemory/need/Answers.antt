use Rattle.std.proofs.Common.{◌+◌, ◌≤◌, ◌<◌, ℕ, refl, arith, List}
use Rattle.ps_mem.specs.Objects.{heap_in}
use Rattle.ps_mem.specs.Plain.{plain_space}
use Rattle.ps_mem.proofs.SpaceLemmas.{has_room-plain}
use Rattle.ps_mem.proofs.plain.PlainMemoryMemory.need.Goals as goal

-- what is within the size is not past it
not_past : (words : List ℕ) (used next n : ℕ) → used + n ≤ 16777215
    → (heap_in words used next plain_space).space.size < (heap_in words used next plain_space).used + n → ⊥
unfolding heap_in
not_past words used next n within past = absurd (omega (arith, within, past))

pub returns-then-words-size-clause-space : goal.returns-then-words-size-clause-space
returns-then-words-size-clause-space c = let r = c.args.self.now.region in
    (λ _ e. cc, λ _. has_room-plain r.words r.used r.next c.args.words c.args._births)

pub returns-then-words-size-clause-limit : goal.returns-then-words-size-clause-limit
returns-then-words-size-clause-limit c = λ past.
    let r = c.args.self.now.region in
    let limited = r.limited in
    let within = r.within in
    absurd (not_past r.words r.used r.next c.args.words (omega (arith, limited, within)) past)

pub returns-then-words-used-clause-space : goal.returns-then-words-used-clause-space
returns-then-words-used-clause-space c = let r = c.args.self.now.region in
    (λ _ e. cc, λ _. has_room-plain r.words r.used r.next c.args.words c.args._births)

pub returns-then-words-used-clause-memory : goal.returns-then-words-used-clause-memory
unfolding heap_in
returns-then-words-used-clause-memory c = λ _. refl

pub returns-in-Ok-clause-space : goal.returns-in-Ok-clause-space
returns-in-Ok-clause-space c = let r = c.args.self.now.region in
    (λ _ e. cc, λ _. has_room-plain r.words r.used r.next c.args.words c.args._births)

pub returns-in-Ok-clause-limit : goal.returns-in-Ok-clause-limit
returns-in-Ok-clause-limit c = λ past.
    let r = c.args.self.now.region in
    let limited = r.limited in
    let within = r.within in
    absurd (not_past r.words r.used r.next c.args.words (omega (arith, limited, within)) past)

pub returns-in-Err-clause-space : goal.returns-in-Err-clause-space
returns-in-Err-clause-space c = let r = c.args.self.now.region in
    (λ _ e. cc, λ _. has_room-plain r.words r.used r.next c.args.words c.args._births)

pub returns-in-Err-clause-memory : goal.returns-in-Err-clause-memory
unfolding heap_in
returns-in-Err-clause-memory c = λ _. refl

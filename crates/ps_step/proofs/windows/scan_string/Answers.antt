-- What is scanned behind the front of a word is what stands in the string, further on.
use Rattle.std.proofs.Common.{◌+◌, ◌%◌, ◌≤◌, Err, arith, sym, ◌∙◌, subst}
use Rattle.std.specs.Prelude.{⊤}
use Rattle.ps_language.specs.Access.{bytes}
use Rattle.ps_language.specs.Token.{Scan}
use Rattle.ps_mem.specs.Heap.{birth_at}
use Rattle.ps_step.specs.Texts.{IsScanned}
use Rattle.ps_step.proofs.Scanning.{rest_scanned, fronted, token_further, nothing_further, fault_further}
use Rattle.ps_step.proofs.windows.scan_string.Goals as goal

pub returns-in-Ok-Some-clause-scanned : goal.returns-in-Ok-Some-clause-scanned
returns-in-Ok-Some-clause-scanned g c = λ names s shows within.
    let part = c.args.part in
    let low = c.requires.within in
    let all = bytes s (birth_at (g.M.Memory.heap c.args.memory.now) part.address) in
    let near : (part.offset + c.args.at) % 8 ≤ part.offset + c.args.at = omega arith in
    let scanned = rw (c.rest_of-rest.ensures, c.in-Ok-Some.is, c.in-Ok-Some.field-0-is) at
    c.scan_by_windows.ensures.scanned in
    rw (c.moved_token.ensures.kind, c.moved_token.ensures.end)
    (rest_scanned all part.offset part.length c.args.at low within
    ∙ token_further _ c.args.at _ _ _
    (sym (fronted all part.offset part.length c.args.at _ low near within)
    ∙ scanned names s shows (omega (arith, low, near, within))))

pub returns-in-Ok-None-clause-scanned : goal.returns-in-Ok-None-clause-scanned
returns-in-Ok-None-clause-scanned g c = λ names s shows within.
    let part = c.args.part in
    let low = c.requires.within in
    let all = bytes s (birth_at (g.M.Memory.heap c.args.memory.now) part.address) in
    let near : (part.offset + c.args.at) % 8 ≤ part.offset + c.args.at = omega arith in
    let scanned = rw (c.rest_of-rest.ensures, c.in-Ok-None.is, c.in-Ok-None.field-0-is) at
    c.scan_by_windows.ensures.scanned in
    rest_scanned all part.offset part.length c.args.at low within
    ∙ nothing_further _ c.args.at _
    (sym (fronted all part.offset part.length c.args.at _ low near within)
    ∙ scanned names s shows (omega (arith, low, near, within)))

pub returns-in-Err-clause-scanned : goal.returns-in-Err-clause-scanned
returns-in-Err-clause-scanned g c = λ names s shows within.
    let part = c.args.part in
    let low = c.requires.within in
    let all = bytes s (birth_at (g.M.Memory.heap c.args.memory.now) part.address) in
    let near : (part.offset + c.args.at) % 8 ≤ part.offset + c.args.at = omega arith in
    let text = c.scan_by_windows.new.list.items in
    let scanned = rw (c.rest_of-rest.ensures, c.in-Err.is) at c.scan_by_windows.ensures.scanned in
    subst (λ (outcome : Scan). IsScanned ⊤ text (Err c.in-Err.fault) outcome)
    (sym (rest_scanned all part.offset part.length c.args.at low within))
    (fault_further _ c.args.at _ text c.in-Err.fault
    (subst (λ (outcome : Scan). IsScanned ⊤ text (Err c.in-Err.fault) outcome)
    (fronted all part.offset part.length c.args.at _ low near within)
    (scanned names s shows (omega (arith, low, near, within)))))

pub returns-in-Ok-Some-clause-read : goal.returns-in-Ok-Some-clause-read
returns-in-Ok-Some-clause-read g c =
    rw c.rest_of-rest.ensures (rw c.rest_of-rest.ensures at c.scan_by_windows.ensures.read)

pub returns-in-Ok-None-clause-read : goal.returns-in-Ok-None-clause-read
returns-in-Ok-None-clause-read g c =
    rw c.rest_of-rest.ensures (rw c.rest_of-rest.ensures at c.scan_by_windows.ensures.read)

pub returns-in-Err-clause-read : goal.returns-in-Err-clause-read
returns-in-Err-clause-read g c =
    rw c.rest_of-rest.ensures (rw c.rest_of-rest.ensures at c.scan_by_windows.ensures.read)

-- The pair is put, or there is a lack.
use Rattle.std.proofs.Common.{sym}
use Rattle.ps_ops_dictionaries.proofs.Putting.{put_acts, lacking_acts}
use Rattle.ps_ops_dictionaries.proofs.puts.put_planned.Goals as goal

pub returns-in-Ok-clause-acts : goal.returns-in-Ok-clause-acts
returns-in-Ok-clause-acts g c = λ attempt slot room inside.
    let asked = rw (sym slot) at c.asked.ensures.logs in
    let change = rw (sym slot) at c.put.ensures.grants in
    let shows = rw c.asked.ensures.heap at c.put.ensures.shows in
    let keeps = rw c.asked.ensures.heap at c.put.ensures.keeps in
    rw (c.discard.ensures)
    (put_acts _ c.requires.good _ _ _ _ _ c.requires.known c.requires.key c.requires.plan
    c.requires.possible attempt inside room _ _ _ c.put.ensures.sound keeps asked change
    (λ store shown d is. shows _ store shown.shows c.requires.good.names.different (inside store shown).0
    (inside store shown).1 d is))

pub returns-in-Err-clause-acts : goal.returns-in-Err-clause-acts
returns-in-Err-clause-acts g c = λ attempt slot room inside.
    let asked = rw (sym slot) at c.asked.ensures.logs in
    let lack = rw (sym slot, c.records.ensures, c.words.ensures) at c.in-Err.ensures.reason in
    rw (c.asked.ensures.heap)
    (lacking_acts _ c.requires.good _ _ _ _ _ c.requires.known c.requires.key c.requires.plan
    c.requires.possible attempt inside room _ asked _ lack)

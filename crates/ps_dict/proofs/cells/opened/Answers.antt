-- What a word refers to stands, and an access says whether it can be read.
use Rattle.std.proofs.Common.{refl, sym, ap, ◌∙◌}
use Rattle.ps_mem.specs.Heap.{Heap}
use Rattle.ps_dict.specs.Places.{body_at}
use Rattle.ps_dict.proofs.Telling.{dictionary_stands, opens}
use Rattle.ps_dict.proofs.cells.opened.Goals as goal

pub access-access-requires-clause-known : goal.access-access-requires-clause-known
access-access-requires-clause-known g c =
    dictionary_stands (g.M.Memory.heap c.args.memory.now) c.args.word c.requires.held
    c.in_ok-address.address c.in_ok-address.ensures

pub body-body-requires-clause-known : goal.body-body-requires-clause-known
body-body-requires-clause-known g c = rw c.access-access.ensures.heap
    (dictionary_stands (g.M.Memory.heap c.args.memory.now) c.args.word c.requires.held
    c.in_ok-address.address c.in_ok-address.ensures)

pub returns-in-Unlimited-clause-open : goal.returns-in-Unlimited-clause-open
returns-in-Unlimited-clause-open g c =
    opens (g.M.Memory.heap c.args.memory.now) c.args.word c.in_ok-address.address c.body-body.result
    c.access-access.result
    (dictionary_stands (g.M.Memory.heap c.args.memory.now) c.args.word c.requires.held
    c.in_ok-address.address c.in_ok-address.ensures) c.requires.sound c.in_ok-address.ensures
    (c.body-body.ensures.words
    ∙ ap (λ (h : Heap). body_at h c.in_ok-address.address) c.access-access.ensures.heap)
    c.access-access.ensures.words (rw c.in-Unlimited.is refl)

pub returns-in-ReadOnly-clause-open : goal.returns-in-ReadOnly-clause-open
returns-in-ReadOnly-clause-open g c =
    opens (g.M.Memory.heap c.args.memory.now) c.args.word c.in_ok-address.address c.body-body.result
    c.access-access.result
    (dictionary_stands (g.M.Memory.heap c.args.memory.now) c.args.word c.requires.held
    c.in_ok-address.address c.in_ok-address.ensures) c.requires.sound c.in_ok-address.ensures
    (c.body-body.ensures.words
    ∙ ap (λ (h : Heap). body_at h c.in_ok-address.address) c.access-access.ensures.heap)
    c.access-access.ensures.words (rw c.in-ReadOnly.is refl)

pub returns-in-Unlimited-clause-known : goal.returns-in-Unlimited-clause-known
returns-in-Unlimited-clause-known g c =
    dictionary_stands (g.M.Memory.heap c.args.memory.now) c.args.word c.requires.held
    c.in_ok-address.address c.in_ok-address.ensures

pub returns-in-ReadOnly-clause-known : goal.returns-in-ReadOnly-clause-known
returns-in-ReadOnly-clause-known g c =
    dictionary_stands (g.M.Memory.heap c.args.memory.now) c.args.word c.requires.held
    c.in_ok-address.address c.in_ok-address.ensures

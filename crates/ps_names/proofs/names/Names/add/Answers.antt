-- A buffer with the text goes last.
use Rattle.std.proofs.Common.{◌≡◌}
use Rattle.ps_names.proofs.Places.{inserted, names_inserted}
use Rattle.ps_names.proofs.names.Names.add.Goals as goal

pub invariant_of-self-2 : goal.invariant_of-self-2
invariant_of-self-2 c =
    let buffer = c.extend_from_slice.new.self in
    let holds : buffer.items ≡ c.args.text.now =
    rw c.in_ok-owned.ensures.items at c.in_ok-extend_from_slice.ensures.items in
    names_inserted c.self.inside.texts.keys buffer c.args.text.now c.args.self.now c.self.view_is holds c.requires.new
    c.self.invariant c.requires.short c.requires.room _ c.in_ok-insert.ensures.keys

pub returns-clause-added : goal.returns-clause-added
returns-clause-added c =
    let buffer = c.extend_from_slice.new.self in
    let holds : buffer.items ≡ c.args.text.now =
    rw c.in_ok-owned.ensures.items at c.in_ok-extend_from_slice.ensures.items in
    inserted c.self.inside.texts.keys buffer c.args.text.now c.args.self.now c.self.view_is holds c.requires.new _
    c.in_ok-insert.ensures.keys

pub returns-clause-are : goal.returns-clause-are
returns-clause-are c =
    let buffer = c.extend_from_slice.new.self in
    let holds : buffer.items ≡ c.args.text.now =
    rw c.in_ok-owned.ensures.items at c.in_ok-extend_from_slice.ensures.items in
    names_inserted c.self.inside.texts.keys buffer c.args.text.now c.args.self.now c.self.view_is holds c.requires.new
    c.self.invariant c.requires.short c.requires.room _ c.in_ok-insert.ensures.keys

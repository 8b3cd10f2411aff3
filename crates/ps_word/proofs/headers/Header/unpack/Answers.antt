use Rattle.ps_word.proofs.HeaderPlaces.{header-some, header-none}
use Rattle.ps_word.proofs.headers.Header.unpack.Goals as goal

pub returns-in-Some : goal.returns-in-Some
returns-in-Some c = rw c.fields_in.ensures (rw c.birth_in.ensures
    (header-some c.args.word.0 c.kind_of.result (rw c.kind_in.ensures at c.kind_of.ensures)
    c.in-Some.kind c.in-Some.is))

pub returns-in-None : goal.returns-in-None
returns-in-None c = header-none c.args.word.0 c.kind_of.result
    (rw c.kind_in.ensures at c.kind_of.ensures) c.in-None.is

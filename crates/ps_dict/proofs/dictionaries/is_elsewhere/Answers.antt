use Rattle.std.proofs.Common.{◌≡◌, false, not, Some, refl, sym, ap, ◌∙◌, subst}
use Rattle.std.specs.Prelude.{IsSome}
use Rattle.ps_word.specs.Format.{content_in}
use Rattle.ps_mem.specs.Heap.{Heap, Standing, birth_at, object_at}
use Rattle.ps_mem.specs.Marks.{admits}
use Rattle.ps_mem.proofs.MarkLemmas.{headed}
use Rattle.ps_dict.proofs.Marking.{no-key, name-is, not-admitted}
use Rattle.ps_dict.proofs.Shapes.{birth-dictionary}
use Rattle.ps_dict.proofs.dictionaries.is_elsewhere.Goals as goal

pub returns-in-Some-clause-absent : goal.returns-in-Some-clause-absent
returns-in-Some-clause-absent g c = λ e.
    let h = g.M.Memory.heap c.args.memory.now in
    let k = g.M.Memory.heap c.mark-mark.new.self in
    let a = c.args.address in
    let known = c.requires.known in
    let name = c.in-Some.name in
    let mark = c.mark-mark.result in
    let at : object_at k a ≡ Some known.object = ap (λ (x : Heap). object_at x a)
    c.mark-mark.ensures.heap ∙ known.at in
    let (o, there, kind, fields, birth) = headed k a (subst IsSome (sym at) refl) c.header.result
    c.header.ensures.answer in
    let same : o ≡ known.object =
    let both : Some o ≡ Some known.object = sym there ∙ at in cc in
    let born : c.header.result.birth ≡ birth_at h a = birth
    ∙ (ap (λ (x : Standing). x.birth) same ∙ sym (birth-dictionary h a known)) in
    let other : admits mark (birth_at h a) ≡ false = not-admitted (admits mark (birth_at h a))
    (sym (ap not (c.admits.ensures ∙ ap (admits mark) born)) ∙ e) in
    no-key h a known c.requires.sound c.args.key name
    (name-is (content_in c.args.key.0) name (sym c.as_name.ensures ∙ c.in-Some.is)) mark
    c.mark-mark.ensures.tells other

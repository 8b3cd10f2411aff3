use Rattle.std.proofs.Common.{◌≡◌, ◌<◌, ◌+◌, ◌-◌, length, ap, ◌∙◌, sym, arith, Some}
use Rattle.std.specs.Prelude.{slice_get}
use Rattle.ps_mem.proofs.RegionLemmas.{field_place, load-put}
use Rattle.ps_mem.proofs.NewLemmas.{slice_get-index}
use Rattle.ps_mem.proofs.region.Region.load_at.Goals as goal

pub overflow_add-at : goal.overflow_add-at
overflow_add-at c =
    let r = c.args.self.now in
    let inside = field_place r.words r.used r.next r.within r.whole c.args.address
    (c.args.at - c.args.address) c.requires.place in
    omega (arith, inside, r.within, r.limited, c.requires.from)

pub load-requires : goal.load-requires
load-requires c =
    let r = c.args.self.now in
    let inside = field_place r.words r.used r.next r.within r.whole c.args.address
    (c.args.at - c.args.address) c.requires.place in
    omega (arith, inside, r.within, c.requires.from)

pub returns : goal.returns
returns c = λ space.
    let r = c.args.self.now in
    let place = c.args.at - c.args.address in
    let inside = field_place r.words r.used r.next r.within r.whole c.args.address place
    c.requires.place in
    let below : c.args.address + 2 + place < length r.words = omega (arith, inside, r.within) in
    let there : c.args.address + 2 + place ≡ c.args.at + 2 = omega (arith, c.requires.from) in
    let read : slice_get r.words (c.args.address + 2 + place) ≡ Some c.load.result =
    slice_get-index r.words _ below ∙ ap Some (sym (rw there c.load.ensures)) in
    load-put r.words r.used r.next r.within r.whole c.args.address place 0 c.requires.place
    c.load.result space read

-- A text that stands is found, and a new one goes last.
use Rattle.std.proofs.Common.{sym, ◌∙◌, arith, rules}
use Rattle.ps_names.proofs.Places.{known_short, meet_known, long_new, meet_new, next_place, last_stands, last_found}
use Rattle.ps_names.proofs.Places.{kept_number}
use Rattle.ps_names.proofs.names.Names.intern.Goals as goal

pub returns-in-Some-clause-too_long : goal.returns-in-Some-clause-too_long
returns-in-Some-clause-too_long c =
    let short = known_short c.args.text.now c.args.self.now c.in-Some.id.0
    (sym c.in-Some.ensures.place) c.len-place.ensures.names in
    (search rules, λ long. absurd (omega (arith, short, long)))

pub returns-then-text-gt-NAME_LIMIT-clause-known : goal.returns-then-text-gt-NAME_LIMIT-clause-known
returns-then-text-gt-NAME_LIMIT-clause-known c =
    long_new c.args.text.now c.args.self.now c.len-place.ensures.names c.if-text-gt-NAME_LIMIT.true

pub returns-in-Some-clause-names : goal.returns-in-Some-clause-names
returns-in-Some-clause-names c = meet_known c.args.text.now c.args.self.now c.in-Some.id.0 (sym c.in-Some.ensures.place)

pub returns-in-Some-clause-stands : goal.returns-in-Some-clause-stands
returns-in-Some-clause-stands c = c.in-Some.ensures.stands

pub returns-in-Ok-clause-number : goal.returns-in-Ok-clause-number
returns-in-Ok-clause-number c = c.len-place.ensures.count
    ∙ next_place c.args.text.now c.args.self.now (sym c.in_default.ensures.place)

pub returns-in-Ok-clause-names : goal.returns-in-Ok-clause-names
returns-in-Ok-clause-names c = c.in-Ok.ensures.added
    ∙ meet_new c.args.text.now c.args.self.now (sym c.in_default.ensures.place)

pub returns-in-Ok-clause-stands : goal.returns-in-Ok-clause-stands
returns-in-Ok-clause-stands c =
    rw (c.in-Ok.ensures.added, c.len-place.ensures.count)
    (last_stands c.args.text.now c.args.self.now (sym c.in_default.ensures.place))

pub returns-in-Ok-clause-found : goal.returns-in-Ok-clause-found
returns-in-Ok-clause-found c =
    rw (c.in-Ok.ensures.added, c.len-place.ensures.count)
    (last_found c.args.text.now c.args.self.now (sym c.in_default.ensures.place) c.len-place.ensures.names
    c.if-text-gt-NAME_LIMIT.false (omega arith))

pub returns-in-Ok-clause-kept : goal.returns-in-Ok-clause-kept
returns-in-Ok-clause-kept c number within =
    rw c.in-Ok.ensures.added (kept_number c.args.self.now c.args.text.now number within)

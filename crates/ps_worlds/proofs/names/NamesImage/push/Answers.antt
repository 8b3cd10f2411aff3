use Rattle.ps_worlds.proofs.Naming.{push_names}
use Rattle.ps_worlds.proofs.names.NamesImage.push.Goals as goal

pub returns-clause-names : goal.returns-clause-names
returns-clause-names c =
    let before = c.args.self.now in
    push_names before.lengths.items before.bytes.items c.args.name.now c.push.new.self.items
    c.extend_from_slice.new.self.items c.requires.whole c.in_ok-push.ensures.items
    c.in_ok-extend_from_slice.ensures.items

-- The positions, the words and the number of the pairs, store by store.
use Rattle.std.proofs.Common.{arith}
use Rattle.ps_dict.proofs.Appended.{appended-words_stand, appended-words_fit, appended-number_fits, appended-sound, appended-keeps, appended-births, appended-others, appended-shows}
use Rattle.ps_dict.proofs.Probing.{few-places}
use Rattle.ps_dict.proofs.appends.append_pairs.Goals as goal

pub count_with-more-requires : goal.count_with-more-requires
count_with-more-requires g c =
    let few = few-places (g.M.Memory.heap c.args.memory.now) c.args.address c.requires.known
    c.requires.sound in
    let room = c.requires.room in
    let count = c.length-count.ensures.words in
    omega (arith, few, room, count)

pub store-requires-clause-known : goal.store-requires-clause-known
store-requires-clause-known g c =
    appended-words_stand _ _ c.requires.known c.requires.sound _ c.requires.even c.requires.room
    c.requires.held _ c.length-count.ensures.heap _ c.length-count.ensures.words _
    c.body-body.ensures.heap _ c.body-body.ensures.words _ c.count_with-more.ensures.value
    c.count_with-more.ensures.held _ c.index_pairs.ensures.heap

pub store-requires-clause-place : goal.store-requires-clause-place
store-requires-clause-place g c =
    appended-words_fit _ _ c.requires.known c.requires.sound _ c.requires.even c.requires.room
    c.requires.held _ c.length-count.ensures.heap _ c.length-count.ensures.words _
    c.body-body.ensures.heap _ c.body-body.ensures.words _ c.count_with-more.ensures.value
    c.count_with-more.ensures.held _ c.index_pairs.ensures.heap

pub store-requires-2-clause-place : goal.store-requires-2-clause-place
store-requires-2-clause-place g c =
    appended-number_fits _ _ c.requires.known c.requires.sound _ c.requires.even c.requires.room
    c.requires.held _ c.length-count.ensures.heap _ c.length-count.ensures.words _
    c.body-body.ensures.heap _ c.body-body.ensures.words _ c.count_with-more.ensures.value
    c.count_with-more.ensures.held _ c.index_pairs.ensures.heap _
    c.store.ensures.heap

pub returns-clause-sound : goal.returns-clause-sound
returns-clause-sound g c =
    appended-sound _ _ c.requires.known c.requires.sound _ c.requires.even c.requires.room
    c.requires.held _ c.length-count.ensures.heap _ c.length-count.ensures.words _
    c.body-body.ensures.heap _ c.body-body.ensures.words _ c.count_with-more.ensures.value
    c.count_with-more.ensures.held _ c.index_pairs.ensures.heap _
    c.store.ensures.heap _ c.store-2.ensures.heap

pub returns-clause-keeps : goal.returns-clause-keeps
returns-clause-keeps g c =
    appended-keeps _ _ c.requires.known c.requires.sound _ c.requires.even c.requires.room
    c.requires.held _ c.length-count.ensures.heap _ c.length-count.ensures.words _
    c.body-body.ensures.heap _ c.body-body.ensures.words _ c.count_with-more.ensures.value
    c.count_with-more.ensures.held _ c.index_pairs.ensures.heap _
    c.store.ensures.heap _ c.store-2.ensures.heap

pub returns-clause-births : goal.returns-clause-births
returns-clause-births g c =
    appended-births _ _ c.requires.known c.requires.sound _ c.requires.even c.requires.room
    c.requires.held _ c.length-count.ensures.heap _ c.length-count.ensures.words _
    c.body-body.ensures.heap _ c.body-body.ensures.words _ c.count_with-more.ensures.value
    c.count_with-more.ensures.held _ c.index_pairs.ensures.heap _
    c.store.ensures.heap _ c.store-2.ensures.heap

pub returns-clause-others : goal.returns-clause-others
returns-clause-others g c =
    appended-others _ _ c.requires.known c.requires.sound _ c.requires.even c.requires.room
    c.requires.held _ c.length-count.ensures.heap _ c.length-count.ensures.words _
    c.body-body.ensures.heap _ c.body-body.ensures.words _ c.count_with-more.ensures.value
    c.count_with-more.ensures.held _ c.index_pairs.ensures.heap _
    c.store.ensures.heap _ c.store-2.ensures.heap

pub returns-clause-shows : goal.returns-clause-shows
returns-clause-shows g c =
    appended-shows _ _ c.requires.known c.requires.sound _ c.requires.even c.requires.room
    c.requires.held _ c.length-count.ensures.heap _ c.length-count.ensures.words _
    c.body-body.ensures.heap _ c.body-body.ensures.words _ c.count_with-more.ensures.value
    c.count_with-more.ensures.held _ c.index_pairs.ensures.heap _
    c.store.ensures.heap _ c.store-2.ensures.heap

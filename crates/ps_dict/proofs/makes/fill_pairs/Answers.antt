use Rattle.std.proofs.Common.{ℕ, ◌≡◌, ◌<◌, ◌/◌, ◌+◌, ◌*◌, ◌++◌, ◌∙◌, [], ◌∷◌, ap, sym, refl, arith, subst, length, map, take, get_or}
use Rattle.std.proofs.lemmas.List.{take_all, map-append}
use Rattle.ps_language.specs.Value.{Dictionary, Store}
use Rattle.ps_language.specs.Access.{dictionary_at, with_dictionary}
use Rattle.ps_language.specs.Dictionaries.{put_pair, put_pairs}
use Rattle.ps_mem.specs.Heap.{object_at, birth_at, zero_word}
use Rattle.ps_mem.specs.Index.{pairs_of_words}
use Rattle.ps_mem.specs.Meaning.{value_of}
use Rattle.ps_mem.specs.Shows.{IsValue, IsWithin, pair_of, Shows}
use Rattle.ps_mem.proofs.KeepsLemmas.{Extends-same, Keeps-Extends, Keeps-then, IsValue-kept, IsWithin-kept, stands-kept}
use Rattle.ps_language.specs.declared.kinds.Kind.TheVariants.{Dictionary as DictionaryKind}
use Rattle.ps_dict.proofs.Changing.{with_twice, dictionary_at-with, with-lengths}
use Rattle.ps_dict.proofs.Entering.{same-shown}
use Rattle.ps_dict.proofs.Fresh.{put_pairs-more, take-next, all-there, length-in_twos, pair-in_twos}
use Rattle.ps_dict.proofs.Shapes.{there}
use Rattle.ps_dict.proofs.makes.fill_pairs.Goals as goal

pub loop-index-init : goal.loop-index-init
loop-index-init g c = (
  record {
    sound = c.requires.sound;
    keeps = Keeps-Extends (g.M.Memory.heap c.args.memory.now) _
        (Extends-same (g.M.Memory.heap c.args.memory.now));
    births = refl;
    extends = λ f extends free body_free. extends;
    body = refl;
    capacity = refl;
    fewer = omega arith;
    shows = λ names s shows distinct within. same-shown (g.M.Memory.heap c.args.memory.now)
        c.args.address c.requires.known c.requires.sound names s shows;
  },
  refl,
)

pub fill_pair-requires-clause-known : goal.fill_pair-requires-clause-known
fill_pair-requires-clause-known g c =
    stands-kept (g.M.Memory.heap c.args.memory.now) (g.M.Memory.heap c.loop-index.memory)
    c.loop-index.invariant.0.keeps DictionaryKind c.args.address 4 c.requires.known

pub fill_pair-requires-clause-key : goal.fill_pair-requires-clause-key
fill_pair-requires-clause-key g c =
    let old = g.M.Memory.heap c.args.memory.now in
    let now = g.M.Memory.heap c.loop-index.memory in
    let below : 2 * c.loop-index.index < length c.args.words.now = omega arith in
    IsValue-kept old now c.loop-index.invariant.0.keeps
    (get_or c.args.words.now (2 * c.loop-index.index) zero_word)
    (all-there (IsValue old) c.args.words.now (2 * c.loop-index.index) zero_word c.requires.held
    below)

pub fill_pair-requires-clause-value : goal.fill_pair-requires-clause-value
fill_pair-requires-clause-value g c =
    let old = g.M.Memory.heap c.args.memory.now in
    let now = g.M.Memory.heap c.loop-index.memory in
    let below : 2 * c.loop-index.index + 1 < length c.args.words.now = omega arith in
    IsValue-kept old now c.loop-index.invariant.0.keeps
    (get_or c.args.words.now (2 * c.loop-index.index + 1) zero_word)
    (all-there (IsValue old) c.args.words.now (2 * c.loop-index.index + 1) zero_word
    c.requires.held below)

pub loop-index-preserved : goal.loop-index-preserved
loop-index-preserved g c =
    let old = g.M.Memory.heap c.args.memory.now in
    let now = g.M.Memory.heap c.loop-index.memory in
    let new = g.M.Memory.heap c.fill_pair.new.memory in
    let a = c.args.address in
    let begun = c.loop-index.invariant.0 in
    let i = c.loop-index.index in
    let words = c.args.words.now in
    let key = get_or words (2 * i) zero_word in
    let value = get_or words (2 * i + 1) zero_word in
    let pairs = pairs_of_words words in
    let below : i < length words / 2 = omega arith in
    let key_below : 2 * i < length words = omega arith in
    let value_below : 2 * i + 1 < length words = omega arith in
    let key_held : IsValue old key =
    all-there (IsValue old) words (2 * i) zero_word c.requires.held key_below in
    let value_held : IsValue old value =
    all-there (IsValue old) words (2 * i + 1) zero_word c.requires.held value_below in (
      record {
        sound = c.fill_pair.ensures.sound;
        keeps = Keeps-then old now new begun.keeps c.fill_pair.ensures.keeps;
        births = c.fill_pair.ensures.births ∙ begun.births;
        extends = λ f extends free body_free. c.fill_pair.ensures.extends f
            (begun.extends f extends free body_free) free
            (ap (object_at f) begun.body ∙ body_free);
        body = c.fill_pair.ensures.body ∙ begun.body;
        capacity = c.fill_pair.ensures.capacity ∙ begun.capacity;
        fewer = let few = begun.fewer in let more = c.fill_pair.ensures.count in
            omega (arith, few, more);
        shows = λ names s shows distinct within.
            let f = pair_of (birth_at old) names in
            let b = birth_at old a in
            let before = dictionary_at s b in
            let d = record before { pairs = put_pairs before.pairs (map f (take i pairs)) } in
            let t : Store = with_dictionary s b d in
            let at = there old a c.requires.known c.requires.sound names s shows in
            let lengths = with-lengths s b before d at in
            let key_within : IsWithin (birth_at now) names t key =
            IsWithin-kept old now begun.keeps names s t lengths key
            key_held.known (all-there (IsWithin (birth_at old) names s) words (2 * i) zero_word
            within key_below) in
            let value_within : IsWithin (birth_at now) names t value =
            IsWithin-kept old now begun.keeps names s t lengths value
            value_held.known (all-there (IsWithin (birth_at old) names s) words (2 * i + 1)
            zero_word within value_below) in
            let done = c.fill_pair.ensures.shows names t (begun.shows names s shows distinct within)
            distinct key_within value_within in
            let next : map f (take (i + 1) pairs) ≡ map f (take i pairs) ++ f (key, value) ∷ [] =
            ap (map f) (take-next pairs i (key, value) (pair-in_twos words i zero_word below))
            ∙ map-append f (take i pairs) ((key, value) ∷ []) in
            let put : put_pair (put_pairs before.pairs (map f (take i pairs))) (f (key, value)) ≡
            put_pairs before.pairs (map f (take (i + 1) pairs)) =
            sym (put_pairs-more before.pairs (map f (take i pairs)) (f (key, value)))
            ∙ sym (ap (put_pairs before.pairs) next) in
            let is : with_dictionary t b
            (record (dictionary_at t b)
            { pairs = put_pair (dictionary_at t b).pairs (f (key, value)) }) ≡ with_dictionary s b
            (record before { pairs = put_pairs before.pairs (map f (take (i + 1) pairs)) }) =
            ap (λ (x : Dictionary). with_dictionary t b
            (record x { pairs = put_pair x.pairs (f (key, value)) })) (dictionary_at-with s b _ d at)
            ∙ (with_twice s b d (record d { pairs = put_pair d.pairs (f (key, value)) })
            ∙ ap (λ ps. with_dictionary s b (record before { pairs = ps })) put) in
            subst (Shows new names) is
            (subst (λ (births : ℕ → ℕ). Shows new names (with_dictionary t (births a)
            (record (dictionary_at t (births a)) {
              pairs = put_pair (dictionary_at t (births a)).pairs
                  (value_of births names key, value_of births names value);
            }))) begun.births done);
      },
      c.fill_pair.ensures.grants ∙ c.loop-index.invariant.1,
    )

pub returns-clause-shows : goal.returns-clause-shows
returns-clause-shows g c = λ names s shows distinct within.
    let old = g.M.Memory.heap c.args.memory.now in
    let pairs = pairs_of_words c.args.words.now in
    let long = length-in_twos c.args.words.now in
    let all : take c.loop-index.index pairs ≡ pairs =
    take_all c.loop-index.index pairs (omega (arith, long)) in
    let b = birth_at old c.args.address in
    subst (λ ps. Shows (g.M.Memory.heap c.loop-index.memory) names
    (with_dictionary s b (record (dictionary_at s b)
    { pairs = put_pairs (dictionary_at s b).pairs (map (pair_of (birth_at old) names) ps) }))) all
    (c.loop-index.invariant.0.shows names s shows distinct within)

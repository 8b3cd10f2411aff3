-- Objects, their replicas, and what is still to be copied (Nettles and O'Toole, PLDI 1993, 2).
use Rattle.std.specs.Prelude.{ℕ, ◌+◌, ◌-◌, ◌==◌, ◌&&◌, ◌||◌, Bool, true, false, not, nat_le, nat_lt}
use Rattle.std.specs.Prelude.{nat_eq, List, [], ◌∷◌, length, Option, Some, None, max, min, is_some}
use Rattle.std.specs.Prelude.{slice_index_or, slice_set, if◌then◌else◌, find, count_by, map, filter}
use Rattle.std.specs.List.{list_any, list_all}
use Rattle.std.specs.Option.{option_map}
use Rattle.ps_word.specs.Format.{address_in}
use Rattle.ps_word.specs.Headers.{kind_in}
use Rattle.ps_word.specs.Readers.{is_reference, readdressed}
use Rattle.ps_record.specs.declared.Record.{Record}
use Rattle.ps_record.specs.declared.Record.TheVariants.{Place, Close}
use Rattle.ps_core_machine.specs.declared.events.Object.{Object}
use Rattle.ps_core_machine.specs.declared.events.Pair.{Pair}
use Rattle.ps_core_machine.specs.declared.events.Written.{Written}
use Rattle.ps_core_machine.specs.declared.events.Half.{Half}
use Rattle.ps_core_machine.specs.declared.events.Carried.{Carried}
use Rattle.ps_core_machine.specs.declared.events.Seen.{Seen}

-- ---- look-up; where two fit, the first

abbrev pub among : List ℕ → ℕ → Bool
among addresses b = list_any (λ a. nat_eq b a) addresses

abbrev pub object_at : List Object → ℕ → Option Object
object_at objects a = find (λ o. nat_eq a o.address) objects

-- by the original
abbrev pub pair_of : List Pair → ℕ → Option Pair
pair_of pairs a = find (λ p. nat_eq a p.original) pairs

-- by the replica
abbrev pub pair_to : List Pair → ℕ → Option Pair
pair_to pairs c = find (λ p. nat_eq c p.replica) pairs

abbrev pub seen_at : List Seen → ℕ → Option ℕ
seen_at seen place = option_map (λ s. s.word) (find (λ s. nat_eq place s.place) seen)

abbrev pub log_of : List (List Record) → ℕ → List Record
log_of logs slot = slice_index_or logs slot []

-- ---- fields

-- the words of a string are no values; those of every other object are
abbrev pub holds_values : ℕ → Bool
holds_values header = not (kind_in header == 7)

-- the objects after a store to a field
abbrev pub stored : ℕ → ℕ → ℕ → Object → Object
stored a i w o = if nat_eq a o.address then record o { fields = slice_set o.fields i w } else o

abbrev pub with_field : List Object → ℕ → ℕ → ℕ → List Object
with_field objects a i w = map (stored a i w) objects

-- the pairs after a store to a field of the replica of this original; the scan's store fills it
abbrev pub copied_to : ℕ → ℕ → ℕ → Bool → Pair → Pair
copied_to a i w scans p = if nat_eq a p.original then record p {
  fields = slice_set p.fields i w;
  filled = if scans then slice_set p.filled i true else p.filled;
} else p

abbrev pub with_copy : List Pair → ℕ → ℕ → ℕ → Bool → List Pair
with_copy pairs a i w scans = map (copied_to a i w scans) pairs

-- the address that a value names, in a list, and those that values name
abbrev pub address_named : ℕ → List ℕ
address_named w = if is_reference w then address_in w ∷ [] else []

abbrev pub addresses_named : List ℕ → List ℕ
addresses_named words = map address_in (filter is_reference words)

-- ---- renaming

abbrev pub redirected : Option Pair → ℕ → ℕ
redirected None w = w
redirected (Some p) w = readdressed w p.replica

-- a reference to an original becomes one to its replica; every other value stays
abbrev pub renamed_value : List Pair → ℕ → ℕ
renamed_value pairs w = if is_reference w then redirected (pair_of pairs (address_in w)) w else w

-- a word of an object with this header: those of strings stay
abbrev pub renamed : List Pair → ℕ → ℕ → ℕ
renamed pairs header w = if holds_values header then renamed_value pairs w else w

-- the reference, if it is one, has a replica
abbrev pub value_has_replica : List Pair → ℕ → Bool
value_has_replica pairs w = if is_reference w then is_some (pair_of pairs (address_in w)) else true

abbrev pub word_has_replica : List Pair → ℕ → ℕ → Bool
word_has_replica pairs header w = if holds_values header then value_has_replica pairs w else true

abbrev pub values_have_replicas : List Pair → List ℕ → Bool
values_have_replicas pairs words = list_all (λ w. value_has_replica pairs w) words

-- the reference, if it is one, names a standing object
abbrev pub value_stands : List Object → ℕ → Bool
value_stands objects w = if is_reference w then is_some (object_at objects (address_in w)) else true

abbrev pub word_stands : List Object → ℕ → ℕ → Bool
word_stands objects header w = if holds_values header then value_stands objects w else true

abbrev pub values_stand : List Object → List ℕ → Bool
values_stand objects words = list_all (λ w. value_stands objects w) words

-- ---- what is written, logged and taken

abbrev pub is_close : Record → Bool
is_close Close = true
is_close _ = false

-- how many closes a log has
abbrev pub closes : List Record → ℕ
closes log = count_by is_close log

abbrev pub names : Record → ℕ → ℕ → Bool
names (Place a first count) b j = nat_eq b a && (nat_le first j && nat_lt j (first + count))
names Close b j = false

abbrev pub named_in : List Record → ℕ → ℕ → Bool
named_in records b j = list_any (λ r. names r b j) records

abbrev pub is_written : Option Written → ℕ → ℕ → Bool
is_written None b j = false
is_written (Some w) b j = nat_eq b w.address && (nat_le w.first j && nat_lt j (w.first + w.count))

-- a store there is in what is written, or next to it, or nothing is written
abbrev pub adjoins : Option Written → ℕ → ℕ → Bool
adjoins None a i = true
adjoins (Some w) a i =
    nat_eq a w.address && (nat_le w.first (i + 1) && nat_le i (w.first + w.count))

abbrev pub widened : Option Written → ℕ → ℕ → Written
widened None a i = record { address = a; first = i; count = 1 }
widened (Some w) a i = record {
  address = w.address;
  first = min w.first i;
  count = max (w.first + w.count) (i + 1) - min w.first i;
}

-- what is left of a record after some of its fields were loaded
abbrev pub left_of : Record → ℕ → Record
left_of (Place a first count) loaded = Place a (first + loaded) (count - loaded)
left_of Close loaded = Close

abbrev pub is_left : Option Half → ℕ → ℕ → Bool
is_left None b j = false
is_left (Some h) b j = names (left_of h.what h.loaded) b j

-- the next field of a record that is to be loaded
abbrev pub is_next : Record → ℕ → ℕ → ℕ → Bool
is_next (Place a first count) loaded b j =
    nat_eq b a && (nat_eq j (first + loaded) && nat_lt loaded count)
is_next Close loaded b j = false

abbrev pub with_load : Option Half → ℕ → ℕ → Option Half
with_load None b j = None
with_load (Some h) b j = Some (record h {
  loaded = if is_next h.what h.loaded b j then h.loaded + 1 else h.loaded;
})

-- all of its fields are loaded
abbrev pub is_loaded : Record → ℕ → Bool
is_loaded (Place a first count) loaded = nat_le count loaded
is_loaded Close loaded = true

-- being taken from this slot, as a number
abbrev pub half_of : Option Half → ℕ → ℕ
half_of None slot = 0
half_of (Some h) slot = if nat_eq slot h.slot then 1 else 0

-- being copied, of the place that this record names
abbrev pub is_copied_from : Record → Option Carried → Bool
is_copied_from r None = false
is_copied_from r (Some k) = names r k.address k.field

-- the object that it names has no replica
abbrev pub lacks_replica : List Pair → Record → Bool
lacks_replica pairs (Place a first count) = not (is_some (pair_of pairs a))
lacks_replica pairs Close = false

-- nothing of it is left to load or to store, or there is no replica to store to
abbrev pub is_done : List Pair → Option Carried → Option Half → Bool
is_done pairs copying None = false
is_done pairs copying (Some h) =
    (is_loaded h.what h.loaded && not (is_copied_from h.what copying)) || lacks_replica pairs h.what

-- ---- replicas in their space

abbrev pub end_of : Pair → ℕ
end_of p = p.replica + 2 + length p.fields

abbrev pub is_in_replica : List Pair → ℕ → Bool
is_in_replica pairs place = list_any (λ p. nat_le p.replica place && nat_lt place (end_of p)) pairs

abbrev pub all_true : List Bool → Bool
all_true bits = list_all (λ b. b) bits

-- each field of each replica is filled
abbrev pub all_filled : List Pair → Bool
all_filled pairs = list_all (λ p. all_true p.filled) pairs

-- the end of the last replica, or the lowest word where there is none
abbrev pub end_of_replicas : ℕ → List Pair → ℕ
end_of_replicas low [] = low
end_of_replicas low (p ∷ ps) = max (end_of p) (end_of_replicas low ps)

-- the end of the replica that was made last, or the lowest word where there is none
abbrev pub end_of_last : ℕ → List Pair → ℕ
end_of_last low [] = low
end_of_last low (p ∷ ps) = end_of p

-- the replicas as standing objects
abbrev pub as_object : Pair → Object
as_object p = record { address = p.replica; header = p.header; fields = p.fields }

abbrev pub replicas : List Pair → List Object
replicas pairs = map as_object pairs

-- A series cache: the raw texts of a target's last good scrape, in the order in which they came, and those that came since
-- ("Staleness" of the Prometheus documentation).
use Rattle.std.specs.Prelude.{ℕ, Bool, true, false, List, [], map, filter, flat_map, length, take, if◌then◌else◌, option_map}
use Rattle.std.specs.Option.{option_to_list}
use Rattle.std.specs.Map.{lookup}
use Rattle.std.specs.Str.{bytes_eq}
use Rattle.std.specs.declared.option.Option.{Option}
use Rattle.std.specs.declared.option.Option.TheVariants.{None, Some}
use Rattle.label_set.specs.declared.texts.Pair.{Pair}
use Rattle.series_cache.specs.declared.known.Known.{Known}
use Rattle.series_cache.specs.declared.cache.Look.{Look}
use Rattle.series_cache.specs.declared.cache.Look.TheVariants.{Unknown, Dropped, Set}
use Rattle.series_cache.specs.Remembered.{fresh, marked, carried, unmarked}

-- what contracts see of a cache: its texts with what is known of each, and how many of them, in front, are of the last good scrape
pub record CacheView : Type 0 where
  pub texts : List (List ℕ × Known)
  pub kept : ℕ

-- what is known of a text
abbrev pub find : List ℕ → List (List ℕ × Known) → Option Known
find raw ts = lookup (bytes_eq raw) ts

-- the set of a known text, unless it was dropped
abbrev pub look_up : List ℕ → List (List ℕ × Known) → Option (Option (List Pair))
look_up raw ts = option_map (λ (k : Known). k.set) (find raw ts)

-- the same, as a look at a cache answers it
abbrev pub answered : Look → Option (Option (List Pair))
answered Unknown = None
answered Dropped = Some None
answered (Set set) = Some (Some set.now)

-- a text, which was shown where it is this one
abbrev pub stamped : List ℕ → Bool → List ℕ × Known → List ℕ × Known
stamped raw tracked t = if bytes_eq raw t.0 then (t.0, marked tracked t.1) else t

-- a text that a good scrape showed, for the next one
abbrev pub renewed : List ℕ × Known → List ℕ × Known
renewed t = (t.0, carried t.1)

-- a text of the last good scrape after a failed one: none is tracked
abbrev pub failed : List ℕ × Known → List ℕ × Known
failed t = (t.0, fresh t.1.set)

-- a text as it was at the last turn
abbrev pub unshown : List ℕ × Known → List ℕ × Known
unshown t = (t.0, unmarked t.1)

-- the texts that were shown
abbrev pub shown_of : List (List ℕ × Known) → List (List ℕ × Known)
shown_of ts = filter (λ (t : List ℕ × Known). t.1.shown) ts

-- after a good scrape just the texts that it showed remain; after a failed one those of the last good one remain, and none is tracked
abbrev pub turned : Bool → CacheView → CacheView
turned true c = record { texts = map renewed (shown_of c.texts); kept = length (shown_of c.texts) }
turned false c = record { texts = map failed (take c.kept c.texts); kept = c.kept }

-- as it was at the last turn
abbrev pub undone : CacheView → CacheView
undone c = record { texts = map unshown (take c.kept c.texts); kept = c.kept }

-- the set of a text that counts, if it has one
abbrev pub set_if : Bool → Option (List Pair) → List (List Pair)
set_if counts set = if counts then option_to_list set else []

-- the sets of the texts that were tracked in the last turn
abbrev pub was_sets : List (List ℕ × Known) → List (List Pair)
was_sets ts = flat_map (λ (t : List ℕ × Known). set_if t.1.was_tracked t.1.set) ts

-- the sets of the texts that are tracked since
abbrev pub now_sets : List (List ℕ × Known) → List (List Pair)
now_sets ts = flat_map (λ (t : List ℕ × Known). set_if t.1.tracked t.1.set) ts

-- the sets of the texts that were shown
abbrev pub shown_sets : List (List ℕ × Known) → List (List Pair)
shown_sets ts = flat_map (λ (t : List ℕ × Known). set_if t.1.shown t.1.set) ts

-- the sets of all texts
abbrev pub text_sets : List (List ℕ × Known) → List (List Pair)
text_sets ts = flat_map (λ (t : List ℕ × Known). option_to_list t.1.set) ts

-- the sets of the texts of the last good scrape
abbrev pub kept_sets : CacheView → List (List Pair)
kept_sets c = text_sets (take c.kept c.texts)

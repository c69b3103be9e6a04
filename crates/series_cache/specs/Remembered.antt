-- What is remembered of one raw text of a target: its label set, unless it was dropped, and where it stands in the staleness of its series
-- ("Staleness" of the Prometheus documentation: a series that is no longer present ends with a stale marker).
use Rattle.std.specs.Prelude.{Bool, true, false, ◌||◌, List}
use Rattle.std.specs.declared.option.Option.{Option}
use Rattle.label_set.specs.declared.texts.Pair.{Pair}
use Rattle.series_cache.specs.declared.known.Known.{Known}

-- what is known of a text that comes in with this set, or with none: not shown yet
abbrev pub fresh : Option (List Pair) → Known
fresh set = record { set = set; shown = false; tracked = false; was_tracked = false }

-- once its text was shown, as tracked or not
abbrev pub marked : Bool → Known → Known
marked tracked k = record { set = k.set; shown = true; tracked = k.tracked || tracked; was_tracked = k.was_tracked }

-- after a good scrape: what was tracked was so in the last turn
abbrev pub carried : Known → Known
carried k = record { set = k.set; shown = false; tracked = false; was_tracked = k.tracked }

-- without what was shown since the last turn
abbrev pub unmarked : Known → Known
unmarked k = record { set = k.set; shown = false; tracked = false; was_tracked = k.was_tracked }

-- What a store makes of the entries of a book: it keeps the samples of a series whose moments rise.
use Rattle.std.specs.Prelude.{ℕ, Bool, true, false, ◌&&◌, List, [], ◌∷◌, reverse, take, if◌then◌else◌, slice_get}
use Rattle.std.specs.Option.{option_map}
use Rattle.std.specs.declared.option.Option.{Option}
use Rattle.std.specs.declared.option.Option.TheVariants.{None, Some}
use Rattle.std.specs.declared.cmp.Ordering.{Ordering}
use Rattle.std.specs.declared.cmp.Ordering.TheVariants.{Less, Equal, Greater}
use Rattle.std.specs.Ordering.{int_cmp, is_eq}
use Rattle.std.specs.Str.{bytes_eq}
use Rattle.label_set.specs.Sets.{set_cmp}
use Rattle.label_set.specs.declared.texts.Pair.{Pair}
use Rattle.report_samples.specs.declared.entries.Entry.{Entry}
use Rattle.appender_book.specs.declared.verdicts.Verdict.{Verdict}
use Rattle.appender_book.specs.declared.verdicts.Verdict.TheVariants.{Kept, OutOfOrder, Duplicate, Same}

-- both are markers, which have no value, or both values have the same bytes
abbrev pub same_value : Option (List ℕ) → Option (List ℕ) → Bool
same_value None None = true
same_value None (Some v) = false
same_value (Some u) None = false
same_value (Some u) (Some v) = bytes_eq u v

-- a kept entry's moment, compared with that of a later entry of its series; and whether their values are the same
abbrev pub verdict_by : Ordering → Bool → Verdict
verdict_by Less same = Kept
verdict_by Greater same = OutOfOrder
verdict_by Equal same = if same then Same else Duplicate

-- the verdict of an entry, where this one is the last kept one of its series
abbrev pub verdict_after : Option Entry → Entry → Verdict
verdict_after None e = Kept
verdict_after (Some k) e = verdict_by (int_cmp k.moment e.moment) (same_value k.value e.value)

abbrev pub is_kept : Verdict → Bool
is_kept Kept = true
is_kept OutOfOrder = false
is_kept Duplicate = false
is_kept Same = false

-- an entry is of this series
abbrev pub is_of : List Pair → Entry → Bool
is_of series e = is_eq (set_cmp series e.series)

-- the last kept entry of a series, by going back over these entries, of which the last comes first
abbrev pub last_kept : List Pair → List Entry → Option Entry
last_kept series [] = None
last_kept series (e ∷ earlier) =
    if is_of series e && is_kept (verdict_after (last_kept series earlier) e) then Some e
    else last_kept series earlier

-- the verdict of an entry that stands behind these, of which the last comes first
abbrev pub verdict_behind : List Entry → Entry → Verdict
verdict_behind earlier e = verdict_after (last_kept e.series earlier) e

-- the verdict of the entry at a place, counted from 0
unfoldable pub verdict_at : List Entry → ℕ → Option Verdict
verdict_at entries place = option_map (verdict_behind (reverse (take place entries))) (slice_get entries place)

-- What the rows of a body show of raw texts: each text that isn't known is put with its series, and each is stamped as shown.
-- The rules for samples are run once for a text that isn't known ("Configuration" of the Prometheus documentation, scrape_config:
-- metric_relabel_configs).
use Rattle.std.specs.Prelude.{◌≡◌, ℕ, ℤ, Bool, All, List, [], ◌∷◌, ◌++◌, map, Option, is_some, Result, Ok, Err, if◌then◌else◌}
use Rattle.label_set.specs.declared.texts.Pair.{Pair}
use Rattle.rule_conf.specs.declared.conf.RuleConf.{RuleConf}
use Rattle.label_set.specs.declared.forms.Form.{Form}
use Rattle.expo_reader.specs.Bodies.{reading}
use Rattle.expo_reader.specs.declared.rows.BodyRow.{BodyRow}
use Rattle.outside.specs.declared.replies.Reply.{Reply}
use Rattle.sample_rows.specs.Outcomes.{rows_or_fault}
use Rattle.sample_rows.specs.Rows.{is_tracked, row_series}
use Rattle.sample_rows.specs.declared.fault.ScrapeFault.{ScrapeFault}
use Rattle.sample_rows.specs.declared.scrape.RowRules.{RowRules}
use Rattle.scrape_loop.specs.declared.known_rows.ScrapeRules.{ScrapeRules}
use Rattle.series_cache.specs.Caches.{CacheView, find, stamped, undone}
use Rattle.series_cache.specs.Remembered.{fresh}
use Rattle.series_cache.specs.declared.known.Known.{Known}

-- a raw text with what is known of it
abbrev pub Text : Type 0
Text = List ℕ × Known

-- nothing is known
abbrev pub no_texts : CacheView
no_texts = record { texts = []; kept = 0 }

abbrev pub knows : List ℕ → CacheView → Bool
knows raw c = is_some (find raw c.texts)

-- one more text, with its series, or none where it is dropped
abbrev pub with_put : List ℕ → Option (List Pair) → CacheView → CacheView
with_put raw set c = record c { texts = c.texts ++ (raw, fresh set) ∷ [] }

-- a text is shown
abbrev pub with_stamp : List ℕ → Bool → CacheView → CacheView
with_stamp raw tracked c = record c { texts = map (stamped raw tracked) c.texts }

-- nothing was put or shown since the last scrape
abbrev pub IsAtRest : CacheView → Type 0
IsAtRest c = undone c ≡ c

-- the text of a row is put with the row's series, unless it is known
abbrev pub noted : RowRules → List RuleConf → List Pair → CacheView → BodyRow → CacheView
noted rules metric target c r = if knows r.raw c then c else with_put r.raw (row_series rules.honor_labels metric target r) c

-- and it is shown, as tracked where the row tracks its series
abbrev pub shown_row : RowRules → List RuleConf → List Pair → CacheView → BodyRow → CacheView
shown_row rules metric target c r = with_stamp r.raw (is_tracked rules r) (noted rules metric target c r)

-- so for each row, in the order of the body
abbrev pub shown_all : RowRules → List RuleConf → List Pair → CacheView → List BodyRow → CacheView
shown_all rules metric target c [] = c
shown_all rules metric target c (r ∷ rs) = shown_all rules metric target (shown_row rules metric target c r) rs

-- so for the rows of a reply; none is looked at where there is a fault before
abbrev pub texts_by : RowRules → List RuleConf → List Pair → CacheView → Result (List BodyRow) ScrapeFault → CacheView
texts_by rules metric target c (Ok rows) = shown_all rules metric target c rows
texts_by rules metric target c (Err f) = c

-- so for a reply by the terms of its target, and the milliseconds that the fetch took
abbrev pub texts_shown : ScrapeRules → Reply → ℤ → CacheView → CacheView
texts_shown t reply took c = texts_by t.rules.now t.metric.now t.target.now c (rows_or_fault t.rules.now reply took)

-- what is known of a text is the series of each row that has the text
abbrev pub IsRightFor : Bool → List RuleConf → List Pair → Text → BodyRow → Type 0
IsRightFor honor metric target t r = t.0 ≡ r.raw → t.1.set ≡ row_series honor metric target r

-- in every body
abbrev pub IsRight : Bool → List RuleConf → List Pair → Text → Type 0
IsRight honor metric target t =
    (form : Form) (bytes : List ℕ) (rows : List BodyRow) → reading form bytes ≡ Ok rows → All (IsRightFor honor metric target t) rows

-- so for each text
abbrev pub AreRight : Bool → List RuleConf → List Pair → List Text → Type 0
AreRight honor metric target ts = All (IsRight honor metric target) ts

-- What a scrape comes to, by its reply ("Configuration", scrape_config: scrape_timeout, body_size_limit, sample_limit and the limits of labels;
-- "Exposition formats").
use Rattle.std.specs.Prelude.{ℕ, ℤ, Bool, not, List, [], length, ◌==◌, nat_lt, int_lt, Option, Some, None, Ok, Err, Result, if◌then◌else◌}
use Rattle.label_set.specs.declared.texts.Pair.{Pair}
use Rattle.label_set.specs.declared.forms.Form.{Form}
use Rattle.label_set.specs.declared.forms.Form.TheVariants as form
use Rattle.rule_conf.specs.declared.conf.RuleConf.{RuleConf}
use Rattle.scrape_limits.specs.Limits.{body_limit}
use Rattle.expo_reader.specs.Bodies.{reading}
use Rattle.expo_reader.specs.declared.rows.BodyRow.{BodyRow}
use Rattle.outside.specs.declared.replies.Reply.{Reply}
use Rattle.outside.specs.declared.replies.Reply.TheVariants.{Body, Quoted, Lost, Garbled, Unsent, Oversize}
use Rattle.sample_rows.specs.Rows.{Left, left_from, samples_of, rows_fault}
use Rattle.sample_rows.specs.declared.fault.ScrapeFault.{ScrapeFault}
use Rattle.sample_rows.specs.declared.fault.ScrapeFault.TheVariants as fault
use Rattle.sample_rows.specs.declared.scrape.RowRules.{RowRules}
use Rattle.sample_rows.specs.declared.scrape.Sample.{Sample}
use Rattle.sample_rows.specs.declared.scrape.Scrape.{Scrape}
use Rattle.sample_rows.specs.declared.scrape.Scrape.TheVariants.{Good, Bad}

-- a scrape that failed before a row was looked at
abbrev pub failed : ScrapeFault → Scrape
failed f = Bad f 0 0

-- a scrape that wasn't made, since its job has more targets than its limit
abbrev pub forced : Scrape
forced = failed fault.TargetLimit

-- the outcome of so many rows, by the samples that are left of them and their fault
abbrev pub judged : Option ScrapeFault → List Sample → ℕ → Scrape
judged None samples scraped = Good samples scraped
judged (Some f) samples scraped = Bad f scraped (length samples)

abbrev pub of_left : RowRules → List Left → ℕ → Scrape
of_left rules ls scraped = judged (rows_fault rules.limits ls) (samples_of ls) scraped

-- the outcome of the rows of a body
abbrev pub of_rows : RowRules → List RuleConf → List Pair → List BodyRow → Scrape
of_rows rules metric target rows = of_left rules (left_from rules metric target 0 rows) (length rows)

-- the fetch took longer than the timeout, both in milliseconds
abbrev pub is_slow : RowRules → ℤ → Bool
is_slow rules took = int_lt rules.timeout took

-- the fault for which a body with a status and so many bytes isn't read: the first of those of its time, its status and its size
abbrev pub early_read_fault : RowRules → ℕ → ℕ → ℤ → Option ScrapeFault
early_read_fault rules status size took =
    if is_slow rules took then Some fault.Slow
    else if not (status == 200) then Some (fault.Status status)
    else if nat_lt (body_limit rules.limits) size then Some fault.Size
    else None

-- the fault for which the body of a reply isn't read: the first of those of the reply, its time, its status and its size
unfoldable pub early_fault : RowRules → Reply → ℤ → Option ScrapeFault
early_fault rules Lost took = Some fault.Lost
early_fault rules Garbled took = Some fault.Garbled
early_fault rules Unsent took = Some fault.Unsent
early_fault rules Oversize took = if is_slow rules took then Some fault.Slow else Some fault.Size
early_fault rules (Body status bytes) took = early_read_fault rules status (length bytes) took
early_fault rules (Quoted status bytes) took = early_read_fault rules status (length bytes) took

-- the bytes of the body of a reply
abbrev pub body_of : Reply → List ℕ
body_of (Body status bytes) = bytes
body_of (Quoted status bytes) = bytes
body_of _ = []

-- the form in which that is read
abbrev pub form_of : Reply → Form
form_of (Quoted status bytes) = form.Quoted
form_of _ = form.Plain

-- the rows that are read, or the fault that names the first faulty line
abbrev pub or_line : Result (List BodyRow) ℕ → Result (List BodyRow) ScrapeFault
or_line (Ok rows) = Ok rows
or_line (Err line) = Err (fault.Line line)

-- rows, unless there is a fault before they are read
abbrev pub unless_fault : Option ScrapeFault → Result (List BodyRow) ScrapeFault → Result (List BodyRow) ScrapeFault
unless_fault None rows = rows
unless_fault (Some f) rows = Err f

-- the rows of a reply, or the first fault for which none of them is looked at
abbrev pub rows_or_fault : RowRules → Reply → ℤ → Result (List BodyRow) ScrapeFault
rows_or_fault rules reply took = unless_fault (early_fault rules reply took) (or_line (reading (form_of reply) (body_of reply)))

-- the outcome of rows, or of a fault for which none is looked at
abbrev pub of_early : RowRules → List RuleConf → List Pair → Result (List BodyRow) ScrapeFault → Scrape
of_early rules metric target (Ok rows) = of_rows rules metric target rows
of_early rules metric target (Err f) = failed f

-- the outcome of a scrape of a target by its reply and how long that took: the first fault in the order of `ScrapeFault`, or the samples left
unfoldable pub outcome : RowRules → List RuleConf → List Pair → Reply → ℤ → Scrape
outcome rules metric target reply took = of_early rules metric target (rows_or_fault rules reply took)

-- how many rows there are to look at
abbrev pub row_count : Result (List BodyRow) ScrapeFault → ℕ
row_count (Ok rows) = length rows
row_count (Err f) = 0

-- how many rows the rules for samples are run on: all rows of a body that is read, and none of any other reply
unfoldable pub runs : RowRules → Reply → ℤ → ℕ
runs rules reply took = row_count (rows_or_fault rules reply took)

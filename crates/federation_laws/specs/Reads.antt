-- What a server reads that federates ("Federation" of the Prometheus documentation: it scrapes the series that its
-- selectors name; "Exposition formats" for their text).
use Rattle.std.specs.Prelude.{ℕ, List}
use Rattle.expo_reader.specs.Bodies.{lines_of}
use Rattle.expo_reader.specs.Grammar.{AreLines}
use Rattle.federation.specs.Readings.{body_rows}
use Rattle.federation.specs.Texts.{rows_text}
use Rattle.instant_view.specs.declared.rows.ViewRow.{ViewRow}
use Rattle.journal_text.specs.declared.events.Event.{Event}
use Rattle.label_set.specs.declared.forms.Form.TheVariants.{Quoted}
use Rattle.status_server.specs.Federates.{SeesRows}

-- the rows that a request is answered with, behind a journal, are those that its text reads as
abbrev pub FederationReads : Type 0
FederationReads =
    (es : List Event) (query : List ℕ) (rows : List ViewRow) → SeesRows es query rows →
    AreLines Quoted 1 (lines_of (rows_text rows)) (body_rows 1 rows)

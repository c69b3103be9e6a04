-- The rows of a book have a metric name and no label with an empty one, so their text reads as just them.
use Rattle.std.proofs.Common.{◌≡◌, ◌≢◌, ℕ, zero, suc, ◌<◌, ◌||◌, Bool, true, false, List, [], ◌∷◌, length, get_or, arith, subst}
use Rattle.std.specs.Prelude.{All, Some, find, if◌then◌else◌, option_map, slice_get, unwrap_or}
use Rattle.std.specs.List.{list_any}
use Rattle.std.specs.Str.{bytes_eq}
use Rattle.std.proofs.lemmas.Option.{get_or_from_slice_get, slice_get-get_or, slice_get_within}
use Rattle.federation.specs.Readings.{HasMetric, IsNamedText, IsWellFormed, ReadsBack}
use Rattle.instant_view.specs.Selectors.{value_in}
use Rattle.instant_view.specs.Views.{IsRow}
use Rattle.instant_view.specs.declared.rows.ViewRow.{ViewRow}
use Rattle.journal_text.specs.declared.events.Event.{Event}
use Rattle.label_set.specs.SetText.{metric_label}
use Rattle.label_set.specs.Sets.{IsSet}
use Rattle.label_set.specs.declared.texts.Pair.{Pair}
use Rattle.report_samples.specs.declared.entries.Entry.{Entry}
use Rattle.scrape_machine.specs.Machine.{book_of}
use Rattle.named_series.specs.Named.{AreLabelled, AreNamed, HasLabels, HasName}
use Rattle.status_server.specs.Federates.{SeesRows}
use Rattle.federation_laws.specs.Reads.{FederationReads}

-- the series of an entry among some
named_at : (xs : List Entry) (i : ℕ) (d : Entry) → AreNamed xs → i < length xs → HasName (get_or xs i d).series
named_at [] i d a lt = absurd (omega (arith, lt))
named_at (x ∷ xs) zero d a lt = a.0
named_at (x ∷ xs) (suc i) d a lt = named_at xs i d a.1 (omega (arith, lt))

labelled_at : (xs : List Entry) (i : ℕ) (d : Entry) → AreLabelled xs → i < length xs → HasLabels (get_or xs i d).series
labelled_at [] i d a lt = absurd (omega (arith, lt))
labelled_at (x ∷ xs) zero d a lt = a.0
labelled_at (x ∷ xs) (suc i) d a lt = labelled_at xs i d a.1 (omega (arith, lt))

-- a set with a label has its value, which isn't empty
module _ (f : Pair → Bool) where
  abbrev found : List Pair → List ℕ
  found ps = unwrap_or (option_map (λ (p : Pair). p.value) (find f ps)) []

  some : (ps : List Pair) → list_any f ps ≡ true → IsSet ps → found ps ≢ []
  some [] e s = absurd (cc)
  some (p ∷ ps) e s = by (f p) e (λ h. some ps h s.2)
    where
      by : (b : Bool) → (b || list_any f ps) ≡ true → (list_any f ps ≡ true → found ps ≢ [])
          → unwrap_or (option_map (λ (q : Pair). q.value) (if b then Some p else find f ps)) [] ≢ []
      by true h rest = s.0
      by false h rest = rest h

-- a row of a book
module _ (es : List Event) (named : AreNamed (book_of es)) (labelled : AreLabelled (book_of es)) where
  metric : {t : _} (row : ViewRow) → IsRow (book_of es) t row → IsWellFormed row → HasMetric row
  metric row is well =
      let e = is.0 in
      let i = row.place in
      let within : i < length (book_of es) = slice_get_within (book_of es) i e is.1.entry in
      let here : get_or (book_of es) i e ≡ e = get_or_from_slice_get (book_of es) i e e is.1.entry in
      let has_name : HasName row.series =
      subst HasName is.1.series_is (subst (λ (x : Entry). HasName x.series) here (named_at (book_of es) i e named within)) in
      let names : HasLabels row.series =
      subst HasLabels is.1.series_is (subst (λ (x : Entry). HasLabels x.series) here (labelled_at (book_of es) i e labelled within)) in
      record {
        metric = some (λ (p : Pair). bytes_eq p.name metric_label) row.series has_name well.set;
        set = well.set;
        texts = λ k d lt. let texts = well.texts k d lt in record { some = names k d lt; name = texts.name; value = texts.value };
        value = well.value;
        moment = well.moment;
      }

pub reads : ReadsBack → ((es : List Event) → AreNamed (book_of es)) → ((es : List Event) → AreLabelled (book_of es)) → FederationReads
reads back named labelled es query rows s =
    back rows (λ k d lt.
    let row = get_or rows k d in
    metric es (named es) (labelled es) row (s.sees.each row (k, slice_get-get_or rows k d lt)).1 (s.well k d lt))

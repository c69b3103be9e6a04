-- What the laws of `scrape_laws`, which hold of every journal, say of a step: of the journal behind it, and of what its event is to each life.
use Rattle.std.specs.Prelude.{ℕ, List}
use Rattle.label_set.specs.declared.texts.Pair.{Pair}
use Rattle.journal_text.specs.declared.events.Event.{Event}
use Rattle.scrape_machine.specs.Machine.{world_of}
use Rattle.scrape_laws.specs.Markers.{MarkerLaw, ReportMarkerLaw}
use Rattle.scrape_laws.specs.Runs.{ClosedRunsLaw}
use Rattle.scrape_laws.specs.Late.{LateFronts}
use Rattle.scrape_laws.specs.Past.{PastLaw}
use Rattle.scrape_laws.specs.Undisturbed.{NothingLaw, UndisturbedLaw, IdleLaw, RefusedLaw}
use Rattle.scrape_laws.specs.Apart.{ApartLaw, ApartRunsLaw, ReloadLaw}

-- of an event behind a journal, and the journal that ends with it
pub record StepLaws (before : List Event) (e : Event) (after : List Event) : Type 0 where
  -- each closed run of a tracked series in a life has exactly one stale marker, after it, and no marker stands elsewhere
  pub markers : MarkerLaw after
  pub closed_runs : (n : ℕ) (x : List Pair) → ClosedRunsLaw after n x
  -- the report markers are those of endings
  pub report_markers : ReportMarkerLaw after
  -- a finish that doesn't count adds nothing, at each front of the journal
  pub late : LateFronts after
  -- what a life keeps from scrape to scrape is what its scrapes that counted say
  pub past : PastLaw after
  -- an event that is nothing to a life, an idle scan and a refused event leave the life as it is
  pub nothing : NothingLaw (world_of before) e
  pub undisturbed : UndisturbedLaw before e
  pub idle : IdleLaw before e
  pub refused : RefusedLaw before e
  -- lives that meet the same go alike, so that a reload doesn't interrupt the lives that it leaves alone
  pub apart : ApartLaw before e
  pub runs : (other : List Event) → ApartRunsLaw after other
  pub reload : ReloadLaw before e

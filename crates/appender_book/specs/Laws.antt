-- What follows from the definition of the verdicts.
use Rattle.std.specs.Prelude.{◌≡◌, ℕ, ◌<◌, ◌<ℤ◌, List, ◌++◌, length, slice_get, Some}
use Rattle.report_samples.specs.declared.entries.Entry.{Entry}
use Rattle.appender_book.specs.declared.verdicts.Verdict.TheVariants.{Kept}
use Rattle.appender_book.specs.Verdicts.{verdict_at}

-- a verdict stands, whatever is appended later
abbrev pub VerdictsStand : Type 0
VerdictsStand = (entries later : List Entry) (place : ℕ) → place < length entries → verdict_at (entries ++ later) place ≡ verdict_at entries place

-- the kept entries of a series rise: of two, the one that stands first has the earlier moment
abbrev pub KeptRise : Type 0
KeptRise =
    (entries : List Entry) (first second : ℕ) (a b : Entry) → first < second → slice_get entries first ≡ Some a →
    slice_get entries second ≡ Some b →
    a.series ≡ b.series → verdict_at entries first ≡ Some Kept → verdict_at entries second ≡ Some Kept → a.moment <ℤ b.moment

-- Entries that are added one by one.
use Rattle.std.proofs.Common.{◌≡◌, ◌∙◌, ◌++◌, ◌∷◌, [], ℕ, ℤ, List, Some, None, ap, append_assoc, refl}
use Rattle.label_set.specs.declared.texts.Pair.{Pair}
use Rattle.report_samples.specs.declared.entries.Entry.{Entry}
use Rattle.report_samples.specs.declared.scrape_reports.ExtraCounts.{ExtraCounts}
use Rattle.report_samples.specs.declared.scrape_reports.ReportCounts.{ReportCounts}
use Rattle.report_samples.specs.Reports.{extra_entries, first_entries, report_entries}

-- three of them
pub three_pushed : (was one two all : List Entry) (a b c : Entry) → one ≡ was ++ a ∷ [] → two ≡ one ++ b ∷ [] → all ≡ two ++ c ∷ [] → all ≡ was ++ a ∷ b ∷ c ∷ []
three_pushed was one two all a b c first second third =
    third
    ∙ ap (λ (es : List Entry). es ++ c ∷ []) (second ∙ ap (λ (es : List Entry). es ++ b ∷ []) first ∙ append_assoc was (a ∷ []) (b ∷ []))
    ∙ append_assoc was (a ∷ b ∷ []) (c ∷ [])

module _ (life : ℕ) (target : List Pair) (m : ℤ) (c : ReportCounts) where
  -- the five and the extra ones are the reports of a scrape that has counts for these
  pub with_extra : (e : ExtraCounts) → c.extra ≡ Some e → first_entries life target m c ++ extra_entries life target m e ≡ report_entries life target m c
  with_extra e is = rw is refl

  -- and the five of one that has none
  pub without_extra : c.extra ≡ None → first_entries life target m c ≡ report_entries life target m c
  without_extra is = rw is refl

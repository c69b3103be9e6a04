use Rattle.std.proofs.Common.{◌≡◌, ◌++◌, take, drop, sym, ap₂, ◌∙◌}
use Rattle.std.proofs.lemmas.List.{take-append-drop}
use Rattle.std.proofs.lemmas.Slice.Eq.{bytes_eq-Decides}
use Rattle.journal_text.specs.Versions.{first_line}
use Rattle.journal_text.specs.declared.versions.Version.TheVariants.{One, Two}
use Rattle.journal_text.proofs.versions.version_of.Goals as goal

-- a text is what its front and the rest come to
abbrev pub returns-in-Some-strip_prefix : goal.returns-in-Some-strip_prefix
returns-in-Some-strip_prefix c =
    let found = c.in-Some-strip_prefix.ensures.cases in
    let front : take 17 c.args.bytes.now ≡ first_line Two = (bytes_eq-Decides (take 17 c.args.bytes.now) (first_line Two)).0 found.0 in
    sym (take-append-drop 17 c.args.bytes.now) ∙ ap₂ (λ a b. a ++ b) front (sym found.1)

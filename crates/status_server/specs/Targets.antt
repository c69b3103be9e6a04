-- The page of the targets that are scraped ("HTTP API" of the Prometheus documentation, targets: active targets, their labels and their health).
use Rattle.std.specs.Prelude.{ℕ, List, [], ◌∷◌, ◌++◌, map, Option, Some, None, codes}
use Rattle.std.specs.Fmt.{decimal}
use Rattle.std.specs.List.{flat_map}
use Rattle.label_set.specs.SetText.{set_text}
use Rattle.journal_text.specs.declared.events.Event.{Event}
use Rattle.scrape_loop.specs.declared.health.Health.{Health}
use Rattle.scrape_loop.specs.declared.health.Health.TheVariants.{Unknown, Up, Down}
use Rattle.scrape_core.specs.OpenLives.{Shown, open_of, shown}

-- the word of a health, between blanks
abbrev pub word : Health → List ℕ
word Unknown = codes " unknown "
word Up = codes " up "
word Down = codes " down "

-- the line of a target
abbrev pub line : Shown → List ℕ
line t = decimal t.life ++ (word t.health ++ (set_text t.labels ++ (10 ∷ [])))

-- so of one, if there is one
abbrev pub line_of : Option Shown → List ℕ
line_of None = []
line_of (Some t) = line t

-- the page after a journal
abbrev pub page : List Event → List ℕ
page es = flat_map line (map shown (open_of es))

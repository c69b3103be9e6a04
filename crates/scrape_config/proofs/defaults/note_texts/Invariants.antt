use Rattle.std.proofs.Common.{◌≡◌, drop}
use Rattle.serde_json.specs.View.{items_view}
use Rattle.scrape_config.specs.Defaults.{once, texts_of}
use Rattle.scrape_config.proofs.defaults.note_texts.Given as goal

abbrev pub invariant-loop-value : goal.invariant-loop-value
invariant-loop-value l = once l.seen.keys (texts_of (items_view (drop l.value-index l.values))) ≡ once l.initial.seen.keys (texts_of (items_view l.values))

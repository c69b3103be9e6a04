use Rattle.std.proofs.Common.{rules}
use Rattle.std.proofs.lemmas.Slice.Eq.{bytes_eq-Decides}
use Rattle.scrape_config.proofs.settings.is_same_text.Goals as goal

pub returns : goal.returns
returns c = search (rules, bytes_eq-Decides)

use Rattle.scrape_laws.proofs.RunLemmas.{report_marker_law}
use Rattle.scrape_laws.proofs.laws.report_markers.Goals as goal

pub returns : goal.returns
returns c journal = report_marker_law journal

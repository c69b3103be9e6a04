use Rattle.std.proofs.Common.{rules, []}
use Rattle.std.proofs.lemmas.List.{drop_more}
use Rattle.serde_json.specs.View.{items_view}
use Rattle.scrape_config.specs.Defaults.{once, listed_files}
use Rattle.scrape_config.proofs.DefaultLemmas.{files_step}
use Rattle.scrape_config.proofs.defaults.files_in.Goals as goal

pub loop-list-preserved : goal.loop-list-preserved
loop-list-preserved c =
    files_step c.args.lists.now c.loop-list.list-index c.list-item.result c.loop-list.seen.keys c.note_files.new.seen.keys
    (once [] (listed_files (items_view c.args.lists.now))) (search (rules, drop_more)) c.in_ok-note_files.ensures c.loop-list.invariant

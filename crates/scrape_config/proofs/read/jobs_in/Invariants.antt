use Rattle.std.proofs.Common.{◌≡◌, [], ◌++◌, length, drop}
use Rattle.serde_json.specs.View.{items_view}
use Rattle.scrape_config.specs.Lists.{jobs_walk}
use Rattle.scrape_config.specs.Values.{jobs_of}
use Rattle.scrape_config.specs.Reading.{jobs_place, jobs_pattern}
use Rattle.scrape_config.proofs.read.jobs_in.Given as goal

abbrev pub invariant-loop-value : goal.invariant-loop-value
invariant-loop-value l =
    record {
      clean : jobs_walk l.base jobs_place (length l.items.items) (items_view (drop l.value-index l.values)) ≡ [];
      jobs : l.items.items ++ jobs_of l.base (items_view (drop l.value-index l.values)) ≡ jobs_of l.base (items_view l.values);
      first : jobs_pattern (length l.items.items) (jobs_of l.base (items_view (drop l.value-index l.values))) ≡ jobs_pattern 0 (jobs_of l.base (items_view l.values));
    }

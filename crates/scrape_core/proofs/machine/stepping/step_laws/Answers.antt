use Rattle.scrape_machine.specs.Machine.{world_of}
use Rattle.scrape_core.proofs.machine.stepping.step_laws.Goals as goal

pub returns : goal.returns
returns c before e after = record {
  markers = c.markers.ensures after;
  closed_runs = c.closed_runs.ensures after;
  report_markers = c.report_markers.ensures after;
  late = c.late.ensures.fronts after;
  past = c.past.ensures after;
  nothing = c.nothing.ensures.list (world_of before) e;
  undisturbed = c.undisturbed.ensures.nothing before e;
  idle = c.undisturbed.ensures.idle before e;
  refused = c.undisturbed.ensures.refused before e;
  apart = c.lives_apart.ensures.event before e;
  runs = c.lives_apart.ensures.runs after;
  reload = c.reloads.ensures before e;
}

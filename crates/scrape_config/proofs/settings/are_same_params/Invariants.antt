use Rattle.std.proofs.Common.{◌≡◌, take}
use Rattle.scrape_config.proofs.settings.are_same_params.Given as goal

abbrev pub invariant-loop-index : goal.invariant-loop-index
invariant-loop-index l = take l.index l.a ≡ take l.index l.b

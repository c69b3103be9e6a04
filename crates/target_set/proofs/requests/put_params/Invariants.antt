use Rattle.std.proofs.Common.{◌≡◌, map, take}
use Rattle.scrape_config.specs.declared.conf.Param.{Param}
use Rattle.target_set.specs.Requests.{put_all}
use Rattle.target_set.proofs.requests.put_params.Given as goal

abbrev pub invariant-loop-param : goal.invariant-loop-param
invariant-loop-param l = l.names.keys ≡ put_all l.fn.names.keys (map (λ (p : Param). p.name) (take l.param-index l.params))

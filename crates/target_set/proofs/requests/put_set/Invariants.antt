use Rattle.std.proofs.Common.{◌≡◌}
use Rattle.std.specs.List.{filter_map}
use Rattle.label_set.specs.declared.texts.Pair.{Pair}
use Rattle.target_set.specs.Requests.{put_all, param_name}
use Rattle.target_set.proofs.requests.put_set.Given as goal

abbrev pub invariant-loop-label : goal.invariant-loop-label
invariant-loop-label l =
    put_all l.names.keys (filter_map (λ (p : Pair). param_name p.name) l.label-iterator)
    ≡ put_all l.fn.names.keys (filter_map (λ (p : Pair). param_name p.name) l.fn.set)

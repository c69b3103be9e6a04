use Rattle.std.proofs.Common.{◌≡◌, sym, ap, ◌∙◌, All, Some}
use Rattle.std.specs.Prelude.{option_map}
use Rattle.serde_json.specs.View.{view}
use Rattle.scrape_config.specs.Lists.{conf_faults}
use Rattle.scrape_config.specs.Bounds.{IsSound}
use Rattle.scrape_config.specs.Reading.{json_of}
use Rattle.scrape_config.specs.Values.{conf_of}
use Rattle.scrape_config.specs.declared.conf.Conf.{Conf}
use Rattle.config_fields.proofs.FaultLemmas.{reported-none}
use Rattle.scrape_config.proofs.BoundLemmas.{IsBoundedJob, conf_bounded}
use Rattle.scrape_config.proofs.ReadLemmas.{kept_by}
use Rattle.scrape_config.proofs.SoundLemmas.{conf_sound}
use Rattle.scrape_config.proofs.read.read_conf.Goals as goal

pub conf_in-requires : goal.conf_in-requires
conf_in-requires c = record { clean = reported-none (conf_faults (view c.in-Some.value)) (sym c.in_ok-fault.ensures ∙ c.in-None.is) }

pub returns-clause-bounded : goal.returns-clause-bounded
returns-clause-bounded c =
    let d = view c.in-Some.value in
    kept_by (λ (conf : Conf). All IsBoundedJob conf.jobs) (conf_of d) (conf_bounded d) c.conf_in.result c.conf_in.ensures.conf

pub returns-clause-sound : goal.returns-clause-sound
returns-clause-sound c =
    let d = view c.in-Some.value in
    let read : json_of c.args.bytes.now ≡ Some d = sym c.in_ok-value.ensures ∙ ap (option_map view) c.in-Some.is in
    let clean = reported-none (conf_faults d) (sym c.in_ok-fault.ensures ∙ c.in-None.is) in
    kept_by (λ (conf : Conf). All IsSound conf.jobs) (conf_of d) (conf_sound c.args.bytes.now d read clean) c.conf_in.result c.conf_in.ensures.conf

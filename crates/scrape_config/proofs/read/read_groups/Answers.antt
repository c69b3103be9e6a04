use Rattle.std.proofs.Common.{◌≡◌, sym, ap, subst, ◌∙◌, All, Some}
use Rattle.std.specs.Prelude.{option_map}
use Rattle.serde_json.specs.View.{view}
use Rattle.scrape_config.specs.Bounds.{HasLabelNames}
use Rattle.scrape_config.specs.Lists.{groups_faults}
use Rattle.scrape_config.specs.Reading.{json_of}
use Rattle.config_fields.proofs.FaultLemmas.{reported-none}
use Rattle.scrape_config.proofs.SoundLemmas.{groups_sound}
use Rattle.scrape_config.proofs.read.read_groups.Goals as goal

pub returns-clause-sound : goal.returns-clause-sound
returns-clause-sound c =
    let d = view c.in-Some.value in
    let read : json_of c.args.bytes.now ≡ Some d = sym c.in_ok-value.ensures ∙ ap (option_map view) c.in-Some.is in
    let clean = reported-none (groups_faults d) (sym c.in_ok-fault.ensures ∙ c.in-None.is) in
    subst (All HasLabelNames) (sym c.in_ok-file_groups_of-in-None.ensures) (groups_sound c.args.bytes.now c.args.file.now d read clean)

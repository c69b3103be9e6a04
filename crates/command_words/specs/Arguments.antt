-- The arguments of each command, as simple commands of `clap` with no help and no version flag.
use Rattle.std.specs.Prelude.{List, codes, true, Some}
use Rattle.clap.specs.Words.{App, Row, Rule, Text, new_app, new_rule, with_rule, matches_of}
use Rattle.clap.specs.Kinds.{Kinds}
use Rattle.clap.specs.Faults.{fault_of}
use Rattle.clap.specs.declared.builder.action.ArgAction.TheVariants.{SetTrue}
use Rattle.command_words.specs.declared.words.Verb.{Verb}
use Rattle.command_words.specs.declared.words.Verb.TheVariants.{Replay, Check, Convert, At, Synth, Run, Serve}

abbrev pub kept_id : Text
kept_id = codes "kept"

abbrev pub cut_id : Text
cut_id = codes "cut"

abbrev pub file_id : Text
file_id = codes "file"

abbrev pub ms_id : Text
ms_id = codes "ms"

abbrev pub selector_id : Text
selector_id = codes "selector"

abbrev pub seed_id : Text
seed_id = codes "seed"

abbrev pub targets_id : Text
targets_id = codes "targets"

abbrev pub scrapes_id : Text
scrapes_id = codes "scrapes"

abbrev pub turns_id : Text
turns_id = codes "turns"

abbrev pub script_id : Text
script_id = codes "script"

-- `--turns N`
abbrev pub turns_rule : Rule
turns_rule = record (new_rule turns_id) { long = Some (codes "turns"); required = true }

-- a flag, as `--kept` and `--cut`
abbrev pub flag_rule : Text → Rule
flag_rule id = record (new_rule id) { long = Some id; action = Some SetTrue }

-- a word that has to be there, as `FILE`
abbrev pub word_rule : Text → Rule
word_rule id = record (new_rule id) { required = true }

-- a command without arguments
abbrev pub bare_app : Text → App
bare_app name = let a = new_app name in record a { top = record a.top { disable_help_flag = true; disable_version_flag = true } }

-- `replay [--kept] [--cut] FILE`
unfoldable pub replay_app : App
replay_app = with_rule (with_rule (with_rule (bare_app (codes "replay")) (flag_rule kept_id)) (flag_rule cut_id)) (word_rule file_id)

-- `check FILE` and `convert FILE`
unfoldable pub file_app : Text → App
file_app name = with_rule (bare_app name) (word_rule file_id)

-- `at MS SELECTOR FILE`
unfoldable pub at_app : App
at_app = with_rule (with_rule (with_rule (bare_app (codes "at")) (word_rule ms_id)) (word_rule selector_id)) (word_rule file_id)

-- `synth SEED TARGETS SCRAPES`
unfoldable pub synth_app : App
synth_app = with_rule (with_rule (with_rule (bare_app (codes "synth")) (word_rule seed_id)) (word_rule targets_id)) (word_rule scrapes_id)

-- `run --turns N [--kept] FILE`
unfoldable pub run_app : App
run_app = with_rule (with_rule (with_rule (bare_app (codes "run")) turns_rule) (flag_rule kept_id)) (word_rule file_id)

-- `serve SCRIPT FILE`
unfoldable pub serve_app : App
serve_app = with_rule (with_rule (bare_app (codes "serve")) (word_rule script_id)) (word_rule file_id)

abbrev pub app_for : Verb → App
app_for Replay = replay_app
app_for Check = file_app (codes "check")
app_for Convert = file_app (codes "convert")
app_for At = at_app
app_for Synth = synth_app
app_for Run = run_app
app_for Serve = serve_app

-- why the command doesn't take the words, of which the first is its own: nothing where it takes them
unfoldable pub fault_in : Verb → List Text → Kinds
fault_in verb words = fault_of (app_for verb) words

-- the values that its arguments have by the words
unfoldable pub rows_in : Verb → List Text → List Row
rows_in verb words = matches_of (app_for verb) words

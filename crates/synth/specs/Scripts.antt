-- The journal that is made of three numbers: a seed, how many targets there are, and how often each is scraped.
use Rattle.std.specs.Prelude.{ℕ, zero, suc, ◌<◌, ◌≤◌, ◌^◌, ◌+◌, ◌*◌, ◌%◌, List, [], ◌∷◌, ◌++◌, map, flat_map, codes, pos, if◌then◌else◌, ◌==◌}
use Rattle.std.specs.Fmt.{decimal}
use Rattle.outside.specs.declared.replies.Reply.TheVariants.{Body}
use Rattle.journal_text.specs.declared.events.Event.{Event}
use Rattle.journal_text.specs.declared.events.Event.TheVariants.{Load, Sweep, Finish, Halt}
use Rattle.synth.specs.declared.scripts.Plan.{Plan}

-- the numbers below n, rising
unfoldable pub upto : ℕ → List ℕ
upto zero = []
upto (suc n) = upto n ++ n ∷ []

-- `synth_total{code="<200 + i>",path="/p<i>"} <n + i>` and a line feed
abbrev pub sample_line : ℕ → ℕ → List ℕ
sample_line n i =
    codes "synth_total{code=\"" ++ (decimal (200 + i) ++ (codes "\",path=\"/p" ++ (decimal i ++ (codes "\"} " ++ (decimal (n + i) ++ codes "\n")))))

-- that line, but for every tenth
unfoldable pub page_line : ℕ → ℕ → List ℕ
page_line n i = if (n + i) % 10 == 0 then [] else sample_line n i

-- the page of a number: 90 of 100 lines. The page of the next number lacks ten of its series, and has ten that it lacks
unfoldable pub page : ℕ → List ℕ
page n = flat_map (page_line n) (upto 100)

-- `"t<t>:1"`, a comma before each but the first
unfoldable pub target_text : ℕ → List ℕ
target_text t = (if t == 0 then codes "\"t" else codes ",\"t") ++ (decimal t ++ codes ":1\"")

-- one job of so many targets, with a rule that gives each sample the class of its code
unfoldable pub conf_text : ℕ → List ℕ
conf_text targets =
    codes "{\"scrape_configs\":[{\"job_name\":\"synth\",\"scrape_interval\":\"15s\",\"metric_relabel_configs\":[{\"source_labels\":[\"code\"],\"regex\":\"(.).*\",\"target_label\":\"class\",\"replacement\":\"${1}xx\"}],\"static_configs\":[{\"targets\":["
    ++ (flat_map target_text (upto targets) ++ codes "]}]}]}")

-- the scrape s of target t: it took 10 milliseconds and brought its page
abbrev pub reply_event : Plan → ℕ → ℕ → Event
reply_event p s t = Finish (s * p.targets + t) (pos 10) (Body 200 (page (p.seed + t + s)))

-- the scrape s of all targets: a sweep starts them, and each reply comes
unfoldable pub scrape_events : Plan → ℕ → List Event
scrape_events p s = Sweep (pos (15000 * s)) ∷ map (reply_event p s) (upto p.targets)

-- a configuration without jobs is loaded, so that all targets go; a sweep writes their markers, and the end
abbrev pub last_events : ℕ → List Event
last_events end = Load (pos end) (codes "{}") ∷ Sweep (pos (end + 16500)) ∷ Halt (pos (end + 16500)) ∷ []

-- the whole journal
unfoldable pub script_events : Plan → List Event
script_events p = Load (pos 0) (conf_text p.targets) ∷ (flat_map (scrape_events p) (upto p.scrapes) ++ last_events (15000 * p.scrapes))

-- how large a script may be: limits of this project's own
abbrev pub most_targets : ℕ
most_targets = 10000

-- the scrapes of one target
abbrev pub most_scrapes : ℕ
most_scrapes = 1000

-- the scrapes of all targets together
abbrev pub most_scrapes_of_all : ℕ
most_scrapes_of_all = 20000

-- how large its numbers may be
pub record IsPlan (p : Plan) : Type 0 where
  pub seed : p.seed < 2 ^ 32
  pub targets : p.targets ≤ most_targets
  pub scrapes : p.scrapes ≤ most_scrapes

abbrev pub plan : ℕ → ℕ → ℕ → Plan
plan seed targets scrapes = record { seed = seed; targets = targets; scrapes = scrapes }

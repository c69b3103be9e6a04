-- The jobs in force: each is the job of its name, and its rules for samples are built from its settings.
use Rattle.std.proofs.Common.{◌≡◌, ℕ, Bool, true, false, ◌||◌, cond, List, [], ◌∷◌, ◌++◌, map, refl, sym, ap, ap₂, ◌∙◌, subst, None, Some, append_assoc}
use Rattle.std.specs.Prelude.{All, Result, Ok, Err}
use Rattle.std.specs.List.{list_any}
use Rattle.std.specs.Str.{bytes_eq}
use Rattle.std.specs.Cmp.Lexicographic.{bytes_decides}
use Rattle.std.proofs.lemmas.Bool.{false≢true}
use Rattle.std.proofs.lemmas.List.Elements.{All-nil, All-cons, All-head, All-tail}
use Rattle.config_fields.specs.declared.fault.ConfFault.{ConfFault}
use Rattle.journal_text.specs.declared.events.Event.{Event}
use Rattle.journal_text.specs.declared.events.Event.TheVariants.{Load, Targets, Tick, Sweep, Finish, Halt}
use Rattle.scrape_config.specs.Lists.{name_again}
use Rattle.scrape_config.specs.Reading.{whole_reading}
use Rattle.scrape_config.specs.Settings.{Compatible, is_compatible}
use Rattle.scrape_config.specs.declared.conf.Conf.{Conf}
use Rattle.scrape_config.specs.declared.conf.Group.{Group}
use Rattle.scrape_config.specs.declared.conf.Job.{Job}
use Rattle.scrape_config.proofs.SettingLemmas.{compatible_is_decided}
use Rattle.jobs_in_force.specs.declared.jobs.Filed.{Filed}
use Rattle.jobs_in_force.specs.declared.jobs.InForce.{InForce}
use Rattle.jobs_in_force.specs.Jobs.{in_force, is_named, job_named, updated_job, load_crowd, filed_by_load, loaded_by, loaded, renewed, jobs_updated, updated, Unlisted}
use Rattle.scrape_machine.specs.Machine.{after_load, after_update, new_jobs, or_else}
use Rattle.scrape_machine.specs.Machine.{name_of}
use Rattle.scrape_laws.proofs.ConfLemmas.{names_in, IsBuilt, AreSettled, no_fault, settled}

-- the jobs without their targets
abbrev pub jobs_in : List InForce → List Job
jobs_in jobs = map (λ (j : InForce). j.job) jobs

-- a load puts the jobs in force that are read
jobs_filed : (jobs : List InForce) (js : List Job) → jobs_in (map in_force (filed_by_load jobs js)) ≡ js
unfolding in_force
jobs_filed jobs [] = refl
jobs_filed jobs (j ∷ js) = ap (λ (ks : List Job). j ∷ ks) (jobs_filed jobs js)

loaded_from : (jobs : List InForce) (text : List ℕ) (fs : List Filed) (said : Result Conf ConfFault) → whole_reading text ≡ said → loaded_by jobs said ≡ Ok fs →
    AreSettled (jobs_in (map in_force fs))
loaded_from jobs text fs (Err fault) is e = absurd cc
loaded_from jobs text fs (Ok c) is e =
    let parts = no_fault (load_crowd (filed_by_load jobs c.jobs)) (filed_by_load jobs c.jobs) fs e in
    subst AreSettled (sym (jobs_filed jobs c.jobs) ∙ ap (λ (zs : List Filed). jobs_in (map in_force zs)) parts.1) (settled text c is)

load_settled : (jobs : List InForce) (text : List ℕ) (said : Result (List Filed) ConfFault) → loaded jobs text ≡ said → AreSettled (jobs_in jobs) →
    AreSettled (jobs_in (or_else (after_load said) jobs))
unfolding loaded
load_settled jobs text (Err fault) e h = h
load_settled jobs text (Ok fs) e h = loaded_from jobs text fs (whole_reading text) refl e

-- an update leaves them as they are
renewed_same : (name file : List ℕ) (groups : List Group) (j : InForce) → (renewed name file groups j).job ≡ j.job
unfolding in_force
renewed_same name file groups j = by (is_named name j)
  where
    by : (b : Bool) → (cond b (in_force (updated_job name file groups j)) j).job ≡ j.job
    by true = refl
    by false = refl

updated_same : (name file : List ℕ) (groups : List Group) (jobs : List InForce) → jobs_in (jobs_updated jobs name file groups) ≡ jobs_in jobs
unfolding jobs_updated
updated_same name file groups [] = refl
updated_same name file groups (j ∷ js) = ap₂ (λ (k : Job) (ks : List Job). k ∷ ks) (renewed_same name file groups j) (updated_same name file groups js)

update_settled : (jobs : List InForce) (name file : List ℕ) (said : Result (List Group) Unlisted) → AreSettled (jobs_in jobs) →
    AreSettled (jobs_in (or_else (after_update jobs name file said) jobs))
update_settled jobs name file (Err why) h = h
update_settled jobs name file (Ok groups) h = subst AreSettled (sym (updated_same name file groups jobs)) h

pub jobs_settled : (jobs : List InForce) (e : Event) → AreSettled (jobs_in jobs) → AreSettled (jobs_in (or_else (new_jobs jobs e) jobs))
jobs_settled jobs (Load m text) h = load_settled jobs text (loaded jobs text) refl h
jobs_settled jobs (Targets m name file text) h = update_settled jobs name file (updated jobs name file text) h
jobs_settled jobs (Tick m k) h = h
jobs_settled jobs (Sweep m) h = h
jobs_settled jobs (Finish k took r) h = h
jobs_settled jobs (Halt m) h = h

-- no jobs
pub none_settled : AreSettled []
none_settled = record { names = refl; built = All-nil IsBuilt }

-- the job of a name has the name, and is built
pub found_job : (name : List ℕ) (jobs : List InForce) (j : InForce) → job_named name jobs ≡ Some j → All IsBuilt (jobs_in jobs) → (name ≡ name_of j) × IsBuilt j.job
found_job name [] j e h = absurd cc
found_job name (x ∷ xs) j e h = by (bytes_eq name (name_of x)) refl (λ f. found_job name xs j f (All-tail IsBuilt x.job (jobs_in xs) h)) e
  where
    by : (b : Bool) → bytes_eq name (name_of x) ≡ b → (job_named name xs ≡ Some j → (name ≡ name_of j) × IsBuilt j.job) →
        cond b (Some x) (job_named name xs) ≡ Some j → (name ≡ name_of j) × IsBuilt j.job
    by true q later f =
        let same : x ≡ j = cc in
        ((bytes_decides name (name_of x)).0 q ∙ ap name_of same, subst (λ (z : InForce). IsBuilt z.job) same (All-head IsBuilt x.job (jobs_in xs) h))
    by false q later f = later f

-- each job is the one of its name
abbrev pub IsOfName : List InForce → InForce → Type 0
IsOfName jobs j = job_named (name_of j) jobs ≡ Some j

or_parts : (a b : Bool) → (a || b) ≡ false → (a ≡ false) × (b ≡ false)
or_parts true b e = absurd (false≢true (sym e))
or_parts false b e = (refl, e)

first_of_name : (before : List InForce) (j : InForce) (behind : List InForce) → list_any (bytes_eq (name_of j)) (names_in (jobs_in before)) ≡ false →
    IsOfName (before ++ j ∷ behind) j
first_of_name [] j behind e =
    ap (λ (b : Bool). cond b (Some j) (job_named (name_of j) behind)) ((bytes_decides (name_of j) (name_of j)).1 refl)
first_of_name (x ∷ xs) j behind e =
    let parts = or_parts (bytes_eq (name_of j) (name_of x)) (list_any (bytes_eq (name_of j)) (names_in (jobs_in xs))) e in
    ap (λ (b : Bool). cond b (Some x) (job_named (name_of j) (xs ++ j ∷ behind))) parts.0 ∙ first_of_name xs j behind parts.1

names_append : (xs ys : List InForce) → names_in (jobs_in (xs ++ ys)) ≡ names_in (jobs_in xs) ++ names_in (jobs_in ys)
names_append [] ys = refl
names_append (x ∷ xs) ys = ap (λ (names : List (List ℕ)). name_of x ∷ names) (names_append xs ys)

of_names : (before behind : List InForce) → name_again (names_in (jobs_in before)) (names_in (jobs_in behind)) ≡ None → All (IsOfName (before ++ behind)) behind
of_names before [] e = All-nil (IsOfName (before ++ []))
of_names before (j ∷ js) e =
    by (list_any (bytes_eq (name_of j)) (names_in (jobs_in before))) refl
    (λ f. of_names (before ++ j ∷ []) js (ap (λ (seen : List (List ℕ)). name_again seen (names_in (jobs_in js))) (names_append before (j ∷ [])) ∙ f)) e
  where
    by : (b : Bool) → list_any (bytes_eq (name_of j)) (names_in (jobs_in before)) ≡ b →
        (name_again (names_in (jobs_in before) ++ name_of j ∷ []) (names_in (jobs_in js)) ≡ None → All (IsOfName ((before ++ j ∷ []) ++ js)) js) →
        cond b (Some (name_of j)) (name_again (names_in (jobs_in before) ++ name_of j ∷ []) (names_in (jobs_in js))) ≡ None →
        All (IsOfName (before ++ j ∷ js)) (j ∷ js)
    by true q later f = absurd cc
    by false q later f =
        All-cons (IsOfName (before ++ j ∷ js)) j js (first_of_name before j js q)
        (subst (λ (zs : List InForce). All (IsOfName zs) js) (append_assoc before (j ∷ []) js) (later f))

pub each_of_name : (jobs : List InForce) → AreSettled (jobs_in jobs) → All (IsOfName jobs) jobs
each_of_name jobs h = of_names [] jobs h.names

-- two jobs judge rows alike: the labels of targets and rows are joined alike, and the rules for samples are the same; and both have the extra
-- reports or none
abbrev pub JudgeAlike : Job → Job → Type 0
JudgeAlike a b = (a.conf.honor_labels ≡ b.conf.honor_labels) × (a.metric_rules ≡ b.metric_rules) × (a.conf.extra_scrape_metrics ≡ b.conf.extra_scrape_metrics)

pub compatible_alike : (a b : Job) → IsBuilt a → IsBuilt b → is_compatible a.conf b.conf ≡ true → JudgeAlike a b
unfolding Compatible
compatible_alike a b p q e =
    let same = (compatible_is_decided a.conf b.conf).0 e in
    (same.0.1, p ∙ (same.1.2 ∙ sym q), same.0.4)

pub alike_then : (a b c : Job) → JudgeAlike a b → JudgeAlike b c → JudgeAlike a c
alike_then a b c p q = (p.0 ∙ q.0, p.1 ∙ q.1, p.2 ∙ q.2)

-- The kept targets of a job may be asked for their pages: none of them has a cause to refuse it.
use Rattle.std.proofs.Common.{◌≡◌, ℕ, ◌+◌, Bool, true, false, not, cond, List, [], ◌∷◌, ◌++◌, map, flat_map, filter, find, Option, Some, None, is_some, option_map, codes, refl, sym, ap, ap₂, ◌∙◌, subst}
use Rattle.std.specs.Prelude.{All, unwrap_or}
use Rattle.std.specs.Ordering.{is_lt, is_gt}
use Rattle.std.specs.Str.{bytes_eq}
use Rattle.std.proofs.lemmas.Bool.{false≢true}
use Rattle.std.proofs.lemmas.Grind.{flat_map-append}
use Rattle.std.proofs.lemmas.List.Elements.{All-nil, All-cons, All-head, All-tail, All-append, All-filter, All-map}
use Rattle.std.proofs.lemmas.Slice.Eq.{bytes_eq-Decides}
use Rattle.label_set.specs.Bytes.{bytes_cmp}
use Rattle.label_set.specs.Sets.{value_of, below, above, with_label}
use Rattle.label_set.specs.declared.texts.Pair.{Pair}
use Rattle.relabel.specs.Relabelling.{relabelled}
use Rattle.rule_conf.specs.declared.conf.RuleConf.{RuleConf}
use Rattle.scrape_config.specs.declared.conf.Group.{Group}
use Rattle.scrape_config.specs.declared.conf.JobConf.{JobConf}
use Rattle.target_set.specs.Listed.{listed_groups, target_list, sorted_out, target_of, distinct, is_same, kept_in, outcomes_of, group_outcomes}
use Rattle.target_set.specs.Outcomes.{address_cause, begins_with, cause_of, identity_of, judged, judged_by, outcome_of, without_front}
use Rattle.target_set.specs.Prepared.{address_label, prepared, scheme_label, with_default}
use Rattle.target_set.specs.declared.targets.Target.{Target}
use Rattle.target_set.specs.declared.targets.TargetCause.{TargetCause}
use Rattle.jobs_in_force.specs.declared.jobs.Filed.{Filed}
use Rattle.jobs_in_force.specs.declared.jobs.InForce.{InForce}
use Rattle.jobs_in_force.specs.Jobs.{in_force, is_named, jobs_updated, renewed, updated_job}

-- a label set isn't refused as a target
abbrev pub MayBeAsked : List Pair → Type 0
MayBeAsked identity = is_some (cause_of identity) ≡ false

-- the value of a label where some pairs are left out: none of its name, or all of them
module _ (m : List ℕ) (keep : Pair → Bool) where
  value_kept : ((p : Pair) → bytes_eq p.name m ≡ true → keep p ≡ true) → (ps : List Pair) → value_of (filter keep ps) m ≡ value_of ps m
  value_kept all [] = refl
  value_kept all (p ∷ ps) = by (keep p) (bytes_eq p.name m) refl refl (value_kept all ps)
    where
      F : List Pair → Option Pair
      F qs = find (λ (q : Pair). bytes_eq q.name m) qs

      by : (b c : Bool) → keep p ≡ b → bytes_eq p.name m ≡ c → value_of (filter keep ps) m ≡ value_of ps m →
          value_of (cond b (p ∷ filter keep ps) (filter keep ps)) m ≡ option_map (λ (q : Pair). q.value) (cond c (Some p) (F ps))
      by true true h k rest = ap (λ z. option_map (λ (q : Pair). q.value) (cond z (Some p) (F (filter keep ps)))) k
      by true false h k rest = ap (λ z. option_map (λ (q : Pair). q.value) (cond z (Some p) (F (filter keep ps)))) k ∙ rest
      by false true h k rest = absurd (false≢true (sym h ∙ all p k))
      by false false h k rest = rest

  value_gone : ((p : Pair) → bytes_eq p.name m ≡ true → keep p ≡ false) → (ps : List Pair) → value_of (filter keep ps) m ≡ None
  value_gone none [] = refl
  value_gone none (p ∷ ps) = by (keep p) (bytes_eq p.name m) refl refl (value_gone none ps)
    where
      by : (b c : Bool) → keep p ≡ b → bytes_eq p.name m ≡ c → value_of (filter keep ps) m ≡ None →
          value_of (cond b (p ∷ filter keep ps) (filter keep ps)) m ≡ None
      by true true h k rest = absurd (false≢true (sym (none p k) ∙ h))
      by true false h k rest =
          ap (λ z. option_map (λ (q : Pair). q.value) (cond z (Some p) (find (λ (q : Pair). bytes_eq q.name m) (filter keep ps)))) k ∙ rest
      by false c h k rest = rest

-- the first of two values
abbrev first_of : Option (List ℕ) → Option (List ℕ) → Option (List ℕ)
first_of None o = o
first_of (Some v) o = Some v

first_none : (o : Option (List ℕ)) → first_of o None ≡ o
first_none None = refl
first_none (Some v) = refl

value_joined : (m : List ℕ) (xs ys : List Pair) → value_of (xs ++ ys) m ≡ first_of (value_of xs m) (value_of ys m)
value_joined m [] ys = refl
value_joined m (x ∷ xs) ys = by (bytes_eq x.name m) (value_joined m xs ys)
  where
    by : (b : Bool) → value_of (xs ++ ys) m ≡ first_of (value_of xs m) (value_of ys m) →
        option_map (λ (q : Pair). q.value) (cond b (Some x) (find (λ (q : Pair). bytes_eq q.name m) (xs ++ ys)))
        ≡ first_of (option_map (λ (q : Pair). q.value) (cond b (Some x) (find (λ (q : Pair). bytes_eq q.name m) xs))) (value_of ys m)
    by true rest = refl
    by false rest = rest

-- the identity of a target has the labels of its set that say where and how it is scraped
abbrev instance_label : List ℕ
instance_label = codes "instance"

record IsKeptLabel (m : List ℕ) : Type 0 where
  pub lower : is_lt (bytes_cmp m instance_label) ≡ true
  pub not_above : is_gt (bytes_cmp m instance_label) ≡ false
  pub other : bytes_eq instance_label m ≡ false
  pub plain : begins_with (codes "__meta_") m ≡ false

module _ (m : List ℕ) (is : IsKeptLabel m) where
  named : (p : Pair) → bytes_eq p.name m ≡ true → p.name ≡ m
  named p e = (bytes_eq-Decides p.name m).0 e

  below_value : (ps : List Pair) → value_of (below instance_label ps) m ≡ value_of ps m
  below_value ps = value_kept m (λ (p : Pair). is_lt (bytes_cmp p.name instance_label)) (λ p e. ap (λ n. is_lt (bytes_cmp n instance_label)) (named p e) ∙ is.lower) ps

  above_value : (ps : List Pair) → value_of (above instance_label ps) m ≡ None
  above_value ps = value_gone m (λ (p : Pair). is_gt (bytes_cmp p.name instance_label)) (λ p e. ap (λ n. is_gt (bytes_cmp n instance_label)) (named p e) ∙ is.not_above) ps

  with_instance : (ps : List Pair) (value : List ℕ) → value_of (with_label ps instance_label value) m ≡ value_of ps m
  with_instance ps [] =
      value_joined m (below instance_label ps) (above instance_label ps) ∙ ap₂ first_of (below_value ps) (above_value ps) ∙ first_none (value_of ps m)
  with_instance ps (b ∷ bs) =
      let rest : value_of (record { name = instance_label; value = b ∷ bs } ∷ above instance_label ps) m ≡ None =
      ap
      (λ z. option_map (λ (q : Pair). q.value)
      (cond z (Some (let q : Pair = record { name = instance_label; value = b ∷ bs } in q)) (find (λ (q : Pair). bytes_eq q.name m) (above instance_label ps)))) is.other
      ∙ above_value ps
      in
      value_joined m (below instance_label ps) (record { name = instance_label; value = b ∷ bs } ∷ above instance_label ps)
      ∙ ap₂ first_of (below_value ps) rest ∙ first_none (value_of ps m)

  default_value : (ps : List Pair) (value : List ℕ) → value_of (with_default ps instance_label value) m ≡ value_of ps m
  unfolding with_default
  default_value ps value = by (is_some (value_of ps instance_label))
    where
      by : (b : Bool) → value_of (cond b ps (with_label ps instance_label value)) m ≡ value_of ps m
      by true = refl
      by false = with_instance ps value

  identity_value : (set : List Pair) → value_of (identity_of set) m ≡ value_of set m
  unfolding identity_of without_front
  identity_value set =
      let more = with_default set instance_label (unwrap_or (value_of set address_label) []) in
      value_kept m (λ (p : Pair). not (begins_with (codes "__meta_") p.name)) (λ p e. ap (λ n. not (begins_with (codes "__meta_") n)) (named p e) ∙ ap not is.plain) more
      ∙ default_value set (unwrap_or (value_of set address_label) [])

address_kept : IsKeptLabel address_label
unfolding begins_with
address_kept = record { lower = refl; not_above = refl; other = refl; plain = refl }

scheme_kept : IsKeptLabel scheme_label
unfolding begins_with
scheme_kept = record { lower = refl; not_above = refl; other = refl; plain = refl }

same_cause : (set : List Pair) → cause_of (identity_of set) ≡ cause_of set
unfolding cause_of
same_cause set = ap₂ address_cause (identity_value address_label address_kept set) (identity_value scheme_label scheme_kept set)

-- the kept targets of a job
judged_asked : (o : Option (List Pair)) → All MayBeAsked (kept_in (judged o))
judged_asked None = All-nil MayBeAsked
judged_asked (Some set) = by (cause_of set) refl
  where
    by : (c : Option TargetCause) → cause_of set ≡ c → All MayBeAsked (kept_in (judged_by set c))
    by None e = All-cons MayBeAsked (identity_of set) [] (ap is_some (same_cause set ∙ e)) (All-nil MayBeAsked)
    by (Some cause) e = All-nil MayBeAsked

module _ (conf : JobConf) (rules : List RuleConf) where
  texts_asked : (g : Group) (texts : List (List ℕ)) → All MayBeAsked (flat_map kept_in (map (outcome_of conf rules g) texts))
  unfolding outcome_of
  texts_asked g [] = All-nil MayBeAsked
  texts_asked g (t ∷ ts) =
      All-append MayBeAsked (kept_in (outcome_of conf rules g t)) (flat_map kept_in (map (outcome_of conf rules g) ts))
      (judged_asked (relabelled rules (prepared conf g t))) (texts_asked g ts)

  groups_asked : (gs : List Group) → All MayBeAsked (flat_map kept_in (outcomes_of conf rules gs))
  groups_asked [] = All-nil MayBeAsked
  groups_asked (g ∷ gs) =
      subst (All MayBeAsked) (sym (flat_map-append kept_in (group_outcomes conf rules g) (outcomes_of conf rules gs)))
      (All-append MayBeAsked (flat_map kept_in (group_outcomes conf rules g)) (flat_map kept_in (outcomes_of conf rules gs)) (texts_asked g g.targets) (groups_asked gs))

distinct_asked : (xs : List (List Pair)) → All MayBeAsked xs → All MayBeAsked (distinct xs)
distinct_asked [] h = All-nil MayBeAsked
distinct_asked (x ∷ xs) h =
    All-cons MayBeAsked x (filter (λ y. not (is_same x y)) (distinct xs)) (All-head MayBeAsked x xs h)
    (All-filter (λ y. not (is_same x y)) MayBeAsked (distinct xs) (distinct_asked xs (All-tail MayBeAsked x xs h)))

abbrev pub IsAsked : Target → Type 0
IsAsked t = MayBeAsked t.identity

abbrev pub AreAsked : InForce → Type 0
AreAsked j = All IsAsked j.kept

in_force_asked : (f : Filed) → AreAsked (in_force f)
unfolding in_force target_list sorted_out
in_force_asked f =
    let ids = distinct (flat_map kept_in (outcomes_of f.job.conf f.job.target_rules (listed_groups f.job.conf f.files))) in
    All-map IsAsked target_of ids
    (distinct_asked (flat_map kept_in (outcomes_of f.job.conf f.job.target_rules (listed_groups f.job.conf f.files)))
    (groups_asked f.job.conf f.job.target_rules (listed_groups f.job.conf f.files)))

pub filed_asked : (fs : List Filed) → All AreAsked (map in_force fs)
filed_asked [] = All-nil AreAsked
filed_asked (f ∷ fs) = All-cons AreAsked (in_force f) (map in_force fs) (in_force_asked f) (filed_asked fs)

pub renewed_asked : (name file : List ℕ) (groups : List Group) (jobs : List InForce) → All AreAsked jobs → All AreAsked (jobs_updated jobs name file groups)
unfolding jobs_updated
renewed_asked name file groups [] h = All-nil AreAsked
renewed_asked name file groups (j ∷ js) h =
    All-cons AreAsked (renewed name file groups j) (map (renewed name file groups) js) (by (is_named name j))
    (renewed_asked name file groups js (All-tail AreAsked j js h))
  where
    by : (b : Bool) → AreAsked (cond b (in_force (updated_job name file groups j)) j)
    by true = in_force_asked (updated_job name file groups j)
    by false = All-head AreAsked j js h

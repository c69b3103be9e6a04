-- Jobs that list no more targets than they may.
use Rattle.std.proofs.Common.{◌≡◌, ℕ, ◌<◌, ◌≤◌, List, [], ◌∷◌, map, length, get_or, Bool, true, false, cond, refl, sym, ap, ◌∙◌, subst, arith}
use Rattle.std.specs.Prelude.{All, Option, Some, None, Result, Ok, Err, position, nat_lt}
use Rattle.std.specs.List.{list_any, position_or_len, sum_by}
use Rattle.std.specs.Str.{bytes_eq}
use Rattle.std.proofs.lemmas.Bool.{ltb-false}
use Rattle.std.proofs.lemmas.List.{get_or-map, length-map}
use Rattle.std.proofs.lemmas.List.Elements.{All-nil, All-get_or, All-from_get_or}
use Rattle.std.proofs.lemmas.List.Sums.{fails_before_first}
use Rattle.config_fields.specs.Places.{item_place}
use Rattle.config_fields.specs.declared.fault.ConfFault.{ConfFault}
use Rattle.scrape_config.specs.Counts.{most_targets}
use Rattle.scrape_config.specs.Reading.{whole_reading, groups_reading, unless_fault, jobs_place}
use Rattle.scrape_config.specs.declared.conf.Group.{Group}
use Rattle.scrape_config.specs.declared.conf.Conf.{Conf}
use Rattle.jobs_in_force.specs.declared.jobs.Filed.{Filed}
use Rattle.jobs_in_force.specs.declared.jobs.InForce.{InForce}
use Rattle.jobs_in_force.specs.Jobs.{IsFew, is_crowd, count_of, crowd_by, crowd_in, load_crowd, loaded, loaded_by, filed_by_load, UnknownFile, unless_crowd, update_of, updated, groups_or_crowd, filed_by_update, no_place, job_named}

pub few_at : {X : Type 0} (f : X → Filed) (xs : List X) (i : ℕ) (x : X) → i < length xs → x ≡ get_or xs i x → All IsFew (map f xs) → IsFew (f x)
few_at f xs i x lt at a =
    let far : i < length (map f xs) = (let n = length-map xs f in omega arith) in
    subst IsFew (get_or-map f xs i x (f x) lt ∙ ap f (sym at)) (All-get_or IsFew (map f xs) i (f x) far a)

-- where none passes, each fails
none_long : {X : Type 0} (p : X → Bool) (xs : List X) → position p xs ≡ None → length xs ≤ position_or_len p xs
none_long p xs e = by_lt (nat_lt (position_or_len p xs) (length xs)) refl e
  where
    by_lt : (b : Bool) → nat_lt (position_or_len p xs) (length xs) ≡ b → cond b (Some (position_or_len p xs)) None ≡ None → length xs ≤ position_or_len p xs
    by_lt true h e = absurd (cc)
    by_lt false h e = ltb-false (position_or_len p xs) (length xs) h

few_by : (f : Filed) → is_crowd f ≡ false → IsFew f
unfolding is_crowd
few_by f h = ltb-false most_targets (count_of f) h

few_all : (fs : List Filed) → position is_crowd fs ≡ None → All IsFew fs
few_all [] e = All-nil IsFew
few_all (f ∷ fs) e =
    let far = none_long is_crowd (f ∷ fs) e in
    All-from_get_or IsFew (f ∷ fs) f (λ i lt. few_by _ (fails_before_first is_crowd (f ∷ fs) i f (omega arith)))

crowd_none : (at : ℕ → List ℕ) (fs : List Filed) → crowd_in at fs ≡ None → All IsFew fs
unfolding crowd_in
crowd_none at fs e = by_place (position is_crowd fs) refl e
  where
    by_place : (o : Option ℕ) → position is_crowd fs ≡ o → crowd_by at (sum_by count_of fs) o ≡ None → All IsFew fs
    by_place None h e = few_all fs h
    by_place (Some n) h e = absurd (cc)

load_none : (fs : List Filed) → load_crowd fs ≡ None → All IsFew fs
unfolding load_crowd
load_none fs e = crowd_none (item_place jobs_place) fs e

-- the jobs of a load that is taken
pub loaded_few : (jobs : List InForce) (text : List ℕ) (fs : List Filed) → loaded jobs text ≡ Ok fs → All IsFew fs
unfolding loaded
loaded_few jobs text fs h = by_reading (whole_reading text) h
  where
    by_crowd : (gs : List Filed) (o : Option ConfFault) → load_crowd gs ≡ o → unless_fault o gs ≡ Ok fs → All IsFew fs
    by_crowd gs None e h = let same : gs ≡ fs = cc in subst (All IsFew) same (load_none gs e)
    by_crowd gs (Some fault) e h = absurd (cc)

    by_reading : (r : Result Conf ConfFault) → loaded_by jobs r ≡ Ok fs → All IsFew fs
    by_reading (Err fault) h = absurd (cc)
    by_reading (Ok c) h = by_crowd (filed_by_load jobs c.jobs) (load_crowd (filed_by_load jobs c.jobs)) refl h

-- those of an update that is taken
pub updated_few : (jobs : List InForce) (name file text : List ℕ) (groups : List Group) → updated jobs name file text ≡ Ok groups →
    All IsFew (filed_by_update jobs name file groups)
unfolding updated
updated_few jobs name file text groups h = by_job (job_named name jobs) h
  where
    by_crowd : (gs : List Group) (o : Option ConfFault) → crowd_in no_place (filed_by_update jobs name file gs) ≡ o → unless_crowd o gs ≡ Ok groups →
        All IsFew (filed_by_update jobs name file groups)
    by_crowd gs None e h =
        let same : gs ≡ groups = cc in
        subst (λ (zs : List Group). All IsFew (filed_by_update jobs name file zs)) same (crowd_none no_place (filed_by_update jobs name file gs) e)
    by_crowd gs (Some fault) e h = absurd (cc)

    by_groups : (r : Result (List Group) ConfFault) → groups_or_crowd jobs name file r ≡ Ok groups → All IsFew (filed_by_update jobs name file groups)
    by_groups (Err fault) h = absurd (cc)
    by_groups (Ok gs) h = by_crowd gs (crowd_in no_place (filed_by_update jobs name file gs)) refl h

    by_file : (b : Bool) → cond b (groups_or_crowd jobs name file (groups_reading file text)) (Err UnknownFile) ≡ Ok groups → All IsFew (filed_by_update jobs name file groups)
    by_file true h = by_groups (groups_reading file text) h
    by_file false h = absurd (cc)

    by_job : (o : Option InForce) → update_of jobs name file text o ≡ Ok groups → All IsFew (filed_by_update jobs name file groups)
    by_job None h = absurd (cc)
    by_job (Some j) h = by_file (list_any (bytes_eq file) j.job.conf.files) h

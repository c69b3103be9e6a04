-- How many targets the job of an update lists, and those of a load.
use Rattle.std.proofs.Common.{◌≡◌, ℕ, zero, suc, ◌+◌, ◌<◌, ◌≤◌, List, [], ◌∷◌, map, take, length, get_or, Bool, true, cond, refl, sym, ap, ◌∙◌, arith}
use Rattle.std.specs.Prelude.{IfOk, Result, Ok, Err}
use Rattle.std.specs.List.{sum_by}
use Rattle.std.proofs.lemmas.List.Sums.{sum_by-cons}
use Rattle.scrape_config.specs.declared.conf.Group.{Group}
use Rattle.jobs_in_force.specs.declared.jobs.Filed.{Filed}
use Rattle.jobs_in_force.specs.declared.jobs.InForce.{InForce}
use Rattle.jobs_in_force.specs.Jobs.{count_of, in_force, is_named, renewed, updated_job}
use Rattle.jobs_in_force.specs.Listed.{listed_by, listed_in, named_count}

named_listed : (name : List ℕ) (k : InForce) → is_named name k ≡ true → named_count name k ≡ listed_in k
named_listed name k h = ap (λ (b : Bool). cond {A = ℕ} b (listed_in k) 0) h

in_force_named : (name : List ℕ) (j : InForce) (f : Filed) → is_named name j ≡ true → f.job ≡ j.job → is_named name (in_force f) ≡ true
unfolding in_force
in_force_named name j f h e = ap (λ x. is_named name (record j { job = x })) e ∙ h

-- the job that an update renews keeps its name
pub renewed_listed : {E : Type 0} (name : List ℕ) (j : InForce) (f : Filed) (n m : ℕ) (r : Result InForce E) → is_named name j ≡ true → f.job ≡ j.job →
    IfOk r (λ k. k ≡ in_force f) → IfOk r (λ k. n ≡ m + listed_in k) → IfOk r (λ k. n ≡ m + named_count name k)
renewed_listed name j f n m (Ok k) h e is s = s ∙ ap (λ x. m + x) (sym (named_listed name k (ap (is_named name) is ∙ in_force_named name j f h e)))
renewed_listed name j f n m (Err x) h e is s = tt

-- its steps are no more than the targets that it lists
in_force_listed : (f : Filed) → listed_in (in_force f) ≡ count_of f
unfolding in_force
in_force_listed f = refl

pub renewed_most : (name file : List ℕ) (groups : List Group) (j : InForce) (f : Filed) (n m : ℕ) → is_named name j ≡ true → f ≡ updated_job name file groups j →
    n ≤ m + count_of f → n ≤ m + named_count name (renewed name file groups j)
renewed_most name file groups j f n m h e le =
    let is : renewed name file groups j ≡ in_force f = ap (λ (b : Bool). cond b (in_force (updated_job name file groups j)) j) h ∙ ap in_force (sym e) in
    let count : named_count name (renewed name file groups j) ≡ count_of f =
    ap (named_count name) is ∙ named_listed name (in_force f) (in_force_named name j f h (ap (λ (x : Filed). x.job) e)) ∙ in_force_listed f
    in
    omega (arith, le, count)

-- a sum of some and one more, and that of all
sum_step : {A B : Type 0} (f : B → ℕ) (r : A → B) (xs : List A) (i : ℕ) (x : A) → i < length xs → x ≡ get_or xs i x →
    sum_by f (map r (take i xs)) + f (r x) ≤ sum_by f (map r xs)
sum_step f r [] i x lt at = absurd (omega arith)
sum_step f r (y ∷ xs) zero x lt at =
    let e : f (r x) ≡ f (r y) = ap (λ z. f (r z)) at in
    omega (arith, e, sum_by-cons f (r y) (map r xs))
sum_step f r (y ∷ xs) (suc i) x lt at =
    let rest = sum_step f r xs i x (omega (arith, lt)) at in
    omega (arith, rest, sum_by-cons f (r y) (map r xs), sum_by-cons f (r y) (map r (take i xs)))

pub one_most : {A : Type 0} (f : InForce → ℕ) (r : A → InForce) (xs : List A) (i : ℕ) (x : A) (jobs : List InForce) (start before now : ℕ) → i < length xs → x ≡ get_or xs i x →
    jobs ≡ map r (take i xs) → before ≡ start + sum_by f jobs → now ≤ before + f (r x) → now ≤ start + sum_by f (map r xs)
one_most f r xs i x jobs start before now lt at is was le =
    let step = sum_step f r xs i x lt at in
    let sum = ap (sum_by f) is in
    omega (arith, step, sum, was, le)

same_list : {A : Type 0} (xs : List A) → map (λ x. x) xs ≡ xs
same_list [] = refl
same_list (x ∷ xs) = ap (λ ys. x ∷ ys) (same_list xs)

pub load_most : (fs ys : List Filed) (f : Filed) (jobs : List InForce) (start before now : ℕ) → map (λ x. x) ys ≡ take (length ys) fs → length ys < length fs →
    f ≡ get_or fs (length ys) f → jobs ≡ map in_force ys → before ≡ start + listed_by jobs → now ≤ before + count_of f → now ≤ start + listed_by (map in_force fs)
load_most fs ys f jobs start before now so_far lt at is was le =
    one_most listed_in in_force fs (length ys) f jobs start before now lt at (is ∙ ap (map in_force) (sym (same_list ys) ∙ so_far)) was (omega (arith, le, in_force_listed f))

-- Labels that are set where nothing else is set are labels over which the others are put.
use Rattle.std.proofs.Common.{◌≡◌, ◌≢◌, ℕ, suc, ◌+◌, ◌-◌, ◌<◌, length, get_or, drop, drop-cons, append_assoc, arith, Bool, true, false, cond, List, [], ◌∷◌, ◌++◌, refl, ap, sym, ◌∙◌, subst, All, codes, Option, Some, None}
use Rattle.std.specs.Prelude.{is_some, find, option_map, if◌then◌else◌}
use Rattle.std.specs.List.{list_all}
use Rattle.std.specs.Str.{bytes_eq}
use Rattle.std.specs.declared.cmp.Ordering.TheVariants.{Less}
use Rattle.std.proofs.lemmas.List.Elements.{All-head, All-tail}
use Rattle.std.proofs.lemmas.Slice.Eq.{bytes_eq-Decides}
use Rattle.label_set.specs.Bytes.{bytes_cmp, is_name_byte}
use Rattle.label_set.specs.Sets.{IsSet, value_of, with_label}
use Rattle.label_set.specs.Lasts.{with_labels}
use Rattle.label_set.specs.declared.texts.Pair.{Pair}
use Rattle.label_set.proofs.SetLemmas.{with_label_is_set}
use Rattle.label_set.proofs.LookLemmas.{look, setting, IsAbsent, not_less, look-with_label, look-with_labels, with_labels_is_set}
use Rattle.label_set.proofs.OfLemmas.{set_ext}
use Rattle.scrape_config.specs.declared.conf.Group.{Group}
use Rattle.scrape_config.specs.declared.conf.Param.{Param}
use Rattle.scrape_config.specs.declared.conf.JobConf.{JobConf}
use Rattle.outside.specs.Schemes.{scheme_text}
use Rattle.target_set.specs.Prepared.{address_label, scheme_label, path_label, param_prefix, with_file, listed_set, with_default, with_first, with_params, with_defaults, prepared}
use Rattle.target_set.specs.Walk.{valued, first_label, param_labels, default_labels, default_set, group_set, group_base}

-- a value, or what stands in its place where it is empty
abbrev or_else : List ℕ → List ℕ → List ℕ
or_else [] w = w
or_else (b ∷ bs) w = b ∷ bs

or_none : (v : List ℕ) → or_else v [] ≡ v
or_none [] = refl
or_none (b ∷ bs) = refl

or_again : (u v w : List ℕ) → or_else (or_else u v) w ≡ or_else u (or_else v w)
or_again [] v w = refl
or_again (b ∷ bs) v w = refl

or_some : (v w : List ℕ) → v ≢ [] → or_else v w ≡ v
or_some [] w h = absurd (h refl)
or_some (b ∷ bs) w h = refl

setting_append : (v : List ℕ) (ps qs : List Pair) (m : List ℕ) → setting v (ps ++ qs) m ≡ setting (setting v ps m) qs m
unfolding setting
setting_append v [] qs m = refl
setting_append v (p ∷ ps) qs m = setting_append (cond (bytes_eq p.name m) p.value v) ps qs m

setting_absent : (v : List ℕ) (ps : List Pair) (m : List ℕ) → IsAbsent m ps → setting v ps m ≡ v
unfolding setting
setting_absent v [] m h = refl
setting_absent v (p ∷ ps) m h = ap (λ b. setting (cond b p.value v) ps m) h.0 ∙ setting_absent v ps m h.1

-- labels that are put in last, one at most for a name
setting_valued : (v name value m : List ℕ) → setting v (valued name value) m ≡ or_else (setting [] (valued name value) m) v
unfolding setting
setting_valued v name [] m = refl
setting_valued v name (b ∷ bs) m = by (bytes_eq name m)
  where
    by : (c : Bool) → cond c (b ∷ bs) v ≡ or_else (cond c (b ∷ bs) []) v
    by true = refl
    by false = refl

abbrev no_bytes : List ℕ
no_bytes = []

valued_looks : (name value m : List ℕ) → setting [] (valued name value) m ≡ cond (bytes_eq name m) value []
unfolding setting
valued_looks name [] m = by (bytes_eq name m)
  where
    by : (c : Bool) → no_bytes ≡ cond c no_bytes no_bytes
    by true = refl
    by false = refl
valued_looks name (b ∷ bs) m = refl

-- no label of a set that comes later has the name of the first
later_absent : (n : List ℕ) (ps : List Pair) → All (λ (q : Pair). bytes_cmp n q.name ≡ Less) ps → IsAbsent n ps
later_absent n [] h = tt
later_absent n (q ∷ qs) h = (differs n q.name (not_less n q.name (All-head (λ (q : Pair). bytes_cmp n q.name ≡ Less) q qs h)), later_absent n qs (All-tail (λ (q : Pair). bytes_cmp n q.name ≡ Less) q qs h))
  where
    unlike : (c : Bool) (xs ys : List ℕ) → bytes_eq ys xs ≡ c → bytes_eq xs ys ≡ false → c ≡ false
    unlike true xs ys e h = absurd (let yes = (bytes_eq-Decides xs ys).1 (sym ((bytes_eq-Decides ys xs).0 e)) in cc)
    unlike false xs ys e h = refl

    differs : (xs ys : List ℕ) → bytes_eq xs ys ≡ false → bytes_eq ys xs ≡ false
    differs xs ys h = unlike (bytes_eq ys xs) xs ys refl h

-- a set that is put over others: its own values stand
set_by : (v : List ℕ) (p : Pair) (ps : List Pair) (m : List ℕ) → IsSet (p ∷ ps) → (b : Bool) → bytes_eq p.name m ≡ b → setting v ps m ≡ or_else (look ps m) v →
    setting (cond b p.value v) ps m ≡ or_else (cond b p.value (look ps m)) v
set_by v p ps m s true e later =
    let same : p.name ≡ m = (bytes_eq-Decides p.name m).0 e in
    setting_absent p.value ps m (subst (λ n. IsAbsent n ps) same (later_absent p.name ps s.1)) ∙ sym (or_some p.value v s.0)
set_by v p ps m s false e later = later

setting_set : (v : List ℕ) (ps : List Pair) (m : List ℕ) → IsSet ps → setting v ps m ≡ or_else (look ps m) v
unfolding setting look
setting_set v [] m s = refl
setting_set v (p ∷ ps) m s = set_by v p ps m s (bytes_eq p.name m) refl (setting_set v ps m s.2)

-- a value is there, or none
abbrev MatchValue : Bool → List ℕ → Type 0
MatchValue true v = v ≢ []
MatchValue false v = v ≡ []

-- what a set has for a name
value_there : (b : Bool) (v : List ℕ) → v ≢ [] → true ≡ b → MatchValue b v
value_there true v h e = h
value_there false v h e = absurd cc

first_by : (p : Pair) (ps : List Pair) (n : List ℕ) (b c : Bool) → p.value ≢ [] → (is_some (value_of ps n) ≡ b → MatchValue b (look ps n)) →
    is_some (option_map (λ (q : Pair). q.value) (cond c (Some p) (find (λ (q : Pair). bytes_eq q.name n) ps))) ≡ b → MatchValue b (cond c p.value (look ps n))
first_by p ps n b true h later e = value_there b p.value h e
first_by p ps n b false h later e = later e

has_by : (ps : List Pair) (n : List ℕ) (b : Bool) → IsSet ps → is_some (value_of ps n) ≡ b → MatchValue b (look ps n)
unfolding look
has_by [] n true s e = absurd cc
has_by [] n false s e = refl
has_by (p ∷ ps) n b s e = first_by p ps n b (bytes_eq p.name n) s.0 (has_by ps n b s.2) e

-- a name with a value, where the set has none for it
module _ (set : List Pair) (s : IsSet set) (name value m : List ℕ) where
  own : (b : Bool) → bytes_eq name m ≡ b → look set name ≢ [] → look set m ≡ or_else (look set m) (cond b value [])
  own true e h =
      let same : name ≡ m = (bytes_eq-Decides name m).0 e in
      sym (or_some (look set m) value (subst (λ n. look set n ≢ []) same h))
  own false e h = sym (or_none (look set m))

  given : (b : Bool) → bytes_eq name m ≡ b → look set name ≡ [] → cond b value (look set m) ≡ or_else (look set m) (cond b value [])
  given true e h =
      let same : name ≡ m = (bytes_eq-Decides name m).0 e in
      ap (λ v. or_else v value) (sym (ap (look set) (sym same) ∙ h))
  given false e h = sym (or_none (look set m))

  default_by : (b : Bool) → MatchValue b (look set name) → look (if b then set else with_label set name value) m ≡ or_else (look set m) (cond (bytes_eq name m) value [])
  default_by true h = own (bytes_eq name m) refl h
  default_by false h = look-with_label set name value m ∙ given (bytes_eq name m) refl h

  look_default : look (with_default set name value) m ≡ or_else (look set m) (setting [] (valued name value) m)
  unfolding with_default
  look_default =
      default_by (is_some (value_of set name)) (has_by set name (is_some (value_of set name)) s refl)
      ∙ ap (or_else (look set m)) (sym (valued_looks name value m))

default_set_by : (set : List Pair) (name value : List ℕ) (b : Bool) → IsSet set → IsSet (if b then set else with_label set name value)
default_set_by set name value true s = s
default_set_by set name value false s = with_label_is_set name set s value

default_is_set : (set : List Pair) (name value : List ℕ) → IsSet set → IsSet (with_default set name value)
unfolding with_default
default_is_set set name value s = default_set_by set name value (is_some (value_of set name)) s

-- the first value of a parameter
module _ (set : List Pair) (s : IsSet set) (name : List ℕ) where
  look_by : (b : Bool) (v m : List ℕ) → look (if b then with_default set (param_prefix ++ name) v else set) m ≡ or_else (look set m) (setting [] (if b then valued (param_prefix ++ name) v else []) m)
  unfolding setting
  look_by true v m = look_default set s (param_prefix ++ name) v m
  look_by false v m = sym (or_none (look set m))

  look_first_value : (values : List (List ℕ)) (m : List ℕ) → look (with_first set name values) m ≡ or_else (look set m) (setting [] (first_label name values) m)
  unfolding setting
  look_first_value [] m = sym (or_none (look set m))
  look_first_value (v ∷ vs) m = look_by (list_all is_name_byte name) v m

  first_set_by : (b : Bool) (v : List ℕ) → IsSet (if b then with_default set (param_prefix ++ name) v else set)
  first_set_by true v = default_is_set set (param_prefix ++ name) v s
  first_set_by false v = s

  first_is_set : (values : List (List ℕ)) → IsSet (with_first set name values)
  first_is_set [] = s
  first_is_set (v ∷ vs) = first_set_by (list_all is_name_byte name) v

setting_first : (v name : List ℕ) (values : List (List ℕ)) (m : List ℕ) → setting v (first_label name values) m ≡ or_else (setting [] (first_label name values) m) v
unfolding setting
setting_first v name [] m = refl
setting_first v name (w ∷ ws) m = by (list_all is_name_byte name)
  where
    by : (b : Bool) → setting v (if b then valued (param_prefix ++ name) w else []) m ≡ or_else (setting [] (if b then valued (param_prefix ++ name) w else []) m) v
    by true = setting_valued v (param_prefix ++ name) w m
    by false = refl

look_params : (set : List Pair) (params : List Param) (m : List ℕ) → IsSet set → look (with_params set params) m ≡ or_else (look set m) (setting [] (param_labels params) m)
unfolding setting
look_params set [] m s = sym (or_none (look set m))
look_params set (p ∷ ps) m s =
    look_params (with_first set p.name p.values) ps m (first_is_set set s p.name p.values)
    ∙ ap (λ v. or_else v (setting [] (param_labels ps) m)) (look_first_value set s p.name p.values m)
    ∙ or_again (look set m) (setting [] (first_label p.name p.values) m) (setting [] (param_labels ps) m)
    ∙ ap (or_else (look set m)) (sym (setting_append [] (param_labels ps) (first_label p.name p.values) m ∙ setting_first (setting [] (param_labels ps) m) p.name p.values m))

params_is_set : (set : List Pair) (params : List Param) → IsSet set → IsSet (with_params set params)
params_is_set set [] s = s
params_is_set set (p ∷ ps) s = params_is_set (with_first set p.name p.values) ps (first_is_set set s p.name p.values)

-- the value of a name after some labels and one more
setting_more : (labels : List Pair) (name value : List ℕ) (m : List ℕ) → setting [] (labels ++ valued name value) m ≡ or_else (setting [] (valued name value) m) (setting [] labels m)
setting_more labels name value m = setting_append [] labels (valued name value) m ∙ setting_valued (setting [] labels m) name value m

-- what a job adds
module _ (conf : JobConf) where
  look_defaults : (set : List Pair) (m : List ℕ) → IsSet set → look (with_defaults conf set) m ≡ or_else (look set m) (setting [] (default_labels conf) m)
  unfolding with_defaults default_labels
  look_defaults set m s =
      let job = with_default set (codes "job") conf.job_name in
      let scheme = with_default job scheme_label (scheme_text conf.scheme) in
      let path = with_default scheme path_label conf.metrics_path in
      let job_set = default_is_set set (codes "job") conf.job_name s in
      let scheme_set = default_is_set job scheme_label (scheme_text conf.scheme) job_set in
      let path_set = default_is_set scheme path_label conf.metrics_path scheme_set in
      let j = setting [] (valued (codes "job") conf.job_name) m in
      let c = setting [] (valued scheme_label (scheme_text conf.scheme)) m in
      let p = setting [] (valued path_label conf.metrics_path) m in
      let q = setting [] (param_labels conf.params) m in
      let one : look path m ≡ or_else (or_else (or_else (look set m) j) c) p =
      look_default scheme scheme_set path_label conf.metrics_path m
      ∙ ap (λ v. or_else v p) (look_default job job_set scheme_label (scheme_text conf.scheme) m ∙ ap (λ v. or_else v c) (look_default set s (codes "job") conf.job_name m)) in
      let all : setting [] (param_labels conf.params ++ (valued path_label conf.metrics_path ++ (valued scheme_label (scheme_text conf.scheme) ++ valued (codes "job") conf.job_name))) m ≡ or_else j (or_else c (or_else p q)) =
      setting_append [] (param_labels conf.params) (valued path_label conf.metrics_path ++ (valued scheme_label (scheme_text conf.scheme) ++ valued (codes "job") conf.job_name)) m
      ∙ setting_append q (valued path_label conf.metrics_path) (valued scheme_label (scheme_text conf.scheme) ++ valued (codes "job") conf.job_name) m
      ∙ setting_append (setting q (valued path_label conf.metrics_path) m) (valued scheme_label (scheme_text conf.scheme)) (valued (codes "job") conf.job_name) m
      ∙ setting_valued (setting (setting q (valued path_label conf.metrics_path) m) (valued scheme_label (scheme_text conf.scheme)) m) (codes "job") conf.job_name m
      ∙ ap (or_else j) (setting_valued (setting q (valued path_label conf.metrics_path) m) scheme_label (scheme_text conf.scheme) m ∙ ap (or_else c) (setting_valued q path_label conf.metrics_path m)) in
      look_params path conf.params m path_set
      ∙ ap (λ v. or_else v q) one
      ∙ or_again (or_else (or_else (look set m) j) c) p q
      ∙ or_again (or_else (look set m) j) c (or_else p q)
      ∙ or_again (look set m) j (or_else c (or_else p q))
      ∙ ap (or_else (look set m)) (sym all)

  defaults_is_set : (set : List Pair) → IsSet set → IsSet (with_defaults conf set)
  unfolding with_defaults
  defaults_is_set set s =
      params_is_set _ conf.params
      (default_is_set _ path_label conf.metrics_path (default_is_set _ scheme_label (scheme_text conf.scheme) (default_is_set set (codes "job") conf.job_name s)))

-- no default is an address
absent_append : (m : List ℕ) (ps qs : List Pair) → IsAbsent m ps → IsAbsent m qs → IsAbsent m (ps ++ qs)
absent_append m [] qs h k = k
absent_append m (p ∷ ps) qs h k = (h.0, absent_append m ps qs h.1 k)

absent_valued : (m name value : List ℕ) → bytes_eq name m ≡ false → IsAbsent m (valued name value)
absent_valued m name [] e = tt
absent_valued m name (b ∷ bs) e = (e, tt)

no_param : (name : List ℕ) → bytes_eq (param_prefix ++ name) address_label ≡ false
no_param name = refl

absent_first : (name : List ℕ) (values : List (List ℕ)) → IsAbsent address_label (first_label name values)
absent_first name [] = tt
absent_first name (v ∷ vs) = by (list_all is_name_byte name)
  where
    by : (b : Bool) → IsAbsent address_label (if b then valued (param_prefix ++ name) v else [])
    by true = absent_valued address_label (param_prefix ++ name) v (no_param name)
    by false = tt

absent_params : (params : List Param) → IsAbsent address_label (param_labels params)
absent_params [] = tt
absent_params (p ∷ ps) = absent_append address_label (param_labels ps) (first_label p.name p.values) (absent_params ps) (absent_first p.name p.values)

no_address : (conf : JobConf) → IsAbsent address_label (default_labels conf)
unfolding default_labels
no_address conf =
    absent_append address_label (param_labels conf.params) _ (absent_params conf.params)
    (absent_append address_label (valued path_label conf.metrics_path) _ (absent_valued address_label path_label conf.metrics_path refl)
    (absent_append address_label (valued scheme_label (scheme_text conf.scheme)) (valued (codes "job") conf.job_name)
    (absent_valued address_label scheme_label (scheme_text conf.scheme) refl) (absent_valued address_label (codes "job") conf.job_name refl)))

-- the set of a group
file_is_set : (set : List Pair) (file : Option (List ℕ)) → IsSet set → IsSet (with_file set file)
file_is_set set None s = s
file_is_set set (Some name) s = with_label_is_set (codes "__meta_filepath") set s name

group_is_set : (group : Group) → IsSet (group_set group)
unfolding group_set
group_is_set group = file_is_set (with_labels [] group.labels) group.file (with_labels_is_set [] group.labels tt)

module _ (conf : JobConf) (group : Group) (text : List ℕ) where
  listed_is_set : IsSet (listed_set group text)
  unfolding listed_set group_set
  listed_is_set = with_label_is_set address_label (group_set group) (group_is_set group) text

  base_is_set : IsSet (group_base (default_set conf) group)
  unfolding group_base default_set
  base_is_set = with_labels_is_set (default_set conf) (group_set group) (with_labels_is_set [] (default_labels conf) tt)

  look_base : (m : List ℕ) → look (group_base (default_set conf) group) m ≡ or_else (look (group_set group) m) (setting [] (default_labels conf) m)
  unfolding group_base default_set look
  look_base m =
      look-with_labels (default_set conf) (group_set group) m
      ∙ setting_set (look (default_set conf) m) (group_set group) m (group_is_set group)
      ∙ ap (or_else (look (group_set group) m)) (look-with_labels [] (default_labels conf) m)

  look_listed : (m : List ℕ) → look (listed_set group text) m ≡ cond (bytes_eq address_label m) text (look (group_set group) m)
  unfolding listed_set group_set
  look_listed m = look-with_label (group_set group) address_label text m

  turned : (b : Bool) (m : List ℕ) → bytes_eq address_label m ≡ b →
      cond b text (or_else (look (group_set group) m) (setting [] (default_labels conf) m)) ≡ or_else (cond b text (look (group_set group) m)) (setting [] (default_labels conf) m)
  turned true m e =
      let same : address_label ≡ m = (bytes_eq-Decides address_label m).0 e in
      let none : setting [] (default_labels conf) m ≡ [] = ap (setting [] (default_labels conf)) (sym same) ∙ setting_absent [] (default_labels conf) address_label (no_address conf) in
      sym (ap (or_else text) none ∙ or_none text)
  turned false m e = refl

  look_same : (m : List ℕ) → look (with_label (group_base (default_set conf) group) address_label text) m ≡ look (prepared conf group text) m
  look_same m =
      look-with_label (group_base (default_set conf) group) address_label text m
      ∙ ap (cond (bytes_eq address_label m) text) (look_base m)
      ∙ turned (bytes_eq address_label m) m refl
      ∙ ap (λ v. or_else v (setting [] (default_labels conf) m)) (sym (look_listed m))
      ∙ sym (look_defaults conf (listed_set group text) m listed_is_set)

  -- the set of a target, by that of its group's targets
  pub prepared_from : with_label (group_base (default_set conf) group) address_label text ≡ prepared conf group text
  prepared_from =
      set_ext (with_label (group_base (default_set conf) group) address_label text) (prepared conf group text)
      (with_label_is_set address_label (group_base (default_set conf) group) base_is_set text) (defaults_is_set conf (listed_set group text) listed_is_set) look_same

-- the labels of parameters, from the last of them on
pub params_next : (params : List Param) (done : ℕ) (p : Param) (before out more : List Pair) → done < length params → p ≡ get_or params (length params - 1 - done) p →
    out ≡ before ++ param_labels (drop (length params - done) params) → more ≡ out ++ first_label p.name p.values →
    more ≡ before ++ param_labels (drop (length params - (done + 1)) params)
params_next params done p before out more h is was now =
    let i : ℕ = length params - 1 - done in
    let inside : i < length params = omega arith in
    let after : suc i ≡ length params - done = omega arith in
    let here : length params - (done + 1) ≡ i = omega arith in
    let split : drop i params ≡ p ∷ drop (suc i) params = drop-cons params i p inside ∙ ap (λ (x : Param). x ∷ drop (suc i) params) (sym is) in
    now
    ∙ ap (λ ps. ps ++ first_label p.name p.values) (was ∙ ap (λ n. before ++ param_labels (drop n params)) (sym after))
    ∙ append_assoc before (param_labels (drop (suc i) params)) (first_label p.name p.values)
    ∙ ap (λ (ps : List Param). before ++ param_labels ps) (sym split)
    ∙ ap (λ n. before ++ param_labels (drop n params)) (sym here)

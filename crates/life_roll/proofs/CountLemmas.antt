-- How many open lives a target has once the wanted targets were looked at.
use Rattle.std.proofs.Common.{◌≡◌, ℕ, ℤ, ◌+◌, ◌≤◌, Bool, true, false, not, ◌&&◌, ◌||◌, cond, List, [], ◌∷◌, map, filter, count_by, Option, Some, None, is_some, option_map, refl, sym, ap, ap₂, subst, ◌∙◌, arith, zero-add}
use Rattle.std.specs.List.{list_any, find}
use Rattle.std.proofs.lemmas.Bool.{true≢false, false≢true, and_parts, eqb-true}
use Rattle.std.proofs.lemmas.List.Sums.{sum_by-cons, sum_by-append}
use Rattle.label_set.specs.declared.texts.Pair.{Pair}
use Rattle.label_set.specs.Same.{sets_decide}
use Rattle.life_roll.specs.declared.schedule.Schedule.{Schedule}
use Rattle.life_roll.specs.declared.seats.Seat.{Seat}
use Rattle.life_roll.specs.declared.wanted.Terms.{Terms}
use Rattle.life_roll.specs.declared.wanted.Wanted.{Wanted}
use Rattle.life_roll.specs.declared.lives.Life.{Life}
use Rattle.life_roll.specs.Schedules.{is_open}
use Rattle.life_roll.specs.Seats.{is_seat}
use Rattle.life_roll.specs.Wants.{seat_of, terms_of, same_seat, terms_at}
use Rattle.life_roll.specs.Rolls.{open_after, schedule_after, life_after, is_open_at, begins, begun_life, olds_after, lives_after}
use Rattle.life_roll.specs.Counts.{open_count, wanted_count, HaveOneEach, AreDifferent, AreOpen}

-- counts and tests of lists
count_cons : {X : Type 0} (p : X → Bool) (x : X) (xs : List X) → count_by p (x ∷ xs) ≡ cond (p x) 1 0 + count_by p xs
count_cons p x xs = sum_by-cons (λ y. cond (p y) 1 0) x xs

none_more : (b a : Bool) (n : ℕ) → (b || a) ≡ false → (a ≡ false → n ≡ 0) → cond b 1 0 + n ≡ 0
none_more true a n e rest = absurd (true≢false e)
none_more false a n e rest = let h = rest e in omega arith

count_none : {X : Type 0} (p : X → Bool) (xs : List X) → list_any p xs ≡ false → count_by p xs ≡ 0
count_none p [] e = refl
count_none p (x ∷ xs) e = count_cons p x xs ∙ none_more (p x) (list_any p xs) (count_by p xs) e (count_none p xs)

some_more : (b a : Bool) (n : ℕ) → (b || a) ≡ true → (a ≡ true → 1 ≤ n) → 1 ≤ cond b 1 0 + n
some_more true a n e rest = omega arith
some_more false a n e rest = let h = rest e in omega arith

count_some : {X : Type 0} (p : X → Bool) (xs : List X) → list_any p xs ≡ true → 1 ≤ count_by p xs
count_some p [] e = absurd (false≢true e)
count_some p (x ∷ xs) e = subst (λ n. 1 ≤ n) (sym (count_cons p x xs)) (some_more (p x) (list_any p xs) (count_by p xs) e (count_some p xs))

found_more : {X : Type 0} (b : Bool) (x : X) (o : Option X) (n : ℕ) → is_some (cond b (Some x) o) ≡ true → (is_some o ≡ true → 1 ≤ n) → 1 ≤ cond b 1 0 + n
found_more true x o n e rest = omega arith
found_more false x o n e rest = let h = rest e in omega arith

count_found : {X : Type 0} (p : X → Bool) (xs : List X) → is_some (find p xs) ≡ true → 1 ≤ count_by p xs
count_found p [] e = absurd (false≢true e)
count_found p (x ∷ xs) e = subst (λ n. 1 ≤ n) (sym (count_cons p x xs)) (found_more (p x) x (find p xs) (count_by p xs) e (count_found p xs))

less_more : (a b : Bool) (m n : ℕ) → (a ≡ true → b ≡ true) → m ≤ n → cond a 1 0 + m ≤ cond b 1 0 + n
less_more true true m n e h = omega arith
less_more true false m n e h = absurd (false≢true (e refl))
less_more false true m n e h = omega arith
less_more false false m n e h = omega arith

-- a target that is named alike is counted alike
same_job : (job : ℕ) (identity : List Pair) (s : Seat) → is_seat job identity s ≡ true → job ≡ s.job
same_job job identity s e = eqb-true job s.job (and_parts _ _ e).0

same_identity : (job : ℕ) (identity : List Pair) (s : Seat) → is_seat job identity s ≡ true → identity ≡ s.identity
same_identity job identity s e = (sets_decide identity s.identity).0 (and_parts _ _ e).1

begins_as : (job : ℕ) (identity : List Pair) (ls : List Life) (w : Wanted) → is_seat job identity (seat_of w) ≡ true →
    begins ls w ≡ not (list_any (is_open_at job identity) ls)
begins_as job identity ls w e =
    sym (ap₂ (λ j (i : List Pair). not (list_any (is_open_at j i) ls)) (same_job job identity (seat_of w) e) (same_identity job identity (seat_of w) e))

-- the lives that begin: none where the target has an open life, else one for each time that it is wanted
news_more : (m : ℤ) (job : ℕ) (identity : List Pair) (w : Wanted) (news : List Wanted) (wanted : ℕ) (q r b : Bool) → is_seat job identity (seat_of w) ≡ q →
    (q ≡ true → r ≡ not b) → open_count (map (begun_life m) news) job identity ≡ cond b 0 wanted →
    open_count (map (begun_life m) (cond r (w ∷ news) news)) job identity ≡ cond b 0 (cond q 1 0 + wanted)
news_more m job identity w news wanted q r b e f h = by q r b e f h
  where
    one : (q : Bool) → is_seat job identity (seat_of w) ≡ q →
        open_count (map (begun_life m) (w ∷ news)) job identity ≡ cond q 1 0 + open_count (map (begun_life m) news) job identity
    one q e =
        count_cons (is_open_at job identity) (begun_life m w) (map (begun_life m) news)
        ∙ ap (λ b. cond b 1 0 + open_count (map (begun_life m) news) job identity) e

    by : (q r b : Bool) → is_seat job identity (seat_of w) ≡ q → (q ≡ true → r ≡ not b) → open_count (map (begun_life m) news) job identity ≡ cond b 0 wanted →
        open_count (map (begun_life m) (cond r (w ∷ news) news)) job identity ≡ cond b 0 (cond q 1 0 + wanted)
    by true true true e f h = absurd (true≢false (f refl))
    by true false true e f h = h
    by true true false e f h = one true e ∙ ap (λ n. 1 + n) h
    by true false false e f h = absurd (false≢true (f refl))
    by false true true e f h = one false e ∙ (zero-add _ ∙ h)
    by false true false e f h = one false e ∙ ap (λ n. 0 + n) h
    by false false true e f h = h
    by false false false e f h = h ∙ sym (zero-add wanted)

count_news : (m : ℤ) (job : ℕ) (identity : List Pair) (ls : List Life) (b : Bool) → list_any (is_open_at job identity) ls ≡ b → (ws : List Wanted) →
    open_count (map (begun_life m) (filter (begins ls) ws)) job identity ≡ cond b 0 (wanted_count ws job identity)
count_news m job identity ls true any [] = refl
count_news m job identity ls false any [] = refl
count_news m job identity ls b any (w ∷ ws) =
    news_more m job identity w (filter (begins ls) ws) (wanted_count ws job identity) (is_seat job identity (seat_of w)) (begins ls w) b refl
    (λ e. begins_as job identity ls w e ∙ ap not any) (count_news m job identity ls b any ws)
    ∙ ap (λ n. cond b 0 n) (sym (count_cons (λ (v : Wanted). is_seat job identity (seat_of v)) w ws))

-- a life that is open was so before, and its target is wanted
open_parts : (m : ℤ) (t : Option Terms) (s : Schedule) → is_open (schedule_after m t s) ≡ true → (is_open s ≡ true) × (is_some t ≡ true)
open_parts m t s e = by (is_open s) t refl e
  where
    by : (b : Bool) (t : Option Terms) → is_open s ≡ b → is_open (cond b (open_after m t s) s) ≡ true → (is_open s ≡ true) × (is_some t ≡ true)
    by true (Some t) at e = (at, refl)
    by true None at e = absurd (false≢true e)
    by false t at e = absurd (false≢true (sym at ∙ e))

map_some : {X Y : Type 0} (f : X → Y) (o : Option X) → is_some (option_map f o) ≡ true → is_some o ≡ true
map_some f None e = e
map_some f (Some x) e = refl

-- a target with an open life is wanted
count_wanted : (m : ℤ) (job : ℕ) (identity : List Pair) (ws : List Wanted) (ls : List Life) →
    list_any (is_open_at job identity) (map (life_after m (terms_at ws)) ls) ≡ true → 1 ≤ wanted_count ws job identity
count_wanted m job identity ws [] e = absurd (false≢true e)
count_wanted m job identity ws (l ∷ ls) e = by (is_open_at job identity (life_after m (terms_at ws) l)) refl e (count_wanted m job identity ws ls)
  where
    here : is_open_at job identity (life_after m (terms_at ws) l) ≡ true → 1 ≤ wanted_count ws job identity
    here e =
        let p = and_parts _ _ e in
        let found = map_some terms_of (find (λ (w : Wanted). same_seat l.seat (seat_of w)) ws) (open_parts m (terms_at ws l.seat) l.schedule p.0).1 in
        let j = same_job job identity l.seat p.1 in
        let i = same_identity job identity l.seat p.1 in
        subst (λ n. 1 ≤ n) (ap₂ (wanted_count ws) (sym j) (sym i)) (count_found (λ (w : Wanted). same_seat l.seat (seat_of w)) ws found)

    by : (b : Bool) → is_open_at job identity (life_after m (terms_at ws) l) ≡ b → (b || list_any (is_open_at job identity) (map (life_after m (terms_at ws)) ls)) ≡ true →
        (list_any (is_open_at job identity) (map (life_after m (terms_at ws)) ls) ≡ true → 1 ≤ wanted_count ws job identity) → 1 ≤ wanted_count ws job identity
    by true at e rest = here at
    by false at e rest = rest e

-- no life opens again
count_olds : (m : ℤ) (job : ℕ) (identity : List Pair) (terms : Seat → Option Terms) (ls : List Life) →
    open_count (map (life_after m terms) ls) job identity ≤ open_count ls job identity
count_olds m job identity terms [] = omega arith
count_olds m job identity terms (l ∷ ls) =
    let p = is_open_at job identity in
    subst (λ n. n ≤ open_count (l ∷ ls) job identity) (sym (count_cons p (life_after m terms l) (map (life_after m terms) ls)))
    (subst (λ n. cond (p (life_after m terms l)) 1 0 + open_count (map (life_after m terms) ls) job identity ≤ n) (sym (count_cons p l ls))
    (less_more (p (life_after m terms l)) (p l) _ _ was (count_olds m job identity terms ls)))
  where
    was : is_open_at job identity (life_after m terms l) ≡ true → is_open_at job identity l ≡ true
    was e =
        let q = and_parts _ _ e in
        ap₂ ◌&&◌ (open_parts m (terms l.seat) l.schedule q.0).0 q.1

squeezed : (a b c : ℕ) → 1 ≤ a → a ≤ c → c ≤ 1 → 1 ≤ b → b ≤ 1 → a + 0 ≡ b
squeezed a b c some few one wanted once = omega arith

-- once the wanted targets were looked at, each of them has one open life, and no other target has one
pub all_open : (m : ℤ) (ws : List Wanted) (ls : List Life) → AreDifferent ws → HaveOneEach ls → AreOpen ws (lives_after m ws ls)
all_open m ws ls apart single job identity = by (list_any (is_open_at job identity) (olds_after m ws ls)) refl
  where
    whole : (b : Bool) → list_any (is_open_at job identity) (olds_after m ws ls) ≡ b →
        open_count (lives_after m ws ls) job identity ≡ open_count (olds_after m ws ls) job identity + cond b 0 (wanted_count ws job identity)
    whole b at =
        sum_by-append (λ l. cond (is_open_at job identity l) 1 0) (olds_after m ws ls) (map (begun_life m) (filter (begins (olds_after m ws ls)) ws))
        ∙ ap (λ n. open_count (olds_after m ws ls) job identity + n) (count_news m job identity (olds_after m ws ls) b at ws)

    by : (b : Bool) → list_any (is_open_at job identity) (olds_after m ws ls) ≡ b → open_count (lives_after m ws ls) job identity ≡ wanted_count ws job identity
    by true at =
        let some = count_some (is_open_at job identity) (olds_after m ws ls) at in
        let few = count_olds m job identity (terms_at ws) ls in
        let wanted = count_wanted m job identity ws ls at in
        let once = apart job identity in
        let one = single job identity in
        whole true at ∙ squeezed _ _ _ some few one wanted once
    by false at = whole false at ∙ (ap (λ n. n + wanted_count ws job identity) (count_none (is_open_at job identity) (olds_after m ws ls) at) ∙ zero-add _)

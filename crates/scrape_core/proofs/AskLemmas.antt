-- The request of a started scrape: there is one until it had its finish, and it may be fetched.
use Rattle.std.proofs.Common.{◌≡◌, ℕ, ℤ, ◌<◌, ◌≤◌, ◌^◌, ◌≤ℤ◌, pos, negsuc, zero, suc, Bool, true, false, not, ◌&&◌, cond, List, [], ◌∷◌, length, Option, Some, None, is_some, is_none, option_map, refl, sym, ap, ◌∙◌, arith}
use Rattle.std.specs.Prelude.{All, IfOk, IfSome, nat_lt, nat_le, slice_get, Result, Ok, Err}
use Rattle.std.proofs.lemmas.Bool.Decides.{nat_tests}
use Rattle.std.proofs.lemmas.List.Elements.{All-head, All-tail}
use Rattle.journal_text.specs.declared.events.Event.{Event}
use Rattle.label_set.specs.declared.texts.Pair.{Pair}
use Rattle.outside.specs.Fetches.{IsTimeout}
use Rattle.outside.specs.Sizes.{most_body_bytes}
use Rattle.outside.specs.declared.requests.Request.{Request}
use Rattle.scrape_config.specs.Bounds.{IsBounded, IsInterval}
use Rattle.scrape_config.specs.declared.conf.JobConf.{JobConf}
use Rattle.scrape_limits.specs.Limits.{body_limit}
use Rattle.scrape_limits.specs.declared.limits.Limits.{Limits}
use Rattle.target_set.specs.Outcomes.{cause_of}
use Rattle.target_set.specs.Requests.{base_of, request_at, request_of}
use Rattle.target_set.proofs.RequestLemmas.{none_by_cause}
use Rattle.scrape_machine.specs.declared.lives.Life.{Life}
use Rattle.scrape_machine.specs.declared.lives.StartedScrape.{StartedScrape}
use Rattle.scrape_machine.specs.Machine.{world_of}
use Rattle.scrape_laws.proofs.AskedLemmas.{MayBeAsked}
use Rattle.scrape_laws.proofs.RequestLemmas.{HasAsked, HasLife, askable}
use Rattle.scrape_core.specs.Readers.{MayFetch, awaits, is_unfinished, life_request, request, start_request}

-- its limit and its timeout are in their ranges
limit_by : (n : ℕ) (a b : Bool) → nat_le n most_body_bytes ≡ b → cond (a && b) n most_body_bytes ≤ most_body_bytes
limit_by n true true e = grind (arith, nat_tests, e)
limit_by n true false e = omega arith
limit_by n false b e = omega arith

limit_small : (l : Limits) → body_limit l ≤ most_body_bytes
limit_small l = limit_by l.body_size (nat_lt 0 l.body_size) (nat_le l.body_size most_body_bytes) refl

timeout_small : (t : ℤ) → IsInterval t → IsTimeout t
timeout_small (pos n) h = grind (arith, h.1)
timeout_small (negsuc n) h = absurd (grind (arith, h.0))

each : {A : Type 0} (make : A → Request) → ((x : A) → MayFetch (make x)) → (o : Option A) → IfSome (option_map make o) (λ r. MayFetch r)
each make may None = tt
each make may (Some x) = may x

pub may_fetch : (conf : JobConf) (identity : List Pair) → IsBounded conf → IfSome (request_of conf identity) (λ r. MayFetch r)
unfolding request_of request_at
may_fetch conf identity bounds =
    each (request_at conf identity) (λ url. record { limit = limit_small conf.limits; timeout = timeout_small conf.scrape_timeout bounds.1 }) (base_of identity)

-- there is one for each life
made : {A : Type 0} (make : A → Request) (o : Option A) → is_none o ≡ false → is_some (option_map make o) ≡ true
made make (Some x) e = refl
made make None e = absurd cc

of_life : (conf : JobConf) (identity : List Pair) → MayBeAsked identity → is_some (request_of conf identity) ≡ true
unfolding request_of
of_life conf identity h = made (request_at conf identity) (base_of identity) (none_by_cause identity ∙ h)

life_there : (conf : JobConf) (ls : List Life) (k : ℕ) → All HasAsked ls → k < length ls → is_some (life_request conf (slice_get ls k)) ≡ true
life_there conf [] k h lt = absurd (omega arith)
life_there conf (l ∷ ls) zero h lt = of_life conf l.identity (All-head HasAsked l ls h)
life_there conf (l ∷ ls) (suc k) h lt = life_there conf ls k (All-tail HasAsked l ls h) (omega (arith, lt))

start_there : (ls : List Life) (ss : List StartedScrape) (k : ℕ) → All HasAsked ls → All (HasLife (length ls)) ss →
    is_some (start_request ls (slice_get ss k)) ≡ is_unfinished (slice_get ss k)
start_there ls [] k h within = refl
start_there ls (s ∷ ss) zero h within = by s.finished
  where
    by : (b : Bool) → is_some (cond b None (life_request s.settings.conf (slice_get ls s.life))) ≡ not b
    by true = refl
    by false = life_there s.settings.conf ls s.life h (All-head (HasLife (length ls)) s ss within)
start_there ls (s ∷ ss) (suc k) h within = start_there ls ss k h (All-tail (HasLife (length ls)) s ss within)

pub request_there : (es : List Event) (k : ℕ) → is_some (request es k) ≡ awaits es k
unfolding request awaits
request_there es k = start_there (world_of es).lives (world_of es).started k (askable es).lives (askable es).started

pub request_awaited : {E : Type 0} (es : List Event) (k : ℕ) (o : Result (Option Request) E) → IfOk o (λ x. x ≡ request es k) → IfOk o (λ x. is_some x ≡ awaits es k)
request_awaited es k (Ok x) is = ap is_some is ∙ request_there es k
request_awaited es k (Err e) is = tt

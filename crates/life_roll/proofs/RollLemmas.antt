-- One life more in a loop, and all of them.
use Rattle.std.proofs.Common.{◌≡◌, ℕ, ℤ, Bool, not, List, map, filter, Option, ap, ◌∙◌}
use Rattle.std.proofs.Math.Path.{fun_ext}
use Rattle.std.specs.List.{list_any}
use Rattle.label_set.specs.declared.texts.Pair.{Pair}
use Rattle.life_roll.specs.declared.lives.Life.{Life}
use Rattle.life_roll.specs.declared.schedule.Schedule.{Schedule}
use Rattle.life_roll.specs.declared.seats.Seat.{Seat}
use Rattle.life_roll.specs.declared.wanted.Terms.{Terms}
use Rattle.life_roll.specs.declared.wanted.Wanted.{Wanted}
use Rattle.life_roll.specs.Wants.{terms_at}
use Rattle.life_roll.specs.Rolls.{life_after, is_open_at, begun_life, news_after}

pub same_life : {a b : Seat} {s t : Schedule} → a ≡ b → s ≡ t → (let l : Life = record { seat = a; schedule = s } in l) ≡ record { seat = b; schedule = t }
same_life e f = λ i. record { seat = e i; schedule = f i }

-- what is looked up by hash is what the definitions look through
pub same_terms : (ws : List Wanted) (terms : Seat → Option Terms) → ((s : Seat) → terms s ≡ terms_at ws s) → terms ≡ terms_at ws
same_terms ws terms same = fun_ext same

pub same_news : (m : ℤ) (ws : List Wanted) (ls : List Life) (terms : Seat → Option Terms) (has : ℕ → List Pair → Bool) →
    terms ≡ terms_at ws → ((job : ℕ) (identity : List Pair) → has job identity ≡ list_any (is_open_at job identity) (map (life_after m terms) ls)) →
    map (begun_life m) (filter (λ (w : Wanted). not (has w.job w.identity)) ws) ≡ news_after m ws ls
same_news m ws ls terms has same there =
    ap (λ (p : Wanted → Bool). map (begun_life m) (filter p ws))
    (fun_ext (λ (w : Wanted). ap not (there w.job w.identity ∙ ap (λ (t : Seat → Option Terms). list_any (is_open_at w.job w.identity) (map (life_after m t) ls)) same)))

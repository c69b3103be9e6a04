-- No reply of a script has names in quotes, so version 1 of the text has each of its events.
use Rattle.std.proofs.Common.{ℕ, ◌+◌, ◌*◌, List, [], ◌∷◌, ◌++◌, pos, All, flat_map, map, codes}
use Rattle.std.proofs.lemmas.List.Elements.{All-nil, All-cons, All-append}
use Rattle.journal_text.specs.declared.events.Event.TheVariants.{Load, Sweep, Halt}
use Rattle.journal_text.specs.declared.versions.Version.TheVariants.{One}
use Rattle.journal_text.specs.Versions.{HasEvent}
use Rattle.synth.specs.declared.scripts.Plan.{Plan}
use Rattle.synth.specs.Scripts.{upto, reply_event, conf_text, scrape_events, last_events, script_events}

-- the replies of a scrape
replies_have : (p : Plan) (s : ℕ) (ts : List ℕ) → All (HasEvent One) (map (reply_event p s) ts)
replies_have p s [] = All-nil (HasEvent One)
replies_have p s (t ∷ ts) = All-cons (HasEvent One) (reply_event p s t) (map (reply_event p s) ts) tt (replies_have p s ts)

scrape_has : (p : Plan) (s : ℕ) → All (HasEvent One) (scrape_events p s)
unfolding scrape_events
scrape_has p s = All-cons (HasEvent One) (Sweep (pos (15000 * s))) (map (reply_event p s) (upto p.targets)) tt (replies_have p s (upto p.targets))

-- the scrapes
scrapes_have : (p : Plan) (ss : List ℕ) → All (HasEvent One) (flat_map (scrape_events p) ss)
scrapes_have p [] = All-nil (HasEvent One)
scrapes_have p (s ∷ ss) = All-append (HasEvent One) (scrape_events p s) (flat_map (scrape_events p) ss) (scrape_has p s) (scrapes_have p ss)

last_have : (end : ℕ) → All (HasEvent One) (last_events end)
last_have end =
    All-cons (HasEvent One) (Load (pos end) (codes "{}")) (Sweep (pos (end + 16500)) ∷ Halt (pos (end + 16500)) ∷ []) tt
    (All-cons (HasEvent One) (Sweep (pos (end + 16500))) (Halt (pos (end + 16500)) ∷ []) tt
    (All-cons (HasEvent One) (Halt (pos (end + 16500))) [] tt (All-nil (HasEvent One))))

pub script_has : (p : Plan) → All (HasEvent One) (script_events p)
unfolding script_events
script_has p =
    All-cons (HasEvent One) (Load (pos 0) (conf_text p.targets)) (flat_map (scrape_events p) (upto p.scrapes) ++ last_events (15000 * p.scrapes)) tt
    (All-append (HasEvent One) (flat_map (scrape_events p) (upto p.scrapes)) (last_events (15000 * p.scrapes)) (scrapes_have p (upto p.scrapes)) (last_have (15000 * p.scrapes)))

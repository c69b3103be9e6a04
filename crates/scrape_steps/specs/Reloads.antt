-- What a load or an update that is taken makes of all lives at once, by the jobs that are in force after it.
use Rattle.std.specs.Prelude.{ℕ, ℤ, List, ◌++◌, length, map, filter, Some}
use Rattle.journal_text.specs.Lines.{number}
use Rattle.jobs_in_force.specs.declared.jobs.InForce.{InForce}
use Rattle.scrape_machine.specs.declared.lives.Life.{Life}
use Rattle.scrape_machine.specs.Lives.{life_after}
use Rattle.scrape_machine.specs.Machine.{World, births, closes, reload_local}

-- the world after the configuration in force becomes these jobs at m
abbrev pub reload_life : ℤ → List InForce → List InForce → Life → Life
reload_life m jobs news l = life_after (reload_local m jobs (Some news) l) l

abbrev pub reload_lives : ℤ → List InForce → World → List Life
reload_lives m news w = map (reload_life m w.jobs news) w.lives

abbrev pub reload_births : ℤ → List InForce → World → List Life
reload_births m news w = births (number m) (length w.lives) (reload_lives m news w) news

abbrev pub reloaded : ℤ → List InForce → World → World
reloaded m news w = record w { jobs = news; lives = reload_lives m news w ++ reload_births m news w }

abbrev pub closed_by : ℤ → List InForce → World → ℕ
closed_by m news w = length (filter closes (map (reload_local m w.jobs (Some news)) w.lives))

abbrev pub begun_by : ℤ → List InForce → World → ℕ
begun_by m news w = length (reload_births m news w)

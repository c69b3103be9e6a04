-- What a sweep gives.
use Rattle.std.proofs.Common.{◌≡◌, ℕ, ℤ, ◌+◌, List, [], ◌∷◌, ◌++◌, refl, ap}
use Rattle.std.specs.List.{flat_map}
use Rattle.journal_text.specs.declared.events.Event.TheVariants.{Sweep}
use Rattle.jobs_in_force.specs.declared.jobs.InForce.{InForce}
use Rattle.scrape_machine.specs.declared.lives.Life.{Life}
use Rattle.scrape_machine.specs.declared.lives.StartedScrape.{StartedScrape}
use Rattle.scrape_machine.specs.Machine.{world, gives_from, gives}
use Rattle.scrape_steps.specs.Scans.{swept_entries}

module _ (jobs : List InForce) (ls : List Life) (ss : List StartedScrape) (m : ℤ) where
  swept_from : (n : ℕ) (xs : List Life) → gives_from (world jobs ls ss) (Sweep m) n xs ≡ flat_map (swept_entries jobs m) xs
  swept_from n [] = refl
  swept_from n (x ∷ xs) = ap (λ zs. swept_entries jobs m x ++ zs) (swept_from (n + 1) xs)

  pub sweep_entries : gives (world jobs ls ss) (Sweep m) ≡ flat_map (swept_entries jobs m) ls
  unfolding gives
  sweep_entries = swept_from 0 ls

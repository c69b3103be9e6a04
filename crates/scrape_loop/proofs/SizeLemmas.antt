-- The size that the reports say of a scrape with a fault.
use Rattle.std.proofs.Common.{◌≡◌, pos, refl}
use Rattle.sample_rows.specs.declared.fault.ScrapeFault.{ScrapeFault}
use Rattle.sample_rows.specs.declared.fault.ScrapeFault.TheVariants as fault
use Rattle.scrape_loop.specs.Entries.{fault_size}

-- it is 0 of each but that of a body that was too long
pub other_fault : (f : ScrapeFault) → (f ≡ fault.Size → ⊥) → fault_size f ≡ pos 0
other_fault fault.Lost n = refl
other_fault fault.Garbled n = refl
other_fault fault.Unsent n = refl
other_fault fault.Slow n = refl
other_fault (fault.Status s) n = refl
other_fault fault.Size n = absurd (n refl)
other_fault (fault.Line k) n = refl
other_fault (fault.Nameless k) n = refl
other_fault (fault.Labels k) n = refl
other_fault (fault.NameLength k) n = refl
other_fault (fault.ValueLength k) n = refl
other_fault fault.Samples n = refl
other_fault fault.TargetLimit n = refl

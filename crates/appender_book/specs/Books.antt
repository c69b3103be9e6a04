-- What contracts see of a book.
use Rattle.std.specs.Prelude.{ℕ, List}
use Rattle.std.specs.declared.hash.DefaultHasher.{DefaultHasher}
use Rattle.report_samples.specs.declared.entries.Entry.{Entry}

-- its entries, for how many more there is room, and the hasher with which the hash of each set begins
pub record BookView : Type 0 where
  pub entries : List Entry
  pub spare : ℕ
  pub hasher : DefaultHasher

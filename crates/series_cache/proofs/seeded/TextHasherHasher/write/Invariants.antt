use Rattle.std.proofs.Common.{◌≡◌, take, fold}
use Rattle.series_cache.specs.Hashes.{with_digit}
use Rattle.series_cache.proofs.seeded.TextHasherHasher.write.Given as goal

abbrev pub invariant-loop-byte : goal.invariant-loop-byte
invariant-loop-byte l = (l.self.left ≡ fold (with_digit l.initial.self.base) l.initial.self.left (take l.byte-index l.bytes)) × (l.self.base ≡ l.initial.self.base)

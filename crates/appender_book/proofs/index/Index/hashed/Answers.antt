use Rattle.std.proofs.Common.{◌≡◌, suc, ◌-◌, ◌<◌, ◌≤◌, length, arith, subst, sym, ◌∙◌}
use Rattle.std.proofs.lemmas.Option.{slice_get_read}
use Rattle.appender_book.specs.Index.{sets_of}
use Rattle.appender_book.proofs.WalkLemmas.{IsOnWay, way_begins, way_goes, earlier_within}
use Rattle.appender_book.proofs.index.Index.hashed.Goals as goal

pub loop-number-init : goal.loop-number-init
loop-number-init c =
    way_begins c.args.entries.now c.args.self.now c.hash_of-hash.result c.args.series.now c.number_of_hash-last.result c.requires c.hash_of-hash.ensures c.number_of_hash-last.ensures

pub loop-number-smaller : goal.loop-number-smaller
loop-number-smaller c =
    let within : c.loop-number.number ≤ length c.args.self.now.ends.items = c.loop-number.invariant.within in
    let lt : c.loop-number.number - 1 < length c.args.self.now.ends.items = omega arith in
    let noted = slice_get_read c.args.self.now.earlier.items (length c.args.self.now.ends.items) (c.loop-number.number - 1) c.index-number.result.now (sym c.requires.counted) lt c.index-number.ensures in
    let low : c.index-number.result.now ≤ c.loop-number.number - 1 = earlier_within c.args.entries.now c.args.self.now (c.loop-number.number - 1) c.index-number.result.now c.requires lt noted in
    omega arith

pub loop-number-preserved : goal.loop-number-preserved
loop-number-preserved c =
    let e : c.loop-number.number ≡ suc (c.loop-number.number - 1) = omega arith in
    let within : c.loop-number.number ≤ length c.args.self.now.ends.items = c.loop-number.invariant.within in
    let lt : c.loop-number.number - 1 < length c.args.self.now.ends.items = omega arith in
    let noted = slice_get_read c.args.self.now.earlier.items (length c.args.self.now.ends.items) (c.loop-number.number - 1) c.index-number.result.now (sym c.requires.counted) lt c.index-number.ensures in
    let way = subst (IsOnWay (sets_of c.args.entries.now c.args.self.now.ends.items) c.args.self.now.hasher c.hash_of-hash.result c.args.series.now (length c.args.self.now.ends.items)) e c.loop-number.invariant in
    let other = sym c.is_at.ensures ∙ c.if-is_at.false in
    way_goes c.args.entries.now c.args.self.now c.hash_of-hash.result c.args.series.now (c.loop-number.number - 1) c.index-number.result.now c.requires c.hash_of-hash.ensures way other noted

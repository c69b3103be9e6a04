use Rattle.std.proofs.Common.{◌≡◌, length, sym, ◌∙◌, rules, vec_len}
use Rattle.run_lock.proofs.EntryLemmas.{entries_length}
use Rattle.run_lock.proofs.state.RunStateKept.count.Goals as goal

pub returns : goal.returns
returns g c =
    let old = c.args.self.now in
    let same : vec_len old.marks ≡ length old.marks.items = search rules in
    c.len.ensures ∙ (same ∙ sym (entries_length 0 old.marks.items old.core old.run.marked))

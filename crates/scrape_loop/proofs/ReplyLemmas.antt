-- A reply of which rows are looked at has a body with status 200.
use Rattle.std.proofs.Common.{◌≡◌, ℕ, ℤ, Bool, true, false, not, length, nat_lt, ◌==◌, Option, Some, None, if◌then◌else◌, refl}
use Rattle.outside.specs.declared.replies.Reply.{Reply}
use Rattle.outside.specs.declared.replies.Reply.TheVariants.{Body, Quoted, Lost, Garbled, Unsent, Oversize}
use Rattle.sample_rows.specs.Outcomes.{early_fault, is_slow}
use Rattle.sample_rows.specs.declared.fault.ScrapeFault.{ScrapeFault}
use Rattle.sample_rows.specs.declared.fault.ScrapeFault.TheVariants as fault
use Rattle.sample_rows.specs.declared.scrape.RowRules.{RowRules}
use Rattle.scrape_limits.specs.Limits.{body_limit}
use Rattle.scrape_loop.specs.Replies.{is_page}

by_status : (status : ℕ) (b : Bool) (o : Option ScrapeFault) → (if not b then Some (fault.Status status) else o) ≡ None → b ≡ true
by_status status true o e = refl
by_status status false o e = absurd cc

by_slow : (status : ℕ) (slow b : Bool) (o : Option ScrapeFault) → (if slow then Some fault.Slow else if not b then Some (fault.Status status) else o) ≡ None → b ≡ true
by_slow status true b o e = absurd cc
by_slow status false b o e = by_status status b o e

never : (slow : Bool) → (if slow then Some fault.Slow else Some fault.Size) ≡ None → false ≡ true
never true e = absurd cc
never false e = absurd cc

pub looked_at : (rules : RowRules) (reply : Reply) (took : ℤ) → early_fault rules reply took ≡ None → is_page reply ≡ true
unfolding early_fault
looked_at rules Lost took e = absurd cc
looked_at rules Garbled took e = absurd cc
looked_at rules Unsent took e = absurd cc
looked_at rules Oversize took e = never (is_slow rules took) e
looked_at rules (Quoted status bytes) took e =
    by_slow status (is_slow rules took) (status == 200) (if nat_lt (body_limit rules.limits) (length bytes) then Some fault.Size else None) e
looked_at rules (Body status bytes) took e =
    by_slow status (is_slow rules took) (status == 200) (if nat_lt (body_limit rules.limits) (length bytes) then Some fault.Size else None) e

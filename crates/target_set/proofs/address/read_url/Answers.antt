use Rattle.std.proofs.Common.{⊎_elim, sym, ap}
use Rattle.url.specs.Parser.{IsOutOfRoom}
use Rattle.target_set.specs.Outcomes.{url_of}
use Rattle.target_set.specs.Requests.{if_read}
use Rattle.target_set.proofs.address.read_url.Goals as goal

pub returns-in-Ok : goal.returns-in-Ok
unfolding url_of
returns-in-Ok c = sym (ap if_read (rw (c.as_str.ensures.value, c.in_ok-text.ensures) at c.in-Ok.ensures))

pub returns : goal.returns
unfolding url_of
returns c =
    let given = rw (c.as_str.ensures.value, c.in_ok-text.ensures) at c.in-Err.ensures in
    ⊎_elim (λ e. sym (ap if_read e)) (λ (room : IsOutOfRoom c.in-Err.error). absurd (⊎_elim c.in_default.not-OutOfMemory c.in_default.not-Overflow room)) given

use Rattle.std.proofs.Common.{ℕ, List, [], ◌∷◌, true, ◌≤◌, ◌≡◌, ◌<◌, ◌∙◌, sym, arith, take, drop, length, ◌+◌}
use Rattle.std.proofs.lemmas.List.{length-take-le}
use Rattle.std.proofs.lemmas.Bool.Decides.{nat_tests}
use Rattle.http_fetch.proofs.FrameLemmas.{all-text, line-here, other-trailers}
use Rattle.http_fetch.proofs.TrailerLemmas.{full-trailers}
use Rattle.http_fetch.specs.Chunks.{is_blank}
use Rattle.http_fetch.proofs.frames.trailer_at.Goals as goal
use Rattle.http_fetch.proofs.frames.trailer_at.Goals.{then-len-room-via-then-len-room, then-len-room-via-else-len-room+then-is_blank}

-- the text of the empty line has at most one byte
blank-short : (t : List ℕ) → is_blank t ≡ true → length t ≤ 1
blank-short [] blank = omega arith
blank-short (b ∷ []) blank = omega arith
blank-short (b ∷ c ∷ t) blank = absurd cc

pub returns-then-len-room : goal.returns-then-len-room
returns-then-len-room c = (
  all-text c.args.bytes.now (sym c.text_len-len.ensures.value ∙ c.if-len-bytes.true),
  elim c.then-len-room.branch [
    | then-len-room-via-then-len-room w ↦ omega (arith, w.if-len-room.true, c.if-len-bytes.true)
    | then-len-room-via-else-len-room+then-is_blank w ↦ (let one : length c.args.bytes.now ≤ 1 = blank-short c.args.bytes.now (sym w.if-is_blank.ensures) in omega (arith, one))
  ],
)

pub returns-then-len-bytes : goal.returns-then-len-bytes
returns-then-len-bytes c = λ more.
    full-trailers c.args.bytes.now more (all-text c.args.bytes.now (sym c.text_len-len.ensures.value ∙ c.if-len-bytes.true))
    (sym c.if-is_blank.ensures) (omega (arith, c.if-len-bytes.true, c.if-len-room.false))

pub returns-then-len-room-2 : goal.returns-then-len-room-2
returns-then-len-room-2 c =
    let n = c.text_len-len.result in
    let small : n < length c.args.bytes.now = grind (arith, nat_tests) in
    let h = line-here c.args.bytes.now n c.text_len-len.ensures.value small in
    ((h.0, h.1, small), sym c.if-is_blank-2.ensures, c.if-len-room-2.true)

pub returns-else-len-room-2 : goal.returns-else-len-room-2
returns-else-len-room-2 c = λ more.
    let n = c.text_len-len.result in
    let small : n < length c.args.bytes.now = grind (arith, nat_tests) in
    let h = line-here c.args.bytes.now n c.text_len-len.ensures.value small in
    let len : length (take n c.args.bytes.now) ≡ n = length-take-le n c.args.bytes.now c.text_len-len.ensures.within in
    other-trailers c.args.room (take n c.args.bytes.now) (drop (n + 1) c.args.bytes.now) c.args.bytes.now h.0 (sym c.if-is_blank-2.ensures) h.1 (omega (arith, len, c.if-len-room-2.false)) more

use Rattle.std.proofs.Common.{◌≡◌, ◌∙◌, ◌++◌, ℕ, ℤ, pos, negsuc, List, ap, arith, to_z, of_z, w64}
use Rattle.std.proofs.lemmas.Int.{to_z-of_z}
use Rattle.outside.specs.Fetches.{IsTimeout}
use Rattle.std.specs.List.{flat_map}
use Rattle.value_text.specs.Numbers.{seconds3, number}
use Rattle.outside.specs.declared.requests.Request.{Request}
use Rattle.http_fetch.specs.Requests.{request_text, ended_line}
use Rattle.http_fetch.proofs.RequestLemmas.{lines, text-is}
use Rattle.http_fetch.proofs.requests.text_of.Goals as goal

timeout-is : (t : ℤ) → IsTimeout t → to_z w64 (of_z w64 t) ≡ t
timeout-is (pos n) small = to_z-of_z w64 (pos n) (omega (arith, small))
timeout-is (negsuc n) small = absurd small

-- the lines of a request, where its parts are these
is-text : (r : Request) (target authority seconds : List ℕ) → target ≡ r.target → authority ≡ r.authority → seconds ≡ seconds3 (number r.timeout) →
    flat_map ended_line (lines target authority seconds) ≡ request_text r
unfolding request_text
is-text r target authority seconds a b c =
    ap (λ (t : List ℕ). flat_map ended_line (lines t authority seconds)) a
    ∙ ap (λ (t : List ℕ). flat_map ended_line (lines r.target t seconds)) b
    ∙ ap (λ (t : List ℕ). flat_map ended_line (lines r.target r.authority t)) c

pub returns : goal.returns
returns c =
    let timeout = timeout-is c.args.request.now.timeout c.requires in
    let appended = c.in_ok-write_seconds3.ensures.appended ∙ ap (λ (t : ℤ). c.new-seconds.result.items ++ seconds3 (number t)) timeout in
    text-is c.as_bytes-target.result.now c.as_bytes-authority.result.now c.as_slice.result.now c.new-text.result.items c.add.new.text.items c.add-2.new.text.items c.add-3.new.text.items c.add-4.new.text.items
    c.new-text.ensures.items c.in_ok-add.ensures c.in_ok-add-2.ensures c.in_ok-add-3.ensures c.in_ok-add-4.ensures
    ∙ is-text c.args.request.now c.as_bytes-target.result.now c.as_bytes-authority.result.now c.as_slice.result.now
    (c.as_bytes-target.ensures.value ∙ c.as_str.ensures) (c.as_bytes-authority.ensures.value ∙ c.as_str-2.ensures) (c.as_slice.ensures.value ∙ appended ∙ ap (λ (t : List ℕ). t ++ seconds3 (number c.args.request.now.timeout)) c.new-seconds.ensures.items)

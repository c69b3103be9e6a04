-- What comes back keeps its limits.
use Rattle.std.proofs.Common.{rules, ◌≡◌, ℕ, ◌^◌, ◌<◌, ◌≤◌, List, length, ap, arith, ⊎_elim, IsTrue}
use Rattle.std.proofs.lemmas.List.Elements.{All-cons, All-tail}
use Rattle.std.proofs.lemmas.Str.Parse.{IsDigitsTest, numerals_by_value, digits_value_short}
use Rattle.std.specs.Char.{is_ascii_digit}
use Rattle.httparse.specs.Grammar.{ResponseHead, status_code, AllPass}
use Rattle.outside.specs.declared.replies.Reply.{Reply}
use Rattle.outside.specs.declared.replies.Reply.TheVariants.{Body, Quoted, Lost, Garbled, Unsent, Oversize}
use Rattle.outside.specs.Fetches.{IsReplyInLimits}
use Rattle.outside.specs.Sizes.{most_body_bytes}
use Rattle.http_fetch.specs.Replies.{HeadAt, IsWhole, Came}

digits-test : IsDigitsTest (AllPass is_ascii_digit)
digits-test = record {
  empty = search rules;
  parts = λ c cs all. (search rules, All-tail (λ b. IsTrue (is_ascii_digit b)) c cs all);
  more = λ c cs range all. All-cons (λ b. IsTrue (is_ascii_digit b)) c cs (search rules) all;
}

-- a status code has three digits
code-below : {text : List ℕ} {h : ResponseHead} {rest : List ℕ} → HeadAt text h rest → status_code h < 10 ^ 3
code-below {text} {h} {rest} w =
    let three : length h.digits ≡ 3 = w.reads.0.digits.0 in
    digits_value_short (numerals_by_value (AllPass is_ascii_digit) digits-test) h.digits 3 w.reads.0.digits.1 (omega (arith, three))

body-limits : (b : List ℕ) (limit s : ℕ) (c : List ℕ) → limit ≤ most_body_bytes → IsWhole 8 b limit s c → IsReplyInLimits (Body s c)
body-limits b limit s c small w =
    let code : s ≡ status_code w.head = w.whole.0 in
    let final : 200 ≤ status_code w.head = w.reaches.final in
    let below : status_code w.head < 10 ^ 3 = code-below w.reaches.head in
    let short : length c ≤ most_body_bytes = ⊎_elim (λ x. (let none : length c ≡ 0 = ap length x.1 in omega (arith, none))) (λ x. (let within : length c ≤ limit = x.2 in omega (arith, within, small))) w.whole.1 in
    (omega (arith, code, final), omega (arith, code, below), short)

-- what is said of the bytes of a link keeps its limits
pub came-limits : (b : List ℕ) (limit : ℕ) (r : Reply) → limit ≤ most_body_bytes → Came b limit r → IsReplyInLimits r
came-limits b limit (Body s c) small h = body-limits b limit s c small h
came-limits b limit (Quoted s c) small h = absurd h
came-limits b limit Lost small h = tt
came-limits b limit Garbled small h = tt
came-limits b limit Unsent small h = tt
came-limits b limit Oversize small h = tt

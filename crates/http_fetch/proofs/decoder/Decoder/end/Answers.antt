use Rattle.std.proofs.Common.{◌≡◌, refl, sym, ◌∙◌, ap, subst, List, ℕ}
use Rattle.std.proofs.lemmas.Result.{IfOk-weaker}
use Rattle.outside.specs.declared.replies.Reply.{Reply}
use Rattle.outside.specs.declared.replies.Reply.TheVariants.{Garbled}
use Rattle.http_fetch.specs.declared.fields.Kind.{Kind}
use Rattle.http_fetch.specs.declared.stages.Stage.{Stage}
use Rattle.http_fetch.specs.declared.stages.Stage.TheVariants.{Heads, Length, Line, Data, Trailer, Open, Whole, Over, Never}
use Rattle.http_fetch.specs.declared.decoder.Decoder.{Decoder}
use Rattle.http_fetch.specs.Replies.{Http}
use Rattle.http_fetch.specs.Decoders.{StandsFor}
use Rattle.http_fetch.proofs.ReplyLemmas.{final, http-final, one-reply}
use Rattle.http_fetch.proofs.decoder.Decoder.end.Goals as goal

-- the reply of a decoder, where its place is known
reply-at : (d : Decoder) (r : Reply) → final d.stage d.kind d.limit d.body.items ≡ r → (limit : ℕ) (b : List ℕ) → StandsFor d limit b → Http b limit r
reply-at d r e limit b st =
    subst (Http b limit) (ap (λ n. final d.stage d.kind n d.body.items) (sym st.limit_is) ∙ e) (http-final limit d.stage d.kind d.body.items d.pending.items b st.stands st.kind)

only-at : (d : Decoder) (r : Reply) → final d.stage d.kind d.limit d.body.items ≡ r → (limit : ℕ) (b : List ℕ) → StandsFor d limit b → (s : Reply) → Http b limit s → s ≡ r
only-at d r e limit b st s h = one-reply limit b s r h (reply-at d r e limit b st)

pub returns-in-Whole-clause-reply : goal.returns-in-Whole-clause-reply
returns-in-Whole-clause-reply c =
    IfOk-weaker c.rendered.result _ _
    (λ r e. reply-at c.args.self r (ap (λ (s : Stage). final s c.args.self.kind c.args.self.limit c.args.self.body.items) c.in-Whole.is ∙ sym e)) c.rendered.ensures

pub returns-in-Whole-clause-only : goal.returns-in-Whole-clause-only
returns-in-Whole-clause-only c =
    IfOk-weaker c.rendered.result _ _
    (λ r e. only-at c.args.self r (ap (λ (s : Stage). final s c.args.self.kind c.args.self.limit c.args.self.body.items) c.in-Whole.is ∙ sym e)) c.rendered.ensures

pub returns-in-Open-clause-reply : goal.returns-in-Open-clause-reply
returns-in-Open-clause-reply c =
    IfOk-weaker c.rendered-in-Open.result _ _
    (λ r e. reply-at c.args.self r (ap (λ (s : Stage). final s c.args.self.kind c.args.self.limit c.args.self.body.items) c.in-Open.is ∙ sym e)) c.rendered-in-Open.ensures

pub returns-in-Open-clause-only : goal.returns-in-Open-clause-only
returns-in-Open-clause-only c =
    IfOk-weaker c.rendered-in-Open.result _ _
    (λ r e. only-at c.args.self r (ap (λ (s : Stage). final s c.args.self.kind c.args.self.limit c.args.self.body.items) c.in-Open.is ∙ sym e)) c.rendered-in-Open.ensures

pub returns-in-Over-clause-reply : goal.returns-in-Over-clause-reply
returns-in-Over-clause-reply c = reply-at c.args.self _ (ap (λ (s : Stage). final s c.args.self.kind c.args.self.limit c.args.self.body.items) c.in-Over.is)

pub returns-in-Over-clause-only : goal.returns-in-Over-clause-only
returns-in-Over-clause-only c = only-at c.args.self _ (ap (λ (s : Stage). final s c.args.self.kind c.args.self.limit c.args.self.body.items) c.in-Over.is)

garbled-at : (stage : Stage) (kind : Kind) (limit : ℕ) (got : List ℕ) → (stage ≡ Open → ⊥) → ((code : ℕ) → stage ≡ Whole code → ⊥) → (stage ≡ Over → ⊥) → final stage kind limit got ≡ Garbled
garbled-at (Heads left) kind limit got o w v = refl
garbled-at (Length left) kind limit got o w v = refl
garbled-at Line kind limit got o w v = refl
garbled-at (Data left) kind limit got o w v = refl
garbled-at (Trailer room) kind limit got o w v = refl
garbled-at Open kind limit got o w v = absurd (o refl)
garbled-at (Whole code) kind limit got o w v = absurd (w code refl)
garbled-at Over kind limit got o w v = absurd (v refl)
garbled-at Never kind limit got o w v = refl

pub returns-in_default : goal.returns-in_default
returns-in_default c =
    let e = garbled-at c.args.self.stage c.args.self.kind c.args.self.limit c.args.self.body.items c.in_default.not-Open c.in_default.not-Whole c.in_default.not-Over in
    record { reply = reply-at c.args.self Garbled e; only = only-at c.args.self Garbled e }

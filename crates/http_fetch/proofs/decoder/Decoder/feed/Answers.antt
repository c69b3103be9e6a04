use Rattle.std.proofs.Common.{◌++◌, sym, subst}
use Rattle.http_fetch.proofs.DecoderLemmas.{got-fits, stands-done, stands-for-on, settled, must-not-end}
use Rattle.http_fetch.proofs.KindLemmas.{stage_kind-done, stage_kind-more}
use Rattle.http_fetch.proofs.ReplyLemmas.{http-settled}
use Rattle.http_fetch.specs.Stages.{Fits}
use Rattle.http_fetch.proofs.decoder.Decoder.feed.Goals as goal

pub returns-then-is_done-clause-stands : goal.returns-then-is_done-clause-stands
returns-then-is_done-clause-stands c = λ limit b st. record {
  limit_is = st.limit_is;
  stands = stands-done limit c.args.self.now.stage c.args.self.now.body.items c.args.self.now.pending.items b c.args.piece.now (sym c.if-is_done.ensures) st.stands;
  short = st.short;
  kind = stage_kind-done c.args.self.now.stage c.args.self.now.kind 8 b c.args.self.now.pending.items c.args.piece.now (sym c.if-is_done.ensures) st.kind;
}

pub returns-then-is_done-clause-done : goal.returns-then-is_done-clause-done
returns-then-is_done-clause-done c = λ e limit b st.
    http-settled limit (b ++ c.args.piece.now)
    (settled limit c.args.self.now.stage c.args.self.now.body.items c.args.self.now.pending.items (b ++ c.args.piece.now)
    (stands-done limit c.args.self.now.stage c.args.self.now.body.items c.args.self.now.pending.items b c.args.piece.now (sym c.if-is_done.ensures) st.stands) (sym c.if-is_done.ensures))

pub returns-then-is_done-2-clause-done : goal.returns-then-is_done-2-clause-done
returns-then-is_done-2-clause-done c = λ e limit b st.
    http-settled limit (b ++ c.args.piece.now)
    (settled limit c.in_ok-next.next.stage c.advance.new.body.items c.advance.new.pending.items (b ++ c.args.piece.now)
    (stands-for-on c.args.self.now limit c.in_ok-next.next.stage c.advance.new.body.items c.advance.new.pending.items b c.args.piece.now st c.in_ok-next.ensures.leads c.in_ok-next.ensures.waits)
    (sym c.if-is_done-2.ensures))

pub returns-clause-more : goal.returns-clause-more
returns-clause-more c = λ e limit b st.
    must-not-end limit c.in_ok-next.next.stage c.advance.new.body.items c.advance.new.pending.items (b ++ c.args.piece.now)
    (stands-for-on c.args.self.now limit c.in_ok-next.next.stage c.advance.new.body.items c.advance.new.pending.items b c.args.piece.now st c.in_ok-next.ensures.leads c.in_ok-next.ensures.waits)
    (sym c.if-is_done-2.ensures)

pub returns-clause-held : goal.returns-clause-held
returns-clause-held c = λ e limit b st.
    let on = stands-for-on c.args.self.now limit c.in_ok-next.next.stage c.advance.new.body.items c.advance.new.pending.items b c.args.piece.now st c.in_ok-next.ensures.leads c.in_ok-next.ensures.waits in
    let fits : Fits c.args.self.now.stage c.args.self.now.limit c.args.self.now.body.items = subst (λ n. Fits c.args.self.now.stage n c.args.self.now.body.items) (sym st.limit_is) st.stands.leads in
    (got-fits c.in_ok-next.next.stage limit c.advance.new.body.items (sym c.if-is_done-2.ensures) on.leads, c.in_ok-next.ensures.short fits (sym c.if-is_done-2.ensures))

pub returns-then-is_done-2-clause-stands : goal.returns-then-is_done-2-clause-stands
returns-then-is_done-2-clause-stands c = λ limit b st.
    let fits : Fits c.args.self.now.stage c.args.self.now.limit c.args.self.now.body.items = subst (λ n. Fits c.args.self.now.stage n c.args.self.now.body.items) (sym st.limit_is) st.stands.leads in
    record {
      limit_is = st.limit_is;
      stands = stands-for-on c.args.self.now limit c.in_ok-next.next.stage c.advance.new.body.items c.advance.new.pending.items b c.args.piece.now st c.in_ok-next.ensures.leads c.in_ok-next.ensures.waits;
      short = c.in_ok-next.ensures.short fits;
      kind = c.in_ok-next.ensures.kind (b ++ c.args.piece.now)
          (stage_kind-more c.args.self.now.stage c.args.self.now.kind 8 b c.args.self.now.pending.items c.args.piece.now st.kind);
    }

pub returns-clause-stands : goal.returns-clause-stands
returns-clause-stands c = λ limit b st.
    let fits : Fits c.args.self.now.stage c.args.self.now.limit c.args.self.now.body.items = subst (λ n. Fits c.args.self.now.stage n c.args.self.now.body.items) (sym st.limit_is) st.stands.leads in
    record {
      limit_is = st.limit_is;
      stands = stands-for-on c.args.self.now limit c.in_ok-next.next.stage c.advance.new.body.items c.advance.new.pending.items b c.args.piece.now st c.in_ok-next.ensures.leads c.in_ok-next.ensures.waits;
      short = c.in_ok-next.ensures.short fits;
      kind = c.in_ok-next.ensures.kind (b ++ c.args.piece.now)
          (stage_kind-more c.args.self.now.stage c.args.self.now.kind 8 b c.args.self.now.pending.items c.args.piece.now st.kind);
    }

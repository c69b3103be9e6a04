-- What a decoder stands for, once more bytes have come.
use Rattle.std.proofs.Common.{◌≡◌, ◌≢◌, ℕ, ◌+◌, ◌-◌, ◌<◌, ◌≤◌, ◌⊎◌, ◌↔◌, true, false, List, [], ◌∷◌, ◌++◌, length, refl, sym, ap, ◌∙◌, subst, arith, inl, inr, ⊎_elim, length-append, append_assoc, eq-zero-or-pos, take, drop, take-append-drop}
use Rattle.std.proofs.Math.Seq.{drop-append_seam}
use Rattle.httparse.specs.Grammar.{ResponseHead, status_code, print_response, ChunkLine, print_chunk_line, print_end, LineEnd, crlf, lf, print_section}
use Rattle.http_fetch.specs.declared.fields.Framing.{Framing}
use Rattle.http_fetch.specs.declared.fields.Framing.TheVariants as framings
use Rattle.outside.specs.declared.replies.Reply.{Reply}
use Rattle.outside.specs.declared.replies.Reply.TheVariants.{Body, Quoted, Lost, Garbled, Unsent, Oversize}
use Rattle.http_fetch.specs.declared.decoder.Decoder.{Decoder}
use Rattle.http_fetch.specs.declared.stages.Stage.{Stage}
use Rattle.http_fetch.specs.declared.stages.Stage.TheVariants.{Heads, Length, Line, Data, Trailer, Open, Whole, Over, Never}
use Rattle.http_fetch.specs.Replies.{Came, IsWhole, IsEnded, WholeAfter, Interims, Reaches, IsBody, framing_of}
use Rattle.http_fetch.specs.Chunks.{IsChunked, Parts, ChunkAt, Trailers, LineAt}
use Rattle.http_fetch.specs.Stages.{Same, Leads, Stands, Waits, Fits, decoding}
use Rattle.http_fetch.specs.Steps.{is_done}
use Rattle.http_fetch.specs.Reading.{NoHead, NoLine}
use Rattle.http_fetch.specs.Decoders.{StandsFor, MustEnd}
use Rattle.http_fetch.proofs.FrontLemmas.{head-append, line-append}
use Rattle.http_fetch.proofs.PlaceLemmas.{same-refl, same-trans, done-same, Says, SaysOver, here, whole-said, over-said}

-- ---- what may follow

came-same : (limit : ℕ) (b d : List ℕ) → Same limit (decoding (Heads 8) [] b) (decoding (Heads 8) [] d) → (r : Reply) → Came b limit r ↔ Came d limit r
came-same limit b d x (Body s c) = (x.whole s c, x.whole_back s c)
came-same limit b d x Oversize = (x.over, x.over_back)
came-same limit b d x (Quoted s c) = (λ h. h, λ h. h)
came-same limit b d x Lost = (λ h. h, λ h. h)
came-same limit b d x Unsent = (λ h. h, λ h. h)
came-same limit b d x Garbled = (λ h. (λ s c w. h.0 s c (x.whole_back s c w), λ w. h.1 (x.over_back w)), λ h. (λ s c w. h.0 s c (x.whole s c w), λ w. h.1 (x.over w)))

same-sym : {limit : ℕ} {a b : Stage} {ga ta gb tb : List ℕ} → Same limit (decoding a ga ta) (decoding b gb tb) → Same limit (decoding b gb tb) (decoding a ga ta)
same-sym x = record { whole = x.whole_back; whole_back = x.whole; over = x.over_back; over_back = x.over }

-- each continuation leaves what came as it is
abbrev pub CameSettled : List ℕ → ℕ → Type 0
CameSettled b limit = (more : List ℕ) (r : Reply) → Came b limit r ↔ Came (b ++ more) limit r

pub settled : (limit : ℕ) (stage : Stage) (got pending b : List ℕ) → Stands limit stage got pending b → is_done stage ≡ true → CameSettled b limit
settled limit stage got pending b st done more r =
    came-same limit b (b ++ more) (same-trans (here limit stage got pending b st) (same-trans (done-same stage limit got pending (pending ++ more) done) (same-sym (st.same more)))) r

-- a whole reply stays one, whatever follows
interims-append : (more : List ℕ) (hs : List ResponseHead) (text mid : List ℕ) → Interims hs text mid → Interims hs (text ++ more) (mid ++ more)
interims-append more [] text mid w = ap (λ (t : List ℕ). t ++ more) w
interims-append more (h ∷ hs) text mid w = (w.0 ++ more, head-append more w.1, w.2, interims-append more hs w.0 mid w.3)

pub reaches-append : {n : ℕ} {text rest : List ℕ} {h : ResponseHead} (more : List ℕ) → Reaches n text h rest → Reaches n (text ++ more) h (rest ++ more)
reaches-append {n} {text} {rest} {h} more w = record {
  interims = w.interims;
  few = w.few;
  mid = w.mid ++ more;
  passed = interims-append more w.interims text w.mid w.passed;
  head = head-append more w.head;
  final = w.final;
}

chunk-append : {text bytes rest : List ℕ} (more : List ℕ) → ChunkAt text bytes rest → ChunkAt (text ++ more) bytes (rest ++ more)
chunk-append {text} {bytes} {rest} more w = record {
  line = w.line;
  reads = subst (LineAt (text ++ more) w.line) (append_assoc bytes (13 ∷ 10 ∷ rest) more) (line-append more w.reads);
  size = w.size;
  some = w.some;
}

parts-append : (more : List ℕ) (parts : List (List ℕ)) (text mid : List ℕ) → Parts parts text mid → Parts parts (text ++ more) (mid ++ more)
parts-append more [] text mid w = ap (λ (t : List ℕ). t ++ more) w
parts-append more (part ∷ parts) text mid w = (w.0 ++ more, chunk-append more w.1, parts-append more parts w.0 mid w.2)

trailers-append : (more : List ℕ) (ts : List (List ℕ)) (text rest : List ℕ) → Trailers ts text rest → Trailers ts (text ++ more) (rest ++ more)
trailers-append more [] text rest w = (w.0, ap (λ (t : List ℕ). t ++ more) w.1 ∙ append_assoc (print_end w.0) rest more)
trailers-append more (t ∷ ts) text rest w = (w.0 ++ more, w.1, ap (λ (t : List ℕ). t ++ more) w.2 ∙ append_assoc t (10 ∷ w.0) more, trailers-append more ts w.0 rest w.3)

chunked-append : {text bytes : List ℕ} (more : List ℕ) → IsChunked text bytes → IsChunked (text ++ more) bytes
chunked-append {text} {bytes} more w = record {
  parts = w.parts;
  mid = w.mid ++ more;
  reads = parts-append more w.parts text w.mid w.reads;
  line = w.line;
  after = w.after ++ more;
  last = line-append more w.last;
  empty = w.empty;
  trailers = record { lines = w.trailers.lines; rest = w.trailers.rest ++ more; reads = trailers-append more w.trailers.lines w.after w.trailers.rest w.trailers.reads; short = w.trailers.short };
  all = w.all;
}

body-append : (f : Framing) (text bytes more : List ℕ) → f ≢ framings.ToEnd → IsBody f text bytes → IsBody f (text ++ more) bytes
body-append framings.Refused text bytes more other w = w
body-append (framings.Length n) text bytes more other w = (w.0, (w.1.0 ++ more, ap (λ (t : List ℕ). t ++ more) w.1.1 ∙ append_assoc bytes w.1.0 more))
body-append framings.Chunks text bytes more other w = chunked-append more w
body-append framings.ToEnd text bytes more other w = absurd (other refl)

after-append : (code : ℕ) (f : Framing) (text : List ℕ) (limit s : ℕ) (c more : List ℕ) → (code ≢ 200) ⊎ (f ≢ framings.ToEnd) → WholeAfter code f text limit (s, c) → WholeAfter code f (text ++ more) limit (s, c)
after-append code f text limit s c more ends w = (
  w.0,
  ⊎_elim
      (λ (a : (code ≢ 200) × (c ≡ [])). inl a)
      (λ (a : (code ≡ 200) × IsBody f text c × (length c ≤ limit)). ⊎_elim
      (λ (other : code ≢ 200). absurd (other a.0))
      (λ (other : f ≢ framings.ToEnd). inr (a.0, body-append f text c more other a.1, a.2)) ends) w.1,
)

ended-whole : {b : List ℕ} {limit s : ℕ} {c : List ℕ} (more : List ℕ) → IsEnded b limit s c → IsWhole 8 (b ++ more) limit s c
ended-whole {b} {limit} {s} {c} more w = record {
  head = w.head;
  rest = w.rest ++ more;
  reaches = reaches-append more w.reaches;
  whole = after-append (status_code w.head) (framing_of w.head) w.rest limit s c more w.ends.1 w.ends.0;
}

-- where the decoder wants more, no reply has ended
open-ends : (limit : ℕ) (stage : Stage) (got pending b : List ℕ) → Stands limit stage got pending b → is_done stage ≡ false → (s : ℕ) (c : List ℕ) → Says stage s → c ≡ got → IsWhole 8 (b ++ 0 ∷ []) limit s c → ⊥
open-ends limit (Heads left) got pending b st going s c x e w = x
open-ends limit (Length left) got pending b st going s c x e w = x
open-ends limit Line got pending b st going s c x e w = x
open-ends limit (Data left) got pending b st going s c x e w = x
open-ends limit (Trailer room) got pending b st going s c x e w = x
open-ends limit Open got pending b st going s c x e w =
    let g = (st.same (0 ∷ [])).whole s c w in
    let text : length (pending ++ 0 ∷ []) ≡ length g.rest = ap length g.more in
    let all : length c ≡ length got + length g.rest = ap length g.all ∙ length-append got g.rest in
    let same : length c ≡ length got = ap length e in
    omega (arith, length-append pending (0 ∷ []), text, all, same)
open-ends limit (Whole code) got pending b st going s c x e w = absurd cc
open-ends limit Over got pending b st going s c x e w = x
open-ends limit Never got pending b st going s c x e w = x

over-ends : (stage : Stage) → is_done stage ≡ false → SaysOver stage → ⊥
over-ends (Heads left) going x = x
over-ends (Length left) going x = x
over-ends Line going x = x
over-ends (Data left) going x = x
over-ends (Trailer room) going x = x
over-ends Open going x = x
over-ends (Whole code) going x = x
over-ends Over going x = absurd cc
over-ends Never going x = x

ended-now : {b : List ℕ} {limit s : ℕ} {c : List ℕ} → IsEnded b limit s c → IsWhole 8 b limit s c
ended-now w = record { head = w.head; rest = w.rest; reaches = w.reaches; whole = w.ends.0 }

pub must-not-end : (limit : ℕ) (stage : Stage) (got pending b : List ℕ) → Stands limit stage got pending b → is_done stage ≡ false → MustEnd b limit → ⊥
must-not-end limit stage got pending b st going (inl w) =
    let said = whole-said limit stage got pending b st w.0 w.1 (ended-now w.2) in
    open-ends limit stage got pending b st going w.0 w.1 said.0 said.1 (ended-whole (0 ∷ []) w.2)
must-not-end limit stage got pending b st going (inr w) = over-ends stage going (over-said limit stage got pending b st w)

-- ---- steps of the decoder

-- no place is left without a byte
left-nil : (a b : List ℕ) → a ++ b ≡ [] → a ≡ []
left-nil [] b e = refl
left-nil (x ∷ a) b e = absurd cc

right-nil : (a b : List ℕ) → a ++ b ≡ [] → b ≡ []
right-nil [] b e = e
right-nil (x ∷ a) b e = absurd cc

end-some : (e : LineEnd) → print_end e ≡ [] → ⊥
end-some crlf h = cc
end-some lf h = cc

pub print-some : (h : ResponseHead) (rest : List ℕ) → print_response h ++ rest ≡ [] → ⊥
unfolding print_response
print-some h rest e = end-some h.last (right-nil _ (print_end h.last) (right-nil _ (print_section h.fields h.last) (left-nil (print_response h) rest e)))

no-head : NoHead []
no-head h rest w = print-some h rest (sym w.reads.1)

pub line-some : (l : ChunkLine) (rest : List ℕ) → print_chunk_line l ++ rest ≡ [] → ⊥
unfolding print_chunk_line
line-some l rest e = end-some crlf (right-nil _ (print_end crlf) (left-nil (print_chunk_line l) rest e))

no-line : NoLine []
no-line l rest w = line-some l rest (sym w.reads.1)

pub stands-new : (limit : ℕ) → Stands limit (Heads 8) [] [] []
stands-new limit = record { leads = refl; waits = no-head; same = λ more. same-refl limit (Heads 8) [] more }

-- a run over what was pending and a piece
pub stands-on : (limit : ℕ) (stage next : Stage) (got had pending rest b piece : List ℕ) → Stands limit stage got pending b → Leads limit (decoding stage got (pending ++ piece)) (decoding next had rest) → Waits next rest →
    Stands limit next had rest (b ++ piece)
stands-on limit stage next got had pending rest b piece st l waits = record {
  leads = l.fits;
  waits = waits;
  same = λ more. subst (λ (t : List ℕ). Same limit (decoding (Heads 8) [] t) (decoding next had (rest ++ more))) (sym (append_assoc b piece more))
      (same-trans (subst (λ (t : List ℕ). Same limit (decoding (Heads 8) [] (b ++ (piece ++ more))) (decoding stage got t)) (sym (append_assoc pending piece more)) (st.same (piece ++ more))) (l.same more));
}

-- nothing more is looked at
pub stands-done : (limit : ℕ) (stage : Stage) (got pending b piece : List ℕ) → is_done stage ≡ true → Stands limit stage got pending b → Stands limit stage got pending (b ++ piece)
stands-done limit stage got pending b piece done st = record {
  leads = st.leads;
  waits = st.waits;
  same = λ more. subst (λ (t : List ℕ). Same limit (decoding (Heads 8) [] t) (decoding stage got (pending ++ more))) (sym (append_assoc b piece more))
      (same-trans (st.same (piece ++ more)) (done-same stage limit got (pending ++ (piece ++ more)) (pending ++ more) done));
}

pub got-fits : (stage : Stage) (limit : ℕ) (got : List ℕ) → is_done stage ≡ false → Fits stage limit got → length got ≤ limit
got-fits (Heads left) limit got e fits = (let n : length got ≡ 0 = ap length fits in omega (arith, n))
got-fits (Length left) limit got e fits = (let n : length got + left ≤ limit = fits.1 in omega (arith, n))
got-fits Line limit got e fits = fits
got-fits (Data left) limit got e fits = (let n : length got + left ≤ limit = fits in omega (arith, n))
got-fits (Trailer room) limit got e fits = fits.0
got-fits Open limit got e fits = fits
got-fits (Whole code) limit got e fits = fits
got-fits Over limit got e fits = absurd cc
got-fits Never limit got e fits = absurd cc

pub waits-at-end : (stage : Stage) (limit : ℕ) (got : List ℕ) → Fits stage limit got → Waits stage []
waits-at-end (Heads left) limit got fits = no-head
waits-at-end (Length left) limit got fits = refl
waits-at-end Line limit got fits = no-line
waits-at-end (Data left) limit got fits = ⊎_elim (λ (e : left ≡ 0). inr (e, λ rest h. cc)) (λ (e : 0 < left). inl (e, refl)) (eq-zero-or-pos left)
waits-at-end (Trailer room) limit got fits = refl
waits-at-end Open limit got fits = refl
waits-at-end (Whole code) limit got fits = tt
waits-at-end Over limit got fits = tt
waits-at-end Never limit got fits = tt

-- a run leaves the end of the text
pub end-left : (text front rest : List ℕ) → text ≡ front ++ rest → drop (length text - length rest) text ≡ rest
end-left text front rest e =
    let n : length text ≡ length front + length rest = ap length e ∙ length-append front rest in
    let k : length text - length rest ≡ length front = omega (arith, n) in
    ap (λ m. drop m text) k ∙ ap (drop (length front)) e ∙ drop-append_seam front rest

pub behind-left : (text front rest : List ℕ) (n : ℕ) → text ≡ front ++ rest → (f : List ℕ) × (text ≡ f ++ drop n rest)
behind-left text front rest n e = (front ++ take n rest, e ∙ ap (λ (r : List ℕ). front ++ r) (sym (take-append-drop n rest)) ∙ sym (append_assoc front (take n rest) (drop n rest)))

-- the same of a decoder
pub stands-for-on : (d : Decoder) (limit : ℕ) (next : Stage) (had rest b piece : List ℕ) → StandsFor d limit b →
    (Fits d.stage d.limit d.body.items → Leads d.limit (decoding d.stage d.body.items (d.pending.items ++ piece)) (decoding next had rest)) → (Fits d.stage d.limit d.body.items → Waits next rest) →
    Stands limit next had rest (b ++ piece)
stands-for-on d limit next had rest b piece st leads waits =
    let fits : Fits d.stage d.limit d.body.items = subst (λ n. Fits d.stage n d.body.items) (sym st.limit_is) st.stands.leads in
    stands-on limit d.stage next d.body.items had d.pending.items rest b piece st.stands
    (subst (λ n. Leads n (decoding d.stage d.body.items (d.pending.items ++ piece)) (decoding next had rest)) st.limit_is (leads fits)) (waits fits)

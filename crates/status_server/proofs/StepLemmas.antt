-- From one reply to the next.
use Rattle.std.proofs.Common.{◌≡◌, inl, inr, ℕ, ◌+◌, ◌≤◌, List, [], ◌++◌, length, drop, refl, sym, ap, subst, ◌∙◌, arith, append_assoc, append-nil, true≢false}
use Rattle.std.specs.Prelude.{Bool, true, false, if◌then◌else◌}
use Rattle.std.proofs.lemmas.List.{drop-drop, length-drop}
use Rattle.journal_text.specs.declared.events.Event.{Event}
use Rattle.outside.specs.Objects.{ShelfSeen, SinkSeen, Use, used, Took}
use Rattle.request_heads.specs.Fronts.{HasRequest}
use Rattle.request_heads.specs.Requests.{closes, page_of, query_of}
use Rattle.request_heads.specs.declared.fronts.Request.{Request}
use Rattle.request_heads.specs.declared.pages.Page.{Page}
use Rattle.request_heads.specs.declared.pages.Page.TheVariants as pages
use Rattle.status_server.specs.Answers as answers
use Rattle.status_server.specs.Connections.{Answered, AreFirst, Exchange, IsAnswered, IsClosed, outcome}
use Rattle.status_server.specs.Federates.{IsFederate}
use Rattle.status_server.specs.Reloads.{IsReload, Site, basis}
use Rattle.status_server.specs.Steps.{AnsweredBy, CutStep, Ended, IsStep, JournalBy, NoStep, PutStep, Reached, ShelfStays, Stepped, StoppedCut, StoppedWhole, StopsIn, StopsStep, site}
use Rattle.status_server.specs.declared.connections.Step.{Step}
use Rattle.status_server.specs.declared.connections.Step.TheVariants.{GoesOn, Ends, Waits}
use Rattle.status_server.specs.declared.connections.Stop.{Stop}
use Rattle.status_server.specs.declared.connections.Stop.TheVariants.{ReadFault, WriteFault, NoMemory}
use Rattle.status_server.proofs.ConnectionLemmas.{answered-none, answered-one, answered-then, closed-last, closed-then, first-then}
use Rattle.status_server.proofs.FlowLemmas.{took-none, took-then, cut-then}

-- a request for a reload, one for federation, and one for another page
pub answered-reload : (es : List Event) (site : Site) (page : Page) (q : List ℕ) (c : Bool) (text : List ℕ) (loads : List Event) → page ≡ pages.Reload → IsReload es site (answers.ends page c) text loads →
    IsAnswered (basis es site) page q c (outcome text loads)
answered-reload es site pages.Targets q c text loads e r = absurd cc
answered-reload es site pages.Federate q c text loads e r = absurd cc
answered-reload es site pages.Reload q c text loads e r = r
answered-reload es site pages.OtherMethod q c text loads e r = absurd cc
answered-reload es site pages.OtherPath q c text loads e r = absurd cc
answered-reload es site pages.Body q c text loads e r = absurd cc

pub answered-federate : (es : List Event) (site : Site) (page : Page) (q : List ℕ) (c : Bool) (text : List ℕ) (loads : List Event) → page ≡ pages.Federate → IsFederate es q (answers.ends page c) text × (loads ≡ []) →
    IsAnswered (basis es site) page q c (outcome text loads)
answered-federate es site pages.Targets q c text loads e r = absurd cc
answered-federate es site pages.Federate q c text loads e r = r
answered-federate es site pages.Reload q c text loads e r = absurd cc
answered-federate es site pages.OtherMethod q c text loads e r = absurd cc
answered-federate es site pages.OtherPath q c text loads e r = absurd cc
answered-federate es site pages.Body q c text loads e r = absurd cc

pub answered-plain : (es : List Event) (site : Site) (page : Page) (q : List ℕ) (c : Bool) (text : List ℕ) → answers.is_plain page ≡ true → text ≡ answers.answer es page c → IsAnswered (basis es site) page q c (outcome text [])
answered-plain es site pages.Targets q c text e r = (r, refl)
answered-plain es site pages.Federate q c text e r = absurd (true≢false (sym e))
answered-plain es site pages.Reload q c text e r = absurd (true≢false (sym e))
answered-plain es site pages.OtherMethod q c text e r = (r, refl)
answered-plain es site pages.OtherPath q c text e r = (r, refl)
answered-plain es site pages.Body q c text e r = (r, refl)

pub plain-page : (page : Page) → (page ≡ pages.Federate → ⊥) → (page ≡ pages.Reload → ⊥) → answers.is_plain page ≡ true
plain-page pages.Targets f r = refl
plain-page pages.Federate f r = absurd (f refl)
plain-page pages.Reload f r = absurd (r refl)
plain-page pages.OtherMethod f r = refl
plain-page pages.OtherPath f r = refl
plain-page pages.Body f r = refl

-- a request whose head was read, and that was answered
pub stepped-whole : (es : List Event) (site : Site) (bytes : List ℕ) (r : Request) (len : ℕ) (reply : List ℕ) (after : List Event) →
    HasRequest bytes r len → AnsweredBy (basis es site) r reply after → Stepped (basis es site) bytes (if answers.ends r.page r.closes then Ends else GoesOn len) reply after
stepped-whole es site bytes r len reply after h a = by (answers.ends r.page r.closes) refl
  where
    x : Exchange
    x = record { head = h.head; reply = reply; loads = a.loads }

    is : IsAnswered (basis es site) (page_of h.head) (query_of h.head.target) (closes h.head) (outcome reply a.loads)
    is =
        subst (λ p. IsAnswered (basis es site) p (query_of h.head.target) (closes h.head) (outcome reply a.loads)) h.page_is
        (subst (λ q. IsAnswered (basis es site) r.page q (closes h.head) (outcome reply a.loads)) h.query_is (subst (λ c. IsAnswered (basis es site) r.page r.query.now c (outcome reply a.loads)) h.closes_is a.is))

    end_is : answers.ends (page_of h.head) (closes h.head) ≡ answers.ends r.page r.closes
    end_is = ap (λ p. answers.ends p (closes h.head)) (sym h.page_is) ∙ ap (λ c. answers.ends r.page c) (sym h.closes_is)

    by : (b : Bool) → answers.ends r.page r.closes ≡ b → Stepped (basis es site) bytes (if b then Ends else GoesOn len) reply after
    by true e = record {
      loads = a.loads;
      is = inl (record { exchange = x; next = drop len bytes; head = h.reads; over = end_is ∙ e; is = is; replies_are = refl; loads_are = refl });
      journal = a.journal;
    }
    by false e = record {
      loads = a.loads;
      is = record { exchange = x; head = h.reads; goes_on = end_is ∙ e; is = is; reply_is = refl; loads_are = refl; some = h.some; within = h.within };
      journal = a.journal;
    }

-- a shelf that was read has its files still
pub site-stays : (a b : ShelfSeen) (file : List ℕ) → ShelfStays (used a b) → site b file ≡ site a file
site-stays a b file s = ap (λ files. record { files = files; file = file }) s.files

pub stays-then : (a b c : ShelfSeen) → ShelfStays (used a b) → ShelfStays (used b c) → ShelfStays (used a c)
stays-then a b c f g = record { files = g.files ∙ f.files; faults = g.faults ∙ f.faults }

-- what was answered of some bytes, up to a place
pub record Run (es : List Event) (site : Site) (bytes : List ℕ) (len : ℕ) (after : List Event) (sink : Use SinkSeen) : Type 0 where
  pub replies : List ℕ
  pub loads : List Event
  pub answered : Answered (basis es site) bytes (drop len bytes) (outcome replies loads)
  pub within : len ≤ length bytes
  pub put : Took replies sink
  pub journal : after ≡ es ++ loads

pub run-none : (es : List Event) (site : Site) (bytes : List ℕ) (s : SinkSeen) → Run es site bytes 0 es (used s s)
run-none es site bytes s = record {
  replies = [];
  loads = [];
  answered = answered-none es site bytes;
  within = omega arith;
  put = took-none s s refl;
  journal = sym (append-nil es);
}

-- a reply more
pub run-goes : (es : List Event) (site : Site) (bytes : List ℕ) (len more : ℕ) (mid after : List Event) (a b c : SinkSeen) →
    Run es site bytes len mid (used a b) → PutStep (basis mid site) (drop len bytes) (GoesOn more) after (used b c) → Run es site bytes (len + more) after (used a c)
run-goes es site bytes len more mid after a b c r p =
    let g = p.stepped.is in
    let one : Answered (basis mid site) (drop len bytes) (drop (len + more) bytes) (outcome p.reply p.stepped.loads) =
    subst (λ t. Answered (basis mid site) (drop len bytes) t (outcome p.reply p.stepped.loads)) (drop-drop more len bytes)
    (answered-one mid site (drop len bytes) (drop more (drop len bytes)) p.reply p.stepped.loads g.exchange g.head g.goes_on g.is g.reply_is g.loads_are) in
    record {
      replies = r.replies ++ p.reply;
      loads = r.loads ++ p.stepped.loads;
      answered = answered-then es site bytes r.replies (drop len bytes) p.reply (drop (len + more) bytes) r.loads p.stepped.loads r.answered
          (subst (λ (js : List Event). Answered (basis js site) (drop len bytes) (drop (len + more) bytes) (outcome p.reply p.stepped.loads)) r.journal one);
      within = omega (arith, r.within, g.within, length-drop len bytes);
      put = took-then r.replies p.reply a b c r.put p.put;
      journal = p.stepped.journal ∙ (ap (λ (js : List Event). js ++ p.stepped.loads) r.journal ∙ append_assoc es r.loads p.stepped.loads);
    }

-- the end of the connection
pub run-ends : (es : List Event) (site : Site) (bytes : List ℕ) (len : ℕ) (mid after : List Event) (a b c : SinkSeen) →
    Run es site bytes len mid (used a b) → PutStep (basis mid site) (drop len bytes) Ends after (used b c) → Ended (basis es site) bytes after (used a c)
run-ends es site bytes len mid after a b c r p = record {
  replies = r.replies ++ p.reply;
  loads = r.loads ++ p.stepped.loads;
  closed = closed-then es site bytes r.replies (drop len bytes) p.reply r.loads p.stepped.loads r.answered
      (subst (λ (js : List Event). IsClosed (basis js site) (drop len bytes) (outcome p.reply p.stepped.loads)) r.journal
      (closed-last mid site (drop len bytes) p.reply p.stepped.loads p.stepped.is));
  put = took-then r.replies p.reply a b c r.put p.put;
  journal = p.stepped.journal ∙ (ap (λ (js : List Event). js ++ p.stepped.loads) r.journal ∙ append_assoc es r.loads p.stepped.loads);
}

-- nothing more can be answered yet
pub run-waits : (es : List Event) (site : Site) (bytes : List ℕ) (len : ℕ) (mid after : List Event) (a b c : SinkSeen) →
    Run es site bytes len mid (used a b) → PutStep (basis mid site) (drop len bytes) Waits after (used b c) → Reached (basis es site) bytes len after (used a c)
run-waits es site bytes len mid after a b c r p =
    let w = p.stepped.is in
    let none : Took [] (used b c) = subst (λ t. Took t (used b c)) w.reply_is p.put in
    record {
      replies = r.replies;
      loads = r.loads;
      answered = r.answered;
      torn = w.torn;
      within = r.within;
      put = subst (λ t. Took t (used a c)) (append-nil r.replies) (took-then r.replies [] a b c r.put none);
      journal = p.stepped.journal ∙ (ap (λ (js : List Event). mid ++ js) w.loads_are ∙ (append-nil mid ∙ r.journal));
    }

-- a reply that was cut
run-cut : (es : List Event) (site : Site) (bytes : List ℕ) (len : ℕ) (mid after : List Event) (a b c : SinkSeen) →
    Run es site bytes len mid (used a b) → CutStep (basis mid site) (drop len bytes) after (used b c) → StoppedCut (basis es site) bytes after (used a c)
run-cut es site bytes len mid after a b c r p = record {
  replies = r.replies ++ p.reply;
  loads = r.loads ++ p.stepped.loads;
  first = of p.step p.stepped.is;
  cut = cut-then r.replies p.reply a b c r.put p.cut;
  journal = p.stepped.journal ∙ (ap (λ (js : List Event). js ++ p.stepped.loads) r.journal ∙ append_assoc es r.loads p.stepped.loads);
}
  where
    joined : (f : AreFirst (basis mid site) (drop len bytes) (outcome p.reply p.stepped.loads)) → AreFirst (basis es site) bytes (outcome (r.replies ++ p.reply) (r.loads ++ p.stepped.loads))
    joined f = first-then es site bytes r.replies (drop len bytes) p.reply r.loads p.stepped.loads r.answered
        (subst (λ (js : List Event). AreFirst (basis js site) (drop len bytes) (outcome p.reply p.stepped.loads)) r.journal f)

    of : (s : Step) → IsStep (basis mid site) (drop len bytes) s (outcome p.reply p.stepped.loads) → AreFirst (basis es site) bytes (outcome (r.replies ++ p.reply) (r.loads ++ p.stepped.loads))
    of (GoesOn more) g = joined (inl (record {
      rest = drop more (drop len bytes);
      answered = answered-one mid site (drop len bytes) (drop more (drop len bytes)) p.reply p.stepped.loads g.exchange g.head g.goes_on g.is g.reply_is g.loads_are;
    }))
    of Ends g = joined (inr (closed-last mid site (drop len bytes) p.reply p.stepped.loads g))
    of Waits w = joined (inl (record {
      rest = drop len bytes;
      answered = subst (λ t. Answered (basis mid site) (drop len bytes) (drop len bytes) (outcome t p.stepped.loads)) (sym w.reply_is)
          (subst (λ (ls : List Event). Answered (basis mid site) (drop len bytes) (drop len bytes) (outcome [] ls)) (sym w.loads_are) (answered-none mid site (drop len bytes)));
    }))

-- no reply
journal-then : (stop : Stop) (es loads mid after : List Event) → mid ≡ es ++ loads → JournalBy stop mid after → JournalBy stop (es ++ loads) after
journal-then NoMemory es loads mid after e j = (j.0, j.1 ∙ ap (λ (js : List Event). js ++ j.0) e)
journal-then ReadFault es loads mid after e j = j ∙ e
journal-then WriteFault es loads mid after e j = j ∙ e

whole : (stop : Stop) (es : List Event) (site : Site) (bytes : List ℕ) (len : ℕ) (mid after : List Event) (a b c : SinkSeen) →
    Run es site bytes len mid (used a b) → NoStep stop mid after (used b c) → StoppedWhole stop (basis es site) bytes after (used a c)
whole stop es site bytes len mid after a b c r n = record {
  replies = r.replies;
  loads = r.loads;
  begun = record { rest = drop len bytes; answered = r.answered };
  put = subst (λ s. Took r.replies (used a s)) (sym n.sink_same) r.put;
  journal = journal-then stop es r.loads mid after r.journal n.journal;
}

pub run-stops : (stop : Stop) (es : List Event) (site : Site) (bytes : List ℕ) (len : ℕ) (mid after : List Event) (a b c : SinkSeen) →
    Run es site bytes len mid (used a b) → StopsStep stop (basis mid site) (drop len bytes) after (used b c) → StopsIn stop (basis es site) bytes after (used a c)
run-stops WriteFault es site bytes len mid after a b c r s = run-cut es site bytes len mid after a b c r s
run-stops ReadFault es site bytes len mid after a b c r s = whole ReadFault es site bytes len mid after a b c r s
run-stops NoMemory es site bytes len mid after a b c r s = whole NoMemory es site bytes len mid after a b c r s

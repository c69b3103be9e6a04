-- A connection that was served to its end.
use Rattle.std.proofs.Common.{◌≡◌, inl, inr, ℕ, List, [], ◌++◌, take, drop, sym, ap, subst, ◌∙◌, append_assoc, append-nil}
use Rattle.std.specs.Prelude.{Option, Some, None, IfSome}
use Rattle.std.proofs.lemmas.List.{take-append-drop}
use Rattle.journal_text.specs.declared.events.Event.{Event}
use Rattle.outside.specs.Sources.{Gives}
use Rattle.status_server.specs.Connections.{IsClosed, IsOpen, IsServed, outcome}
use Rattle.status_server.specs.Reloads.{Site, basis}
use Rattle.status_server.specs.Serving.{IsOver, IsServedWhole, ServesAll}
use Rattle.status_server.specs.Steps.{site}
use Rattle.status_server.proofs.ConnectionLemmas.{closed-append}

-- by what the source told before, and tells now
known : (es : List Event) (x : Site) (bytes replies : List ℕ) (loads : List Event) (before after : Option (List ℕ)) → Gives bytes before after →
    IsClosed (basis es x) (take 1048576 bytes) (outcome replies loads) → IfSome before (λ had. IsServed (basis es x) had (outcome replies loads))
known es x bytes replies loads None after g c = tt
known es x bytes replies loads (Some had) after (rest, is, whole) c =
    let front : take 1048576 bytes ++ (drop 1048576 bytes ++ rest) ≡ had = sym (append_assoc (take 1048576 bytes) (drop 1048576 bytes) rest) ∙ (ap (λ t. t ++ rest) (take-append-drop 1048576 bytes) ∙ sym whole) in
    inr (subst (λ t. IsClosed (basis es x) t (outcome replies loads)) front (closed-append es x (take 1048576 bytes) replies (drop 1048576 bytes ++ rest) loads c))

known-open : (es : List Event) (x : Site) (bytes replies : List ℕ) (loads : List Event) (before after : Option (List ℕ)) → Gives bytes before after → IfSome before (λ had. after ≡ Some []) →
    IsOpen (basis es x) bytes (outcome replies loads) → IfSome before (λ had. IsServed (basis es x) had (outcome replies loads))
known-open es x bytes replies loads None after g e o = tt
known-open es x bytes replies loads (Some had) after (rest, is, whole) e o =
    let same : Some rest ≡ Some [] = sym is ∙ e in
    let none : rest ≡ [] = cc in
    inl (subst (λ t. IsOpen (basis es x) t (outcome replies loads)) (sym (whole ∙ (ap (λ t. bytes ++ t) none ∙ append-nil bytes))) o)

pub serves-all : ServesAll
serves-all es file t after s = of t.source.before.left served
  where
    served : IfSome t.source.before.left (λ had. IsServed (basis es (site t.shelf.before file)) had (outcome s.replies s.loads))
    served = by s.so.0
      where
        by : IsOver (basis es (site t.shelf.before file)) s.bytes (outcome s.replies s.loads) t.source → IfSome t.source.before.left (λ had. IsServed (basis es (site t.shelf.before file)) had (outcome s.replies s.loads))
        by (inl c) = known es (site t.shelf.before file) s.bytes s.replies s.loads t.source.before.left t.source.after.left s.given.left c
        by (inr o) = known-open es (site t.shelf.before file) s.bytes s.replies s.loads t.source.before.left t.source.after.left s.given.left o.2 o.0

    of : (o : Option (List ℕ)) → IfSome o (λ had. IsServed (basis es (site t.shelf.before file)) had (outcome s.replies s.loads)) →
        IfSome o (λ had. IsServedWhole (basis es (site t.shelf.before file)) had t.sink after)
    of None h = tt
    of (Some had) h = record { replies = s.replies; loads = s.loads; served = h; put = s.so.2; journal = s.journal }

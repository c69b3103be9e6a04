-- What a sink took and what a source gave, one call after another.
use Rattle.std.proofs.Common.{◌≡◌, ℕ, ◌+◌, List, [], ◌++◌, length, refl, sym, ap, subst, ◌∙◌, arith, append_assoc, append-nil}
use Rattle.std.specs.Prelude.{Option, Some, None, IfSome}
use Rattle.std.proofs.lemmas.List.{length-append}
use Rattle.outside.specs.Objects.{SinkSeen, used, Adds, Took, Cut, Rose}
use Rattle.outside.specs.Sources.{SourceSeen, Gives}
use Rattle.status_server.specs.Serving.{HasGiven}

adds-none : (o p : Option (List ℕ)) → p ≡ o → IfSome o (λ had. p ≡ Some (had ++ []))
adds-none None p e = tt
adds-none (Some had) p e = e ∙ ap Some (sym (append-nil had))

-- a sink that wasn't used took nothing
pub took-none : (a b : SinkSeen) → b ≡ a → Took [] (used a b)
took-none a b e = record { whole = adds-none a.bytes b.bytes (ap (λ (s : SinkSeen). s.bytes) e); sound = ap (λ (s : SinkSeen). s.faults) e }

adds-then : (p q : List ℕ) (a b c : SinkSeen) → Adds p (used a b) → Adds q (used b c) → Adds (p ++ q) (used a c)
adds-then p q a b c f g = of a.bytes b.bytes f g
  where
    of : (t u : Option (List ℕ)) → IfSome t (λ had. u ≡ Some (had ++ p)) → IfSome u (λ had. c.bytes ≡ Some (had ++ q)) → IfSome t (λ had. c.bytes ≡ Some (had ++ (p ++ q)))
    of None u f g = tt
    of (Some had) u f g =
        let P : Option (List ℕ) → Type 0 = λ z. IfSome z (λ had. c.bytes ≡ Some (had ++ q)) in
        let h : c.bytes ≡ Some ((had ++ p) ++ q) = subst P f g in
        h ∙ ap Some (append_assoc had p q)

pub took-then : (p q : List ℕ) (a b c : SinkSeen) → Took p (used a b) → Took q (used b c) → Took (p ++ q) (used a c)
took-then p q a b c f g = record { whole = adds-then p q a b c f.whole g.whole; sound = g.sound ∙ f.sound }

-- text that a sink took, and text behind it that was cut
pub cut-then : (p q : List ℕ) (a b c : SinkSeen) → Took p (used a b) → Cut q (used b c) → Cut (p ++ q) (used a c)
cut-then p q a b c f g = record {
  front = (p ++ g.front.0, g.front.1, ap (λ t. p ++ t) g.front.2 ∙ sym (append_assoc p g.front.0 g.front.1), adds-then p g.front.0 a b c f.whole g.front.3);
  counted = subst (λ n. Rose n c.faults) f.sound g.counted;
}

-- a source that gave nothing yet
gives-none : (o : Option (List ℕ)) → Gives [] o o
gives-none None = tt
gives-none (Some had) = (had, refl, refl)

pub given-none : (s : SourceSeen) → HasGiven [] (used s s)
given-none s = record { left = gives-none s.left; given = omega arith }

gives-then : (p q : List ℕ) (x y z : Option (List ℕ)) → Gives p x y → Gives q y z → Gives (p ++ q) x z
gives-then p q None y z f g = tt
gives-then p q (Some had) y z (rest, is, whole) g =
    let h : Gives q (Some rest) z = subst (λ t. Gives q t z) is g in
    (h.0, h.1, whole ∙ ap (λ t. p ++ t) h.2 ∙ sym (append_assoc p q h.0))

pub given-then : (p q : List ℕ) (a b c : SourceSeen) → HasGiven p (used a b) → Gives q b.left c.left → c.given ≡ b.given + length q → HasGiven (p ++ q) (used a c)
given-then p q a b c f g n = record {
  left = gives-then p q a.left b.left c.left f.left g;
  given = omega (arith, n, f.given, length-append p q);
}

-- Messages behind text that was taken or cut.
use Rattle.std.proofs.Common.{◌≡◌, ℕ, List, [], ◌++◌, subst, sym, ap, ◌∙◌, arith, append_assoc, append-nil}
use Rattle.outside.specs.Objects.{SinkSeen, Use, used, Took, Cut, Rose}
use Rattle.book_text.proofs.FlowLemmas.{adds_more, cut_more}
use Rattle.scrape_commands.specs.Ends.{IsSaid}

-- messages: all of it was taken, or it was cut
pub said_whole : (p : List ℕ) (u : Use SinkSeen) → Took p u → IsSaid p u
said_whole p u t = let sound = t.sound in record { front = (p, [], sym (append-nil p), t.whole); whole = λ n. t.whole; later = omega (arith, sound) }

pub said_cut : (p : List ℕ) (u : Use SinkSeen) → Cut p u → IsSaid p u
said_cut p u c = record { front = c.front; whole = λ n. absurd (n c.counted); later = c.counted.0 }

-- a message behind a text that was taken
pub said_after : (p q : List ℕ) (s t u : SinkSeen) → Took p (used s t) → IsSaid q (used t u) → IsSaid (p ++ q) (used s u)
said_after p q s t u a m =
    let Calm : ℕ → Type 0 = λ z. ¬ Rose z u.faults in
    let later = m.later in
    let sound = a.sound in
    record {
      front = (p ++ m.front.0, m.front.1, ap (λ z. p ++ z) m.front.2 ∙ sym (append_assoc p m.front.0 m.front.1), adds_more p m.front.0 s t u a.whole m.front.3);
      whole = λ n. adds_more p q s t u a.whole (m.whole (subst Calm (sym a.sound) n));
      later = omega (arith, later, sound);
    }

-- a text under another name, and a message behind it
module _ (p text q : List ℕ) (is : p ≡ text) where
  pub said_then : (s t u : SinkSeen) → Took p (used s t) → IsSaid q (used t u) → IsSaid (text ++ q) (used s u)
  said_then s t u took said = subst (λ z. IsSaid (z ++ q) (used s u)) is (said_after p q s t u took said)

  pub cut_then : (u : Use SinkSeen) → Cut p u → IsSaid (text ++ q) u
  cut_then u c = subst (λ z. IsSaid (z ++ q) u) is (said_cut (p ++ q) u (cut_more p q u c))

-- three texts and a fourth behind them
pub three_then : (a b c d : List ℕ) → (a ++ (b ++ c)) ++ d ≡ a ++ (b ++ (c ++ d))
three_then a b c d = append_assoc a (b ++ c) d ∙ ap (λ z. a ++ z) (append_assoc b c d)

-- the message of a fault: its word and place under other names, and what stands behind them
module _ (head word place rest w p : List ℕ) (a : w ≡ word) (b : p ≡ place) where
  named : (head ++ (w ++ p)) ++ rest ≡ head ++ (word ++ (place ++ rest))
  named = three_then head w p rest ∙ (ap (λ z. head ++ (z ++ (p ++ rest))) a ∙ ap (λ z. head ++ (word ++ (z ++ rest))) b)

  pub said_named : (s t u : SinkSeen) → Took (head ++ (w ++ p)) (used s t) → IsSaid rest (used t u) → IsSaid (head ++ (word ++ (place ++ rest))) (used s u)
  said_named s t u took said = subst (λ z. IsSaid z (used s u)) named (said_after (head ++ (w ++ p)) rest s t u took said)

  pub cut_named : (u : Use SinkSeen) → Cut (head ++ (w ++ p)) u → IsSaid (head ++ (word ++ (place ++ rest))) u
  cut_named u c = subst (λ z. IsSaid z u) named (said_cut ((head ++ (w ++ p)) ++ rest) u (cut_more (head ++ (w ++ p)) rest u c))

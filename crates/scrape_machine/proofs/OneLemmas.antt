-- An event that is something to at most one life.
use Rattle.std.proofs.Common.{◌≡◌, ℕ, zero, suc, ◌+◌, ◌<◌, ◌≤◌, List, [], ◌∷◌, ◌++◌, length, set, get_or, refl, sym, ap₂, ◌∙◌, arith, append-nil}
use Rattle.journal_text.specs.declared.events.Event.{Event}
use Rattle.scrape_machine.specs.declared.lives.Life.{Life}
use Rattle.scrape_machine.specs.declared.lives.Local.TheVariants.{Nothing}
use Rattle.scrape_machine.specs.Lives.{life_after, life_gives}
use Rattle.scrape_machine.specs.Machine.{World, local, lives_from, gives_from}

module _ (w : World) (e : Event) where
  pub quiet_lives : ((n : ℕ) (l : Life) → local w e n l ≡ Nothing) → (n : ℕ) (ls : List Life) → lives_from w e n ls ≡ ls
  quiet_lives h n [] = refl
  quiet_lives h n (l ∷ ls) = ap₂ (λ p zs. life_after p l ∷ zs) (h n l) (quiet_lives h (n + 1) ls)

  pub quiet_gives : ((n : ℕ) (l : Life) → local w e n l ≡ Nothing) → (n : ℕ) (ls : List Life) → gives_from w e n ls ≡ []
  quiet_gives h n [] = refl
  quiet_gives h n (l ∷ ls) = ap₂ (λ p zs. life_gives p l ++ zs) (h n l) (quiet_gives h (n + 1) ls)

  module _ (k : ℕ) (h : (n : ℕ) (l : Life) → (k ≡ n → ⊥) → local w e n l ≡ Nothing) where
    past_lives : (n : ℕ) (ls : List Life) → k < n → lives_from w e n ls ≡ ls
    past_lives n [] lt = refl
    past_lives n (l ∷ ls) lt = ap₂ (λ p zs. life_after p l ∷ zs) (h n l (λ q. absurd (omega arith))) (past_lives (n + 1) ls (omega arith))

    past_gives : (n : ℕ) (ls : List Life) → k < n → gives_from w e n ls ≡ []
    past_gives n [] lt = refl
    past_gives n (l ∷ ls) lt = ap₂ (λ p zs. life_gives p l ++ zs) (h n l (λ q. absurd (omega arith))) (past_gives (n + 1) ls (omega arith))

    -- there are no lives at that number
    pub far_lives : (n : ℕ) (ls : List Life) → n + length ls ≤ k → lives_from w e n ls ≡ ls
    far_lives n [] le = refl
    far_lives n (l ∷ ls) le = ap₂ (λ p zs. life_after p l ∷ zs) (h n l (λ q. absurd (omega arith))) (far_lives (n + 1) ls (omega arith))

    pub far_gives : (n : ℕ) (ls : List Life) → n + length ls ≤ k → gives_from w e n ls ≡ []
    far_gives n [] le = refl
    far_gives n (l ∷ ls) le = ap₂ (λ p zs. life_gives p l ++ zs) (h n l (λ q. absurd (omega arith))) (far_gives (n + 1) ls (omega arith))

    one_lives : (n j : ℕ) (ls : List Life) (x : Life) → k ≡ n + j → j < length ls → x ≡ get_or ls j x →
        lives_from w e n ls ≡ set ls j (life_after (local w e k x) x)
    one_lives n j [] x q lt at = absurd (omega arith)
    one_lives n zero (l ∷ ls) x q lt at =
        let here : n ≡ k = omega arith in
        ap₂ (λ z zs. z ∷ zs) (ap₂ (λ i y. life_after (local w e i y) y) here (sym at)) (past_lives (n + 1) ls (omega arith))
    one_lives n (suc j) (l ∷ ls) x q lt at =
        ap₂ (λ p zs. life_after p l ∷ zs) (h n l (λ r. absurd (omega arith))) (one_lives (n + 1) j ls x (omega arith) (omega arith) at)

    one_gives : (n j : ℕ) (ls : List Life) (x : Life) → k ≡ n + j → j < length ls → x ≡ get_or ls j x →
        gives_from w e n ls ≡ life_gives (local w e k x) x
    one_gives n j [] x q lt at = absurd (omega arith)
    one_gives n zero (l ∷ ls) x q lt at =
        let here : n ≡ k = omega arith in
        ap₂ (λ z zs. z ++ zs) (ap₂ (λ i y. life_gives (local w e i y) y) here (sym at)) (past_gives (n + 1) ls (omega arith)) ∙ append-nil _
    one_gives n (suc j) (l ∷ ls) x q lt at =
        ap₂ (λ p zs. life_gives p l ++ zs) (h n l (λ r. absurd (omega arith))) (one_gives (n + 1) j ls x (omega arith) (omega arith) at)

    pub one_life : (ls : List Life) (x : Life) → k < length ls → x ≡ get_or ls k x → lives_from w e 0 ls ≡ set ls k (life_after (local w e k x) x)
    one_life ls x lt at = one_lives 0 k ls x (omega arith) lt at

    pub one_life_gives : (ls : List Life) (x : Life) → k < length ls → x ≡ get_or ls k x → gives_from w e 0 ls ≡ life_gives (local w e k x) x
    one_life_gives ls x lt at = one_gives 0 k ls x (omega arith) lt at

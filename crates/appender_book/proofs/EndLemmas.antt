-- The end of the last place that passes.
use Rattle.std.proofs.Common.{◌≡◌, ℕ, zero, suc, ◌<◌, ◌≤◌, Bool, true, false, if◌then◌else◌, refl, sym, ap, ap₂, ◌∙◌, true≢false, arith}
use Rattle.appender_book.specs.Index.{last_end}

-- it looks at places below n alone
pub end_alike : (f g : ℕ → Bool) (n : ℕ) → ((i : ℕ) → i < n → f i ≡ g i) → last_end f n ≡ last_end g n
end_alike f g zero h = refl
end_alike f g (suc n) h = ap₂ (λ b m. if b then suc n else m) (h n (omega arith)) (end_alike f g n (λ i lt. h i (omega arith)))

pub end_within : (f : ℕ → Bool) (n : ℕ) → last_end f n ≤ n
end_within f zero = omega arith
end_within f (suc n) = by (end_within f n) (f n)
  where
    by : last_end f n ≤ n → (b : Bool) → (if b then suc n else last_end f n) ≤ suc n
    by h true = omega arith
    by h false = omega arith

pub end_stays : (f : ℕ → Bool) (n : ℕ) → last_end f (last_end f n) ≡ last_end f n
end_stays f zero = refl
end_stays f (suc n) = by (end_stays f n) (f n) refl
  where
    by : last_end f (last_end f n) ≡ last_end f n → (b : Bool) → f n ≡ b →
        last_end f (if b then suc n else last_end f n) ≡ (if b then suc n else last_end f n)
    by h true at = ap (λ b. if b then suc n else last_end f n) at
    by h false at = h

-- a place that passes ends there
pub end_here : (f : ℕ → Bool) (n : ℕ) → f n ≡ true → last_end f (suc n) ≡ suc n
end_here f n at = ap (λ b. if b then suc n else last_end f n) at

-- a place that doesn't pass is skipped
pub end_skips : (f : ℕ → Bool) (n : ℕ) → f n ≡ false → last_end f (suc n) ≡ last_end f n
end_skips f n at = ap (λ b. if b then suc n else last_end f n) at

-- where an end stays, the place before it passes
pub end_passes : (f : ℕ → Bool) (n : ℕ) → last_end f (suc n) ≡ suc n → f n ≡ true
end_passes f n stays = by (f n) refl
  where
    by : (b : Bool) → f n ≡ b → f n ≡ true
    by true at = at
    by false at =
        let e : last_end f n ≡ suc n = sym (end_skips f n at) ∙ stays in
        let w : last_end f n ≤ n = end_within f n in
        absurd (omega arith)

not_passed : (a b : Bool) → (b ≡ true → a ≡ true) → a ≡ false → b ≡ false
not_passed a true h at = absurd (true≢false (sym (h refl) ∙ at))
not_passed a false h at = refl

-- a test that passes less may begin at the end of one that passes more
pub end_narrower : (f g : ℕ → Bool) → ((i : ℕ) → g i ≡ true → f i ≡ true) → (n : ℕ) → last_end g n ≡ last_end g (last_end f n)
end_narrower f g h zero = refl
end_narrower f g h (suc n) = by (end_narrower f g h n) (f n) refl
  where
    by : last_end g n ≡ last_end g (last_end f n) → (b : Bool) → f n ≡ b → last_end g (suc n) ≡ last_end g (if b then suc n else last_end f n)
    by ih true at = refl
    by ih false at = end_skips g n (not_passed (f n) (g n) (h n) at) ∙ ih

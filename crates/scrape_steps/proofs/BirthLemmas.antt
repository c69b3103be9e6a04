-- One life more of those that begin.
use Rattle.std.proofs.Common.{◌≡◌, ℕ, suc, ◌+◌, ◌<◌, Bool, true, false, cond, List, [], ◌∷◌, ◌++◌, length, take, get_or, refl, sym, ap, ap₂, ◌∙◌, arith, append_assoc, append-nil, length-append}
use Rattle.std.specs.List.{filter}
use Rattle.std.proofs.lemmas.List.Elements.{filter_more}
use Rattle.target_set.specs.declared.targets.Target.{Target}
use Rattle.jobs_in_force.specs.declared.jobs.InForce.{InForce}
use Rattle.scrape_machine.specs.declared.lives.Life.{Life}
use Rattle.jobs_in_force.specs.Settings.{settings_of}
use Rattle.scrape_machine.specs.Lives.{born}
use Rattle.scrape_machine.specs.Machine.{born_all}

pub length-born : (m n : ℕ) (j : InForce) (ts : List Target) → length (born_all m n j ts) ≡ length ts
length-born m n j [] = refl
length-born m n j (t ∷ ts) = ap (λ k. suc k) (length-born m (n + 1) j ts)

born-append : (m n : ℕ) (j : InForce) (ts us : List Target) → born_all m n j (ts ++ us) ≡ born_all m n j ts ++ born_all m (n + length ts) j us
born-append m n j [] us = let e : n ≡ n + 0 = omega arith in ap (λ k. born_all m k j us) e
born-append m n j (t ∷ ts) us =
    let e : (n + 1) + length ts ≡ n + length (t ∷ ts) = omega arith in
    ap (λ more. born m n (settings_of j.job) t ∷ more) (born-append m (n + 1) j ts us ∙ ap (λ k. born_all m (n + 1) j ts ++ born_all m k j us) e)

module _ (m n : ℕ) (j : InForce) (p : Target → Bool) (ts : List Target) (i : ℕ) (t : Target) (lt : i < length ts) (at : t ≡ get_or ts i t) where
  front : (b : Bool) → p t ≡ b → filter p (take (i + 1) ts) ≡ filter p (take i ts) ++ cond b (t ∷ []) []
  front b h = filter_more p ts i t lt ∙ ap (λ x. filter p (take i ts) ++ cond (p x) (x ∷ []) []) (sym at) ∙ ap (λ c. filter p (take i ts) ++ cond c (t ∷ []) []) h

  pub born_one : (before now more : List Life) (l : Life) → p t ≡ true → now ≡ before ++ born_all m (n + length before) j (filter p (take i ts)) →
      l ≡ born m (n + length now) (settings_of j.job) t → more ≡ now ++ l ∷ [] → more ≡ before ++ born_all m (n + length before) j (filter p (take (i + 1) ts))
  born_one before now more l h was new e =
      let k = n + length before in
      let xs = filter p (take i ts) in
      let count : n + length now ≡ k + length xs =
      (let a : length now ≡ length before + length xs = ap length was ∙ length-append before (born_all m k j xs) ∙ ap (λ z. length before + z) (length-born m k j xs) in omega arith) in
      e ∙ ap₂ (λ zs z. zs ++ z ∷ []) was (new ∙ ap (λ z. born m z (settings_of j.job) t) count)
      ∙ append_assoc before (born_all m k j xs) (born m (k + length xs) (settings_of j.job) t ∷ [])
      ∙ ap (λ zs. before ++ zs) (sym (ap (born_all m k j) (front true h) ∙ born-append m k j xs (t ∷ [])))

  pub born_none : (before now : List Life) → p t ≡ false → now ≡ before ++ born_all m (n + length before) j (filter p (take i ts)) →
      now ≡ before ++ born_all m (n + length before) j (filter p (take (i + 1) ts))
  born_none before now h was = was ∙ ap (λ xs. before ++ born_all m (n + length before) j xs) (sym (front false h ∙ append-nil _))

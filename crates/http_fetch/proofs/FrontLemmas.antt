-- What is at the front of a text is one thing, whatever follows.
use Rattle.std.proofs.Common.{◌≡◌, ℕ, ◌≤◌, Bool, true, false, List, [], ◌∷◌, ◌++◌, length, drop, refl, sym, subst, arith, ◌&&◌}
use Rattle.std.specs.List.{list_all}
use Rattle.httparse.specs.Grammar.{ResponseHead, ChunkLine}
use Rattle.httparse.proofs.GrammarLemmas.{response_unique, ReadsResponse-append}
use Rattle.httparse.proofs.ChunkLemmas.{chunk_line_unique, ReadsChunkLine-append}
use Rattle.http_fetch.specs.Replies.{HeadAt}
use Rattle.http_fetch.specs.Chunks.{LineAt, is_text}

pub head-unique : {text : List ℕ} {h k : ResponseHead} {r q : List ℕ} → HeadAt text h r → HeadAt text k q → (h ≡ k) × (r ≡ q)
head-unique {text} {h} {k} {r} {q} x y = response_unique text h k r q x.reads y.reads

pub head-append : {text : List ℕ} {h : ResponseHead} {rest : List ℕ} (more : List ℕ) → HeadAt text h rest → HeadAt (text ++ more) h (rest ++ more)
head-append {text} {h} {rest} more x = record { reads = ReadsResponse-append text h rest more x.reads; few = x.few; short = x.short }

pub line-unique : {text : List ℕ} {l k : ChunkLine} {r q : List ℕ} → LineAt text l r → LineAt text k q → (l ≡ k) × (r ≡ q)
line-unique {text} {l} {k} {r} {q} x y = chunk_line_unique text l k r q x.reads y.reads

pub line-append : {text : List ℕ} {l : ChunkLine} {rest : List ℕ} (more : List ℕ) → LineAt text l rest → LineAt (text ++ more) l (rest ++ more)
line-append {text} {l} {rest} more x = record { reads = ReadsChunkLine-append text l rest more x.reads; short = x.short }

-- of two fronts of one text the shorter begins the longer
pub fronts : (b a x y : List ℕ) → a ++ x ≡ b ++ y → length b ≤ length a → (a ≡ b ++ drop (length b) a) × (y ≡ drop (length b) a ++ x)
fronts [] a x y e h = (refl, sym e)
fronts (c ∷ b) [] x y e h = absurd (omega arith)
fronts (c ∷ b) (d ∷ a) x y e h =
    let tails : a ++ x ≡ b ++ y = cc in
    let r = fronts b a x y tails (omega arith) in
    let first : d ≡ c = cc in
    ((let k : a ≡ b ++ drop (length b) a = r.0 in cc), r.1)

pub both : (x y : Bool) → (x && y) ≡ true → (x ≡ true) × (y ≡ true)
both true y e = (refl, e)
both false y e = absurd cc

-- two lines of one text are one
pub lines : (t u after rest : List ℕ) → list_all is_text t ≡ true → list_all is_text u ≡ true → t ++ 10 ∷ after ≡ u ++ 10 ∷ rest → (t ≡ u) × (after ≡ rest)
lines [] [] after rest a b e = (refl, cc)
lines [] (d ∷ u) after rest a b e =
    let same : 10 ≡ d = cc in
    let n : list_all is_text (10 ∷ u) ≡ true = subst (λ k. list_all is_text (k ∷ u) ≡ true) (sym same) b in
    absurd cc
lines (c ∷ t) [] after rest a b e =
    let same : c ≡ 10 = cc in
    let n : list_all is_text (10 ∷ t) ≡ true = subst (λ k. list_all is_text (k ∷ t) ≡ true) same a in
    absurd cc
lines (c ∷ t) (d ∷ u) after rest a b e =
    let tails : t ++ 10 ∷ after ≡ u ++ 10 ∷ rest = cc in
    let first : c ≡ d = cc in
    let r = lines t u after rest (both (is_text c) (list_all is_text t) a).1 (both (is_text d) (list_all is_text u) b).1 tails in
    ((let k : t ≡ u = r.0 in cc), r.1)

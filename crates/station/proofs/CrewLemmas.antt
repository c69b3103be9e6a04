-- One more worker of a crew.
use Rattle.std.proofs.Common.{◌≡◌, ℕ, ◌+◌, List, [], ◌∷◌, ◌++◌, length, map, Bool, true, false, refl, sym, ap, ◌∙◌, subst, arith, ◌&&◌}
use Rattle.std.proofs.lemmas.List.{map-append, length-map}
use Rattle.outside.specs.Fetches.{FetchSeen}
use Rattle.run_lock.specs.declared.marks.Entry.{Entry}
use Rattle.run_lock.specs.Seats.{IsOwn, AreFresh, AreOwn}
use Rattle.turn_lock.specs.Passes.{own_of}
use Rattle.turn_lock.specs.declared.lock.Pass.{Pass}
use Rattle.turn_lock.specs.declared.lock.TurnLock.{TurnLock}
use Rattle.station.specs.Crews.{HasFinished, AllFinished}

module _ {T : Type 0} where
  pub own_push : (lock : TurnLock T Entry) (n m : ℕ) (ps : List (Pass T Entry)) (p : Pass T Entry) → m ≡ n + length ps → AreOwn lock n ps → IsOwn lock m p → AreOwn lock n (ps ++ p ∷ [])
  own_push lock n m [] p is all one = (subst (λ (k : ℕ). IsOwn lock k p) (omega (arith, is)) one, tt)
  own_push lock n m (q ∷ ps) p is all one = (all.0, own_push lock (n + 1) m ps p (omega (arith, is)) all.1 one)

  -- the pass of the last worker, which brought nothing
  pub fresh_front : (lock : TurnLock T Entry) (n : ℕ) (ps : List (Pass T Entry)) (p : Pass T Entry) → AreFresh lock n (ps ++ p ∷ []) → AreFresh lock n ps × IsOwn lock (n + length ps) p × (own_of p ≡ [])
  fresh_front lock n [] p all = (tt, subst (λ (k : ℕ). IsOwn lock k p) (omega arith) all.0, all.1)
  fresh_front lock n (q ∷ ps) p all = let r = fresh_front lock (n + 1) ps p all.2 in ((all.0, all.1, r.0), subst (λ (k : ℕ). IsOwn lock k p) (omega arith) r.1, r.2)

  finished_push : (n m : ℕ) (xs ys : List FetchSeen) (ps : List (Pass T Entry)) (x y : FetchSeen) (p : Pass T Entry) → AllFinished n xs ys ps → m ≡ n + length xs → HasFinished m x y p → AllFinished n (xs ++ x ∷ []) (ys ++ y ∷ []) (ps ++ p ∷ [])
  finished_push n m [] [] [] x y p all is one = (subst (λ (k : ℕ). HasFinished k x y p) (omega (arith, is)) one, tt)
  finished_push n m [] [] (q ∷ ps) x y p all is one = absurd all
  finished_push n m [] (b ∷ ys) ps x y p all is one = absurd all
  finished_push n m (a ∷ xs) [] ps x y p all is one = absurd all
  finished_push n m (a ∷ xs) (b ∷ ys) [] x y p all is one = absurd all
  finished_push n m (a ∷ xs) (b ∷ ys) (q ∷ ps) x y p all is one = (all.0, finished_push (n + 1) m xs ys ps x y p all.1 (omega (arith, is)) one)

  pub crew_push : {F : Type 0} (seen : F → FetchSeen) (old front back new : List F) (x y : F) (ps ps' : List (Pass T Entry)) (p : Pass T Entry) (place : ℕ) → old ≡ front ++ x ∷ [] → new ≡ back ++ y ∷ [] → ps' ≡ ps ++ p ∷ []
      → place ≡ length front → AllFinished 0 (map seen front) (map seen back) ps → HasFinished place (seen x) (seen y) p → AllFinished 0 (map seen old) (map seen new) ps'
  crew_push seen old front back new x y ps ps' p place was now sat is all one =
      let a : map seen old ≡ map seen front ++ seen x ∷ [] = ap (map seen) was ∙ map-append seen front (x ∷ []) in
      let b : map seen new ≡ map seen back ++ seen y ∷ [] = ap (map seen) now ∙ map-append seen back (y ∷ []) in
      subst (λ (t : List FetchSeen × List FetchSeen × List (Pass T Entry)). AllFinished 0 t.0 t.1 t.2) (λ i. (sym a i, sym b i, sym sat i))
      (finished_push 0 place (map seen front) (map seen back) ps (seen x) (seen y) p all (omega (arith, is, length-map front seen)) one)

pub and_parts : (a b : Bool) → (a && b) ≡ true → (a ≡ true) × (b ≡ true)
and_parts true b h = (refl, h)
and_parts false b h = absurd (cc)

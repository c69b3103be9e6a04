-- One more event of a journal.
use Rattle.std.proofs.Common.{◌≡◌, ℕ, suc, ◌+◌, List, [], ◌∷◌, ◌++◌, length, refl, sym, ap, ◌∙◌, append_assoc, append-nil}
use Rattle.journal_text.specs.declared.events.Event.{Event}
use Rattle.scrape_machine.specs.declared.lives.Life.{Life}
use Rattle.scrape_machine.specs.Machine.{World, lives_from, step, gives, run, book_from, world_of, book_of}

pub length-lives : (w : World) (e : Event) (n : ℕ) (xs : List Life) → length (lives_from w e n xs) ≡ length xs
length-lives w e n [] = refl
length-lives w e n (x ∷ xs) = ap (λ k. suc k) (length-lives w e (n + 1) xs)

-- one more event
run_push : (w : World) (es : List Event) (e : Event) → run w (es ++ e ∷ []) ≡ step (run w es) e
run_push w [] e = refl
run_push w (f ∷ es) e = run_push (step w f) es e

book_push : (w : World) (es : List Event) (e : Event) → book_from w (es ++ e ∷ []) ≡ book_from w es ++ gives (run w es) e
book_push w [] e = append-nil _
book_push w (f ∷ es) e = ap (λ zs. gives w f ++ zs) (book_push (step w f) es e) ∙ sym (append_assoc _ (book_from (step w f) es) _)

pub world_push : (es : List Event) (e : Event) → world_of (es ++ e ∷ []) ≡ step (world_of es) e
world_push es e = run_push _ es e

pub book_of_push : (es : List Event) (e : Event) → book_of (es ++ e ∷ []) ≡ book_of es ++ gives (world_of es) e
book_of_push es e = book_push _ es e

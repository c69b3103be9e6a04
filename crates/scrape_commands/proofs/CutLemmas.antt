-- What is printed of a journal that begins another begins what is printed of that.
use Rattle.std.proofs.Common.{ℕ, ◌≡◌, Bool, true, false, List, [], ◌∷◌, ◌++◌, flat_map, refl, sym, ap, ◌∙◌, append_assoc}
use Rattle.journal_text.specs.declared.events.Event.{Event}
use Rattle.report_samples.specs.declared.entries.Entry.{Entry}
use Rattle.book_text.specs.Texts.{entry_line, kept_line, kept_behind, printed}
use Rattle.scrape_machine.specs.Machine.{beginning, book_from, book_of, world_of}
use Rattle.scrape_laws.proofs.MeetLemmas.{book_append}
use Rattle.scrape_commands.specs.Cuts.{CutLaw, IsCutOf}

abbrev Goes : List ℕ → List ℕ → Type 0
Goes front text = (more : List ℕ) × (text ≡ front ++ more)

text_goes : (xs ys : List Entry) → Goes (flat_map entry_line xs) (flat_map entry_line (xs ++ ys))
text_goes [] ys = (flat_map entry_line ys, refl)
text_goes (x ∷ xs) ys =
    let g = text_goes xs ys in
    (g.0, ap (λ t. entry_line x ++ t) g.1 ∙ sym (append_assoc (entry_line x) (flat_map entry_line xs) g.0))

kept_goes : (earlier xs ys : List Entry) → Goes (kept_behind earlier xs) (kept_behind earlier (xs ++ ys))
unfolding kept_behind
kept_goes earlier [] ys = (kept_behind earlier ys, refl)
kept_goes earlier (x ∷ xs) ys =
    let g = kept_goes (x ∷ earlier) xs ys in
    (g.0, ap (λ t. kept_line earlier x ++ t) g.1 ∙ sym (append_assoc (kept_line earlier x) (kept_behind (x ∷ earlier) xs) g.0))

printed_goes : (kept : Bool) (xs ys : List Entry) → Goes (printed kept xs) (printed kept (xs ++ ys))
printed_goes false xs ys = text_goes xs ys
printed_goes true xs ys = kept_goes [] xs ys

pub cut_law : (journal front : List Event) (kept : Bool) → IsCutOf journal front → CutLaw journal front kept
cut_law journal front kept c =
    let begins = c.is_front.cut c.version journal c.gone c.whole in
    let more = book_from (world_of front) begins.0 in
    let book : book_of journal ≡ book_of front ++ more = ap book_of begins.1 ∙ book_append front beginning begins.0 in
    let goes = printed_goes kept (book_of front) more in
    record { begins = begins; more = goes.0; printed_is = ap (printed kept) book ∙ goes.1 }

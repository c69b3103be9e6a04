-- Rows and their places among those of another body.
use Rattle.std.proofs.Common.{◌≡◌, ℕ, zero, suc, ◌<◌, ◌≤◌, List, [], ◌∷◌, ◌++◌, length, take, drop, get_or, Option, Some, None, IfSome, refl, sym, ap, ◌∙◌, arith, subst, subst₂}
use Rattle.std.specs.Prelude.{All, Ok, slice_get}
use Rattle.std.proofs.lemmas.List.Elements.{All-nil}
use Rattle.label_set.specs.declared.forms.Form.{Form}
use Rattle.expo_reader.specs.Bodies.{lines_of, reading, row_list, rows_from}
use Rattle.expo_reader.specs.Like.{AreLike, IsLike, place_list, raws}
use Rattle.expo_reader.specs.Spans.{IsWithin, rows_seen, span_list, span_row}
use Rattle.expo_reader.specs.declared.rows.BodyRow.{BodyRow}
use Rattle.expo_reader.specs.declared.spans.LineSpan.{LineSpan}
use Rattle.expo_reader.specs.declared.spans.RowSpan.{RowSpan}
use Rattle.expo_reader.proofs.SpanLemmas.{seen-push}

-- the raw text of the row at a place
pub raw-at : (rows : List BodyRow) (k : ℕ) (r : BodyRow) → k < length rows → r ≡ get_or rows k r → slice_get (raws rows) k ≡ Some r.raw
raw-at [] k r h at = absurd (omega arith)
raw-at (x ∷ rows) zero r h at = ap (λ (y : BodyRow). Some y.raw) (sym at)
raw-at (x ∷ rows) (suc k) r h at = raw-at rows k r (omega (arith, h)) at

-- no row is like any
pub none-like : (others : List (List ℕ)) (ps : List ℕ) (rs : List BodyRow) → ps ≡ [] → rs ≡ [] → AreLike others ps rs
none-like others [] [] p r = tt
none-like others (x ∷ ps) rs p r = absurd cc
none-like others [] (x ∷ rs) p r = absurd cc

-- a line more
pub like-push : (others : List (List ℕ)) (number p : ℕ) (line : List ℕ) (o : Option (ℕ × LineSpan)) →
    IfSome o (λ q. IsLike others p (take q.1.raw_len (drop q.0 line))) → (ps : List ℕ) (rs : List BodyRow) → AreLike others ps rs →
    AreLike others (ps ++ place_list p o) (rs ++ row_list (span_row number line o))
like-push others number p line None h [] [] all = tt
like-push others number p line (Some q) h [] [] all = (h, tt)
like-push others number p line o h [] (r ∷ rs) all = absurd all
like-push others number p line o h (x ∷ ps) [] all = absurd all
like-push others number p line o h (x ∷ ps) (r ∷ rs) all = (all.0, like-push others number p line o h ps rs all.1)

pub like-seen : (others : List (List ℕ)) (body rest : List ℕ) (rows new : List RowSpan) (number place end p : ℕ) (o : Option (ℕ × LineSpan)) → rest ≡ drop place body →
    IfSome o (λ q. q.0 ≤ end) → new ≡ rows ++ span_list number place end o → (ps more : List ℕ) → more ≡ ps ++ place_list p o →
    IfSome o (λ q. IsLike others p (take q.1.raw_len (drop q.0 (take end rest)))) → AreLike others ps (rows_seen body rows) → AreLike others more (rows_seen body new)
like-seen others body rest rows new number place end p o rest_is h new_is ps more more_is alike all =
    let seen = ap (rows_seen body) new_is ∙ seen-push body rows number place end o h in
    let at : IfSome o (λ q. IsLike others p (take q.1.raw_len (drop q.0 (take end (drop place body))))) =
    subst (λ (r : List ℕ). IfSome o (λ q. IsLike others p (take q.1.raw_len (drop q.0 (take end r))))) rest_is alike
    in
    subst₂ (AreLike others) (sym more_is) (sym seen) (like-push others number p (take end (drop place body)) o at ps (rows_seen body rows) all)

-- a body without bytes has no rows
pub no-rows : (form : Form) (bytes : List ℕ) (rows : List RowSpan) → bytes ≡ [] → rows ≡ [] → (reading form bytes ≡ Ok (rows_seen bytes rows)) × All (IsWithin (length bytes)) rows
unfolding reading rows_from lines_of rows_seen
no-rows form [] [] b r = (refl, All-nil (IsWithin 0))
no-rows form (x ∷ bytes) rows b r = absurd cc
no-rows form [] (x ∷ rows) b r = absurd cc

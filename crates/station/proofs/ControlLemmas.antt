-- The lines of an input that comes in pieces, and what is done with them one after another.
use Rattle.std.proofs.Common.{◌≡◌, ◌≢◌, ℕ, ◌+◌, List, [], ◌∷◌, ◌++◌, length, length-append, Bool, true, false, cond, refl, sym, ap, ap₂, ◌∙◌, subst, arith, append_assoc, append-nil}
use Rattle.std.specs.Prelude.{Option, Some, None, Result, Ok, Err, All, IfSome, is_err}
use Rattle.std.specs.List.{slice_split, onto_first}
use Rattle.std.proofs.lemmas.List.Elements.{All-push}
use Rattle.std.proofs.lemmas.List.Splits.{slice_split_none, slice_split_at}
use Rattle.jobs_in_force.specs.declared.jobs.InForce.{InForce}
use Rattle.journal_text.specs.declared.events.Event.{Event}
use Rattle.outside.specs.Objects.{ShelfSeen, SinkSeen, Use, used, Rose}
use Rattle.outside.specs.Sources.{SourceSeen}
use Rattle.outside.specs.declared.objects.StoredFile.{StoredFile}
use Rattle.run_lock.specs.Callers.{jobs_after, jobs_known}
use Rattle.run_lock.specs.declared.tasks.ControlOrder.{ControlOrder}
use Rattle.run_lock.proofs.CallerLemmas.{jobs_join}
use Rattle.run_lock.specs.declared.marks.Entry.{Entry}
use Rattle.station.specs.Control.{Did, did, both, line_did, lines_did, rereads, control_lines, given_lines, caller_did, Fits, Came, HasOrdered, HasOrderedSome, StoppedIn, HasDone, IsFrontOf, DoesSo, LastDoes, HasRead, piece_did, last_did, ControlDid, CallerDid, caller_use}
use Rattle.station.specs.InputLines.{is_feed, all_but_last, last_of, ended_lines, open_line, unless_empty, all_lines}
use Rattle.station.specs.declared.reader.Reader.{Reader}
use Rattle.station.specs.declared.ends.RunEnd.{RunEnd}
use Rattle.station.specs.declared.ends.RunEnd.TheVariants.{Done, ReadFault, WriteFault, TooLong, NoMemory}
use Rattle.station.specs.declared.ends.Stop.{Stop}
use Rattle.station.specs.declared.ends.Stop.TheVariants as stop
use Rattle.station.specs.Ends.{FileStop, end_of, last_end}
use Rattle.station.proofs.FrontLemmas.{known_after, adds_nothing, done_none, done_both, both_assoc, both_none, front_both, front_first, begun_then, does_then, stop_longer, last_stops}

-- the parts at line feeds: there is one at least, and the last has none
abbrev parts : List ℕ → List (List ℕ)
parts bytes = slice_split is_feed bytes

parts_some : (bytes : List ℕ) → (y : List ℕ) × (ys : List (List ℕ)) × (parts bytes ≡ y ∷ ys)
parts_some [] = ([], [], refl)
parts_some (b ∷ bytes) = of (is_feed b) (parts_some bytes)
  where
    of : (c : Bool) → (y : List ℕ) × (ys : List (List ℕ)) × (parts bytes ≡ y ∷ ys) → (y : List ℕ) × (ys : List (List ℕ)) × (cond c ([] ∷ parts bytes) (onto_first b (parts bytes)) ≡ y ∷ ys)
    of true h = ([], parts bytes, refl)
    of false h = (b ∷ h.0, h.1, ap (onto_first b) h.2)

front_cons : (x y : List ℕ) (xs ys : List (List ℕ)) → xs ≡ y ∷ ys → all_but_last (x ∷ xs) ≡ x ∷ all_but_last xs
front_cons x y xs ys is = ap (λ zs. all_but_last (x ∷ zs)) is ∙ ap (λ zs. x ∷ all_but_last zs) (sym is)

last_cons : (x y : List ℕ) (xs ys : List (List ℕ)) → xs ≡ y ∷ ys → last_of (x ∷ xs) ≡ last_of xs
last_cons x y xs ys is = ap (λ zs. last_of (x ∷ zs)) is ∙ ap last_of (sym is)

front_join : (xs ys zs : List (List ℕ)) (y : List ℕ) → ys ≡ y ∷ zs → all_but_last (xs ++ ys) ≡ xs ++ all_but_last ys
front_join [] ys zs y is = refl
front_join (x ∷ []) ys zs y is = front_cons x y ys zs is
front_join (x ∷ (w ∷ xs)) ys zs y is = ap (λ us. x ∷ us) (front_join (w ∷ xs) ys zs y is)

last_join : (xs ys zs : List (List ℕ)) (y : List ℕ) → ys ≡ y ∷ zs → last_of (xs ++ ys) ≡ last_of ys
last_join [] ys zs y is = refl
last_join (x ∷ []) ys zs y is = last_cons x y ys zs is
last_join (x ∷ (w ∷ xs)) ys zs y is = last_join (w ∷ xs) ys zs y is

onto_join : (b : ℕ) (xs : List (List ℕ)) (y : List ℕ) (ys : List (List ℕ)) (more : List ℕ) → xs ≡ y ∷ ys → is_feed b ≡ false
    → onto_first b (all_but_last xs ++ parts (last_of xs ++ more)) ≡ all_but_last (onto_first b xs) ++ parts (last_of (onto_first b xs) ++ more)
onto_join b [] y ys more is not = absurd (cc)
onto_join b (x ∷ []) y ys more is not = sym (ap (λ (c : Bool). cond c ([] ∷ parts (x ++ more)) (onto_first b (parts (x ++ more)))) not)
onto_join b (x ∷ (w ∷ xs)) y ys more is not = refl

parts_join : (xs ys : List ℕ) → parts (xs ++ ys) ≡ all_but_last (parts xs) ++ parts (last_of (parts xs) ++ ys)
parts_join [] ys = refl
parts_join (b ∷ xs) ys = of (is_feed b) refl (parts_some xs) (parts_join xs ys)
  where
    of : (c : Bool) → is_feed b ≡ c → (y : List ℕ) × (zs : List (List ℕ)) × (parts xs ≡ y ∷ zs) → parts (xs ++ ys) ≡ all_but_last (parts xs) ++ parts (last_of (parts xs) ++ ys)
        → cond c ([] ∷ parts (xs ++ ys)) (onto_first b (parts (xs ++ ys))) ≡ all_but_last (cond c ([] ∷ parts xs) (onto_first b (parts xs))) ++ parts (last_of (cond c ([] ∷ parts xs) (onto_first b (parts xs))) ++ ys)
    of true is some h = ap (λ us. [] ∷ us) h ∙ sym (ap₂ (λ us (v : List ℕ). us ++ parts (v ++ ys)) (front_cons [] some.0 (parts xs) some.1 some.2) (last_cons [] some.0 (parts xs) some.1 some.2))
    of false is some h = ap (onto_first b) h ∙ onto_join b (parts xs) some.0 some.1 ys some.2 is

-- further bytes
pub ended_join : (xs ys : List ℕ) → ended_lines (xs ++ ys) ≡ ended_lines xs ++ ended_lines (open_line xs ++ ys)
ended_join xs ys = let more = parts_some (open_line xs ++ ys) in ap all_but_last (parts_join xs ys) ∙ front_join (all_but_last (parts xs)) (parts (open_line xs ++ ys)) more.1 more.0 more.2

pub open_join : (xs ys : List ℕ) → open_line (xs ++ ys) ≡ open_line (open_line xs ++ ys)
open_join xs ys = let more = parts_some (open_line xs ++ ys) in ap last_of (parts_join xs ys) ∙ last_join (all_but_last (parts xs)) (parts (open_line xs ++ ys)) more.1 more.0 more.2

-- a line that has no feed, and one more byte
abbrev pub IsOpen : List ℕ → Type 0
IsOpen line = All (λ b. is_feed b ≡ false) line

pub none_ended : (line : List ℕ) → IsOpen line → ended_lines line ≡ []
none_ended line unfed = ap all_but_last (slice_split_none is_feed line unfed)

pub all_open : (line : List ℕ) → IsOpen line → open_line line ≡ line
all_open line unfed = ap last_of (slice_split_none is_feed line unfed)

pub feed_ends : (line : List ℕ) (b : ℕ) → IsOpen line → is_feed b ≡ true → ended_lines (line ++ b ∷ []) ≡ line ∷ []
feed_ends line b unfed is = ap all_but_last (slice_split_at is_feed line b [] unfed is)

pub feed_opens : (line : List ℕ) (b : ℕ) → IsOpen line → is_feed b ≡ true → open_line (line ++ b ∷ []) ≡ []
feed_opens line b unfed is = ap last_of (slice_split_at is_feed line b [] unfed is)

pub lines_join : (files : List StoredFile) (jobs : List InForce) (n : ℕ) (xs ys : List (List ℕ)) → lines_did files jobs n (xs ++ ys) ≡ both (lines_did files jobs n xs) (lines_did files (jobs_after jobs (lines_did files jobs n xs).orders) (n + length xs) ys)
lines_join files jobs n [] ys = ap (λ m. lines_did files jobs m ys) (omega arith)
lines_join files jobs n (x ∷ xs) ys =
    let one = line_did files jobs n x in
    let next = jobs_after jobs one.orders in
    let rest = lines_did files next (n + 1) xs in
    ap (both one) (lines_join files next (n + 1) xs ys ∙ ap₂ (λ js m. both rest (lines_did files js m ys)) (sym (jobs_join jobs one.orders rest.orders)) (omega arith))
    ∙ both_assoc one rest _

-- a reader that has read some bytes, and then others
pub read_none : (r s : Reader) → s ≡ r → HasRead [] r s
read_none r s same =
    let line : r.line.items ++ [] ≡ r.line.items = append-nil r.line.items in
    record {
      line = ap (λ (x : Reader). x.line.items) same ∙ sym (ap open_line line ∙ all_open r.line.items r.unfed);
      before_is = ap (λ (x : Reader). x.before) same ∙ sym (ap (λ ls. r.before + length ls) (ap ended_lines line ∙ none_ended r.line.items r.unfed) ∙ omega arith);
    }

pub piece_none : (files : List StoredFile) (jobs : List InForce) (r : Reader) (v w : List Entry) (a b : SinkSeen) → w ≡ v → b ≡ a → HasDone (piece_did files jobs r []) (used v w) (used a b)
piece_none files jobs r v w a b same still =
    subst (λ ls. HasDone (lines_did files jobs (r.before + 1) ls) (used v w) (used a b)) (sym (ap ended_lines (append-nil r.line.items) ∙ none_ended r.line.items r.unfed)) (done_none v w a b same still)

-- the lines that end with further bytes
pub more_ended : (r s : Reader) (xs ys : List ℕ) → HasRead xs r s → ended_lines (r.line.items ++ (xs ++ ys)) ≡ ended_lines (r.line.items ++ xs) ++ ended_lines (s.line.items ++ ys)
more_ended r s xs ys had =
    ap ended_lines (sym (append_assoc r.line.items xs ys)) ∙ (ended_join (r.line.items ++ xs) ys ∙ ap (λ l. ended_lines (r.line.items ++ xs) ++ ended_lines (l ++ ys)) (sym had.line))

pub read_both : (r s t : Reader) (xs ys : List ℕ) → HasRead xs r s → HasRead ys s t → HasRead (xs ++ ys) r t
read_both r s t xs ys one next = record {
  line = next.line ∙ (ap (λ l. open_line (l ++ ys)) one.line ∙ (sym (open_join (r.line.items ++ xs) ys) ∙ ap open_line (append_assoc r.line.items xs ys)));
  before_is = omega (arith, next.before_is, one.before_is, length-append (ended_lines (r.line.items ++ xs)) (ended_lines (s.line.items ++ ys)), ap (λ (ls : List (List ℕ)). length ls) (more_ended r s xs ys one));
}

pub piece_both : {A : Type 0} (d : Result A Stop) (files : List StoredFile) (start : List Event) (r s : Reader) (xs ys : List ℕ) (v w u : List Entry) (a b c : SinkSeen) → HasRead xs r s → HasDone (piece_did files (jobs_known start v) r xs) (used v w) (used a b)
    → DoesSo d (piece_did files (jobs_known start w) s ys) (used w u) (used b c) → DoesSo d (piece_did files (jobs_known start v) r (xs ++ ys)) (used v u) (used a c)
piece_both d files start r s xs ys v w u a b c had one next =
    let jobs = jobs_known start v in
    let first = ended_lines (r.line.items ++ xs) in
    let rest = ended_lines (s.line.items ++ ys) in
    let x = lines_did files jobs (r.before + 1) first in
    let at : s.before + 1 ≡ (r.before + 1) + length first = omega (arith, had.before_is) in
    let y = lines_did files (jobs_after jobs x.orders) ((r.before + 1) + length first) rest in
    let second : DoesSo d y (used w u) (used b c) = subst (λ (e : Did). DoesSo d e (used w u) (used b c)) (ap₂ (λ js n. lines_did files js n rest) (known_after start x.orders v w one.orders) at) next in
    subst (λ (e : Did). DoesSo d e (used v u) (used a c)) (sym (ap (lines_did files jobs (r.before + 1)) (more_ended r s xs ys had) ∙ lines_join files jobs (r.before + 1) first rest)) (does_then d x y v w u a b c one second)

-- a front of the lines, and what was done with the lines of a front of a piece where something stopped it
pub lines_front : (files : List StoredFile) (jobs : List InForce) (n : ℕ) (xs ys : List (List ℕ)) → IsFrontOf (lines_did files jobs n xs) (lines_did files jobs n (xs ++ ys))
lines_front files jobs n xs ys =
    let x = lines_did files jobs n xs in
    subst (λ (d : Did). IsFrontOf x d) (sym (lines_join files jobs n xs ys)) (front_first x (lines_did files (jobs_after jobs x.orders) (n + length xs) ys))

pub piece_longer : {A : Type 0} (d : Result A Stop) (files : List StoredFile) (jobs : List InForce) (r : Reader) (xs ys : List ℕ) (v w : List Entry) (err : Use SinkSeen) → is_err d ≡ true
    → DoesSo d (piece_did files jobs r xs) (used v w) err → DoesSo d (piece_did files jobs r (xs ++ ys)) (used v w) err
piece_longer (Ok x) files jobs r xs ys v w err fails h = absurd (cc)
piece_longer (Err s) files jobs r xs ys v w err fails h =
    let first = r.line.items ++ xs in
    let more : ended_lines (r.line.items ++ (xs ++ ys)) ≡ ended_lines first ++ ended_lines (open_line first ++ ys) = ap ended_lines (sym (append_assoc r.line.items xs ys)) ∙ ended_join first ys in
    stop_longer s (piece_did files jobs r xs) (piece_did files jobs r (xs ++ ys)) v w err
    (subst (λ ls. IsFrontOf (piece_did files jobs r xs) (lines_did files jobs (r.before + 1) ls)) (sym more) (lines_front files jobs (r.before + 1) (ended_lines first) (ended_lines (open_line first ++ ys)))) h

-- one more byte
pub other_read : (r s : Reader) (b : ℕ) → is_feed b ≡ false → s.line.items ≡ r.line.items ++ b ∷ [] → s.before ≡ r.before → HasRead (b ∷ []) r s
other_read r s b not line same =
    let unfed : IsOpen (r.line.items ++ b ∷ []) = All-push (λ x. is_feed x ≡ false) r.line.items b r.unfed not in
    record { line = line ∙ sym (all_open (r.line.items ++ b ∷ []) unfed); before_is = same ∙ sym (ap (λ ls. r.before + length ls) (none_ended (r.line.items ++ b ∷ []) unfed) ∙ omega arith) }

pub other_did : (files : List StoredFile) (jobs : List InForce) (r : Reader) (b : ℕ) (v w : List Entry) (e f : SinkSeen) → is_feed b ≡ false → w ≡ v → f ≡ e → HasDone (piece_did files jobs r (b ∷ [])) (used v w) (used e f)
other_did files jobs r b v w e f not same still =
    let unfed : IsOpen (r.line.items ++ b ∷ []) = All-push (λ x. is_feed x ≡ false) r.line.items b r.unfed not in
    subst (λ ls. HasDone (lines_did files jobs (r.before + 1) ls) (used v w) (used e f)) (sym (none_ended (r.line.items ++ b ∷ []) unfed)) (done_none v w e f same still)

pub feed_read : (r s : Reader) (b : ℕ) → is_feed b ≡ true → s.line.items ≡ [] → s.before ≡ r.before + 1 → HasRead (b ∷ []) r s
feed_read r s b is line more = record {
  line = line ∙ sym (feed_opens r.line.items b r.unfed is);
  before_is = more ∙ sym (ap (λ ls. r.before + length ls) (feed_ends r.line.items b r.unfed is));
}

pub feed_did : {A : Type 0} (d : Result A Stop) (files : List StoredFile) (jobs : List InForce) (r : Reader) (b : ℕ) (v w : List Entry) (u : Use SinkSeen) → is_feed b ≡ true → DoesSo d (line_did files jobs (r.before + 1) r.line.items) (used v w) u
    → DoesSo d (piece_did files jobs r (b ∷ [])) (used v w) u
feed_did d files jobs r b v w u is done =
    subst (λ (e : Did). DoesSo d e (used v w) u) (sym (ap (lines_did files jobs (r.before + 1)) (feed_ends r.line.items b r.unfed is) ∙ both_none (line_did files jobs (r.before + 1) r.line.items))) done

-- an unfed line at the end
pub last_none : (files : List StoredFile) (jobs : List InForce) (r : Reader) (v w : List Entry) (a b : SinkSeen) → length r.line.items ≡ 0 → w ≡ v → b ≡ a → HasDone (last_did files jobs r) (used v w) (used a b)
last_none files jobs r v w a b none same still = subst (λ ls. HasDone (lines_did files jobs (r.before + 1) ls) (used v w) (used a b)) (sym (of r.line.items none)) (done_none v w a b same still)
  where
    of : (line : List ℕ) → length line ≡ 0 → unless_empty line ≡ []
    of [] h = refl
    of (x ∷ line) h = absurd (omega (arith, h))

pub last_one : {A : Type 0} (d : Result A Stop) (files : List StoredFile) (jobs : List InForce) (r : Reader) (v w : List Entry) (u : Use SinkSeen) → length r.line.items ≢ 0 → DoesSo d (line_did files jobs (r.before + 1) r.line.items) (used v w) u
    → DoesSo d (last_did files jobs r) (used v w) u
last_one d files jobs r v w u some done =
    subst (λ (e : Did). DoesSo d e (used v w) u) (sym (ap (lines_did files jobs (r.before + 1)) (of r.line.items some) ∙ both_none (line_did files jobs (r.before + 1) r.line.items))) done
  where
    of : (line : List ℕ) → length line ≢ 0 → unless_empty line ≡ line ∷ []
    of [] h = absurd (h refl)
    of (x ∷ line) h = refl

-- how the loop ends with the last line
pub last_ended : (d : Result (Unit {0}) Stop) (end : RunEnd) (x : Did) (v w : List Entry) (err : Use SinkSeen) → end ≡ last_end d → DoesSo d x (used v w) err → LastDoes end x (used v w) err
last_ended d end x v w err is h = subst (λ (e : RunEnd). LastDoes e x (used v w) err) (sym is) (of d h)
  where
    of : (d : Result (Unit {0}) Stop) → DoesSo d x (used v w) err → LastDoes (last_end d) x (used v w) err
    of (Ok t) h = h
    of (Err s) h = last_stops s x v w err h

-- what the caller did in all, and what its events tell of that at the end
if_some : {A : Type 0} {P Q : A → Type 0} (o : Option A) → ((x : A) → P x → Q x) → IfSome o P → IfSome o Q
if_some None f h = tt
if_some (Some x) f h = f x h

if_every : {A : Type 0} {Q : A → Type 0} (o : Option A) → ((x : A) → Q x) → IfSome o Q
if_every None f = tt
if_every (Some x) f = f x

fits_later : (end : RunEnd) (a b after : ShelfSeen) (x whole given d : Did) → b.faults ≡ a.faults → Fits end (used b after) whole given d → Fits end (used a after) (both x whole) (both x given) (both x d)
fits_later Done a b after x whole given d same h = ap (both x) h
fits_later ReadFault a b after x whole given d same h = (front_both x d whole h.0, λ calm. ap (both x) (h.1 (λ rose. calm (subst (λ (n : ℕ). Rose n after.faults) same rose))))
fits_later WriteFault a b after x whole given d same h = front_both x d whole h
fits_later TooLong a b after x whole given d same h = (front_both x d whole h.0, λ calm. ap (both x) (h.1 (λ rose. calm (subst (λ (n : ℕ). Rose n after.faults) same rose))))
fits_later NoMemory a b after x whole given d same h = tt

module _ (start : List Event) (control : Use SourceSeen) (v w u : List Entry) where
  -- the listed files were read, and then control
  pub caller_end : (end : RunEnd) (a b after : ShelfSeen) (d e f : SinkSeen) → b.files ≡ a.files → b.faults ≡ a.faults → e ≡ d
      → IfSome a.files (λ files. HasOrdered (rereads files (jobs_known start v)) v w) → ControlDid start end (caller_use (used b after) control (used e f)) (used w u) → CallerDid start end (caller_use (used a after) control (used d f)) (used v u)
  caller_end end a b after d e f same faults still read done more = of a.files b.files same read (done more)
    where
      one : (files : List StoredFile) (bytes : List ℕ) → HasOrdered (rereads files (jobs_known start v)) v w
          → Came end (caller_use (used b after) control (used e f)) (lines_did files (jobs_known start w) 1 (control_lines bytes)) (lines_did files (jobs_known start w) 1 (given_lines control bytes)) (used w u)
          → Came end (caller_use (used a after) control (used d f)) (caller_did files (jobs_known start v) (control_lines bytes)) (caller_did files (jobs_known start v) (given_lines control bytes)) (used v u)
      one files bytes read was =
          let os = rereads files (jobs_known start v) in
          let jobs = jobs_after (jobs_known start v) os in
          let whole = lines_did files jobs 1 (control_lines bytes) in
          let given = lines_did files jobs 1 (given_lines control bytes) in
          let came : Came end (caller_use (used b after) control (used e f)) whole given (used w u) =
          subst (λ js. Came end (caller_use (used b after) control (used e f)) (lines_did files js 1 (control_lines bytes)) (lines_did files js 1 (given_lines control bytes)) (used w u)) (known_after start os v w read) was in
          record {
            what = both (did os []) came.what;
            fits = fits_later end a b after (did os []) whole given came.what faults came.fits;
            done = done_both (did os []) came.what v w u d e f (record { orders = read; said = adds_nothing d e still }) came.done;
          }

      of : (x y : Option (List StoredFile)) → y ≡ x → IfSome x (λ files. HasOrdered (rereads files (jobs_known start v)) v w)
          → IfSome y (λ files. IfSome control.before.left (λ bytes. Came end (caller_use (used b after) control (used e f)) (lines_did files (jobs_known start w) 1 (control_lines bytes)) (lines_did files (jobs_known start w) 1 (given_lines control bytes)) (used w u)))
          → IfSome x (λ files. IfSome control.before.left (λ bytes. Came end (caller_use (used a after) control (used d f)) (caller_did files (jobs_known start v) (control_lines bytes)) (caller_did files (jobs_known start v) (given_lines control bytes)) (used v u)))
      of None y is r h = tt
      of (Some files) y is r h =
          if_some control.before.left (λ bytes. one files bytes r)
          (subst (λ o. IfSome o (λ files. IfSome control.before.left (λ bytes. Came end (caller_use (used b after) control (used e f)) (lines_did files (jobs_known start w) 1 (control_lines bytes)) (lines_did files (jobs_known start w) 1 (given_lines control bytes)) (used w u)))) is h)

  -- the reading of the listed files was stopped
  some_listed : (a b : ShelfSeen) (d e : SinkSeen) (files : List StoredFile) (lines : List (List ℕ)) (given : Did) → e ≡ d → Rose a.faults b.faults → HasOrderedSome (rereads files (jobs_known start v)) v w
      → Came ReadFault (caller_use (used a b) control (used d e)) (caller_did files (jobs_known start v) lines) given (used v w)
  some_listed a b d e files lines given still rose h =
      let rest = lines_did files (jobs_after (jobs_known start v) (rereads files (jobs_known start v))) 1 lines in
      record {
        what = did h.front [];
        fits = (record { rest = did (h.more ++ rest.orders) rest.said; orders = ap (λ (os : List ControlOrder). os ++ rest.orders) h.whole ∙ append_assoc h.front h.more rest.orders; said = refl }, λ calm. absurd (calm rose));
        done = record { orders = h.has; said = adds_nothing d e still };
      }

  pub stopped_did : (s : Stop) (end : RunEnd) (a b : ShelfSeen) (d e : SinkSeen) → end ≡ end_of s → e ≡ d → FileStop s (used a b) → IfSome a.files (λ files. StoppedIn s (rereads files (jobs_known start v)) v w)
      → CallerDid start end (caller_use (used a b) control (used d e)) (used v w)
  stopped_did s end a b d e is still stops h = subst (λ (x : RunEnd). CallerDid start x (caller_use (used a b) control (used d e)) (used v w)) (sym is) (of s stops h)
    where
      of : (s : Stop) → FileStop s (used a b) → IfSome a.files (λ files. StoppedIn s (rereads files (jobs_known start v)) v w) → CallerDid start (end_of s) (caller_use (used a b) control (used d e)) (used v w)
      of stop.ReadFault rose h more =
          if_some a.files (λ files had. if_every control.before.left (λ bytes. some_listed a b d e files (control_lines bytes) (caller_did files (jobs_known start v) (given_lines control bytes)) still rose had)) h
      of stop.WriteFault rose h more = absurd rose
      of stop.NoMemory rose h more = absurd (more refl)

-- where control has been read so far: the reader has what follows the last line feed, and counted the lines before it
pub record IsAt (eaten : List ℕ) (r : Reader) : Type 0 where
  pub line : r.line.items ≡ open_line eaten
  pub before_is : r.before ≡ length (ended_lines eaten)

pub at_more : (eaten bytes : List ℕ) (r s : Reader) → IsAt eaten r → HasRead bytes r s → IsAt (eaten ++ bytes) s
at_more eaten bytes r s at read = record {
  line = read.line ∙ (ap (λ l. open_line (l ++ bytes)) at.line ∙ sym (open_join eaten bytes));
  before_is = omega (arith, read.before_is, at.before_is, length-append (ended_lines eaten) (ended_lines (open_line eaten ++ bytes)), ap (λ (ls : List (List ℕ)). length ls) (ended_join eaten bytes), ap (λ l. length (ended_lines (l ++ bytes))) at.line);
}

-- after further lines, however far these came
lines_more : (Q R : Did → Type 0) (files : List StoredFile) (start : List Event) (n m : ℕ) (xs ys : List (List ℕ)) (v w : List Entry) (err : Use SinkSeen) → m ≡ n + length xs → HasDone (lines_did files (jobs_known start v) n xs) (used v w) err
    → Q (lines_did files (jobs_known start w) m ys) → ((x y : Did) → HasDone x (used v w) err → Q y → R (both x y)) → R (lines_did files (jobs_known start v) n (xs ++ ys))
lines_more Q R files start n m xs ys v w err at one next join =
    let jobs = jobs_known start v in
    let x = lines_did files jobs n xs in
    let y = lines_did files (jobs_after jobs x.orders) (n + length xs) ys in
    let second : Q y = subst Q (ap₂ (λ js k. lines_did files js k ys) (known_after start x.orders v w one.orders) at) next in
    subst R (sym (lines_join files jobs n xs ys)) (join x y one second)

pub eaten_more : {A : Type 0} (d : Result A Stop) (files : List StoredFile) (start : List Event) (eaten bytes : List ℕ) (r : Reader) (v w u : List Entry) (a b c : SinkSeen) → IsAt eaten r → HasDone (lines_did files (jobs_known start v) 1 (ended_lines eaten)) (used v w) (used a b)
    → DoesSo d (piece_did files (jobs_known start w) r bytes) (used w u) (used b c) → DoesSo d (lines_did files (jobs_known start v) 1 (ended_lines (eaten ++ bytes))) (used v u) (used a c)
eaten_more d files start eaten bytes r v w u a b c at one next =
    subst (λ ls. DoesSo d (lines_did files (jobs_known start v) 1 ls) (used v u) (used a c)) (sym (ended_join eaten bytes))
    (lines_more (λ (e : Did). DoesSo d e (used w u) (used b c)) (λ (e : Did). DoesSo d e (used v u) (used a c)) files start 1 (r.before + 1) (ended_lines eaten) (ended_lines (open_line eaten ++ bytes)) v w (used a b) (omega (arith, at.before_is)) one
    (subst (λ l. DoesSo d (lines_did files (jobs_known start w) (r.before + 1) (ended_lines (l ++ bytes))) (used w u) (used b c)) at.line next)
    (λ x y h k. does_then d x y v w u a b c h k))

last_then : (end : RunEnd) (x y : Did) (v w u : List Entry) (a b c : SinkSeen) → HasDone x (used v w) (used a b) → LastDoes end y (used w u) (used b c) → LastDoes end (both x y) (used v u) (used a c)
last_then Done x y v w u a b c one next = done_both x y v w u a b c one next
last_then ReadFault x y v w u a b c one next = begun_then x y v w u a b c one next
last_then WriteFault x y v w u a b c one next = begun_then x y v w u a b c one next
last_then TooLong x y v w u a b c one next = begun_then x y v w u a b c one next
last_then NoMemory x y v w u a b c one next = tt

pub eaten_all : (end : RunEnd) (files : List StoredFile) (start : List Event) (eaten : List ℕ) (r : Reader) (v w u : List Entry) (a b c : SinkSeen) → IsAt eaten r → HasDone (lines_did files (jobs_known start v) 1 (ended_lines eaten)) (used v w) (used a b)
    → LastDoes end (last_did files (jobs_known start w) r) (used w u) (used b c) → LastDoes end (lines_did files (jobs_known start v) 1 (all_lines eaten)) (used v u) (used a c)
eaten_all end files start eaten r v w u a b c at one next =
    lines_more (λ (e : Did). LastDoes end e (used w u) (used b c)) (λ (e : Did). LastDoes end e (used v u) (used a c)) files start 1 (r.before + 1) (ended_lines eaten) (unless_empty (open_line eaten)) v w (used a b) (omega (arith, at.before_is)) one
    (subst (λ l. LastDoes end (lines_did files (jobs_known start w) (r.before + 1) (unless_empty l)) (used w u) (used b c)) at.line next)
    (λ x y h k. last_then end x y v w u a b c h k)

pub eaten_none : (files : List StoredFile) (start : List Event) (v w : List Entry) (a b : SinkSeen) → w ≡ v → b ≡ a → HasDone (lines_did files (jobs_known start v) 1 (ended_lines [])) (used v w) (used a b)
eaten_none files start v w a b same still = done_none v w a b same still

-- What a line's orders and its refusal come to.
use Rattle.std.proofs.Common.{◌≡◌, ◌≢◌, ℕ, List, [], ◌∷◌, ◌++◌, length, map, reverse, true, false, refl, sym, ap, ◌∙◌, subst, arith, append_assoc, append-nil}
use Rattle.std.specs.Prelude.{Option, Some, None, Result, Ok, Err, IfOk, IfSome, OnSome, OnOk, is_err}
use Rattle.control_lines.specs.Messages.{message, said_of}
use mathlib.Core.List.{reverse-reverse}
use Rattle.std.proofs.lemmas.Bool.Decides.{nat_tests}
use Rattle.std.proofs.lemmas.List.{reverse-append}
use Rattle.config_fields.specs.declared.fault.ConfFault.{ConfFault}
use Rattle.control_lines.specs.declared.messages.Refusal.{Refusal}
use Rattle.control_lines.specs.declared.messages.Refusal.TheVariants as why
use Rattle.jobs_in_force.specs.Jobs.{in_force, loaded, updated}
use Rattle.jobs_in_force.specs.declared.jobs.Filed.{Filed}
use Rattle.jobs_in_force.specs.declared.jobs.InForce.{InForce}
use Rattle.journal_text.specs.declared.events.Event.{Event}
use Rattle.outside.specs.Objects.{SinkSeen, Use, used, Adds}
use Rattle.outside.specs.declared.objects.StoredFile.{StoredFile}
use Rattle.run_lock.specs.Callers.{load_fault, jobs_known}
use Rattle.run_lock.specs.Listed.{listed_in}
use Rattle.run_lock.specs.Tasks.{IsOrdered}
use Rattle.run_lock.specs.declared.listed.Listed.{Listed}
use Rattle.run_lock.specs.declared.tasks.ControlOrder.{ControlOrder}
use Rattle.run_lock.specs.declared.tasks.ControlOrder.TheVariants.{Load, Update}
use Rattle.scrape_machine.specs.Machine.{or_else, after_load}
use Rattle.run_lock.specs.declared.marks.Entry.{Entry}
use Rattle.station.specs.Control.{Did, did, found_in, update_of, update_in, updates_in, rereads, load_taken, update_does, update_refused, line_does, line_did, HasOrdered, HasOrderedSome, StoppedIn, Orders, Does, HasDone, HasBegun, StoppedDoing, DoesSo, Says}
use Rattle.station.specs.Ends.{SaidStops}
use Rattle.station.specs.InputLines.{is_feed}
use Rattle.station.specs.declared.ends.Stop.{Stop}
use Rattle.station.specs.declared.ends.Stop.TheVariants as stop
use Rattle.station.specs.declared.orders.FileAnswer.{FileAnswer}
use Rattle.station.specs.declared.orders.FileAnswer.TheVariants as found
use Rattle.station.proofs.FrontLemmas.{known_after, adds_nothing, ordered_none, ordered_then, stopped_then, stopped_longer}

-- facts of options and results whose kind is known
pub on_some : {A : Type 0} {P : Type 0} (o : Option A) (x : A) → o ≡ Some x → OnSome o P → P
on_some None x is h = absurd (cc)
on_some (Some y) x is h = h

pub if_some_is : {A : Type 0} (P : A → Type 0) (o : Option A) (x : A) → o ≡ Some x → IfSome o P → P x
if_some_is P o x is h = subst (λ p. IfSome p P) is h

pub on_ok : {A E : Type 0} {P : Type 0} (r : Result A E) → is_err r ≡ false → OnOk r P → P
on_ok (Ok x) is h = h
on_ok (Err e) is h = absurd (cc)

pub on_ok_is : {A E : Type 0} {P : Type 0} (r : Result A E) (x : A) → r ≡ Ok x → OnOk r P → P
on_ok_is (Ok y) x is h = h
on_ok_is (Err e) x is h = absurd (cc)

pub if_ok_is : {A E : Type 0} (P : A → Type 0) (r : Result A E) (x : A) → r ≡ Ok x → IfOk r P → P x
if_ok_is P (Ok y) x is h = let same : y ≡ x = cc in subst P same h
if_ok_is P (Err e) x is h = absurd (cc)

pub on_ok_map : {A E P Q : Type 0} (r : Result A E) → (P → Q) → OnOk r P → OnOk r Q
on_ok_map (Ok x) f h = f h
on_ok_map (Err e) f h = h

pub if_all : {A : Type 0} {P : A → Type 0} (o : Option A) → ((x : A) → P x) → IfSome o P
if_all None f = tt
if_all (Some x) f = f x

pub if_map : {A : Type 0} {P Q : A → Type 0} (o : Option A) → ((x : A) → P x → Q x) → IfSome o P → IfSome o Q
if_map None f h = tt
if_map (Some x) f h = f x h

pub if_both : {A : Type 0} {P Q S : A → Type 0} (o : Option A) → ((x : A) → P x → Q x → S x) → IfSome o P → IfSome o Q → IfSome o S
if_both None f h g = tt
if_both (Some x) f h g = f x h g

pub no_feed : (b : ℕ) → b ≢ 10 → is_feed b ≡ false
no_feed b h = grind (arith, nat_tests)

pub a_feed : (b : ℕ) → b ≡ 10 → is_feed b ≡ true
a_feed b h = grind (arith, nat_tests)

pub orders_ok : {A : Type 0} {os : List ControlOrder} {v w : List Entry} (r : Result A Stop) → is_err r ≡ false → Orders r os v w → HasOrdered os v w
orders_ok (Ok x) is h = h
orders_ok (Err e) is h = absurd (cc)

pub does_ok : {A : Type 0} {d : Did} {own : Use (List Entry)} {err : Use SinkSeen} (r : Result A Stop) → is_err r ≡ false → DoesSo r d own err → HasDone d own err
does_ok (Ok x) is h = h
does_ok (Err e) is h = absurd (cc)

-- one more order
pub ordered_more : (v w : List Entry) (o : ControlOrder) → IsOrdered o v w → HasOrdered (o ∷ []) v w
ordered_more v w o h = record { carried = record { order = o; last = h.0 } ∷ []; these = refl; added = h.1 }

pub one_update : (o : Option (List StoredFile)) (l : Listed) (f : FileAnswer) (text : List ℕ) (v w : List Entry) → f ≡ found.Text text → IfSome o (λ files. f ≡ found_in files l.file) → IsOrdered (Update l.job l.file text) v w → IfSome o (λ files. HasOrdered (update_in files l) v w)
one_update o l f text v w same found h = if_map o (λ files is. subst (λ g. HasOrdered (update_of l g) v w) (sym same ∙ is) (ordered_more v w (Update l.job l.file text) h)) found

pub no_update : (o : Option (List StoredFile)) (l : Listed) (f : FileAnswer) (why : Refusal) (v w : List Entry) → f ≡ found.Refusal why → IfSome o (λ files. f ≡ found_in files l.file) → w ≡ v → IfSome o (λ files. HasOrdered (update_in files l) v w)
no_update o l f why v w same found still = if_map o (λ files is. subst (λ g. HasOrdered (update_of l g) v w) (sym same ∙ is) (ordered_none v w still)) found

pub update_done : (o : Option (List StoredFile)) (jobs : List InForce) (job file text : List ℕ) (v w : List Entry) (r : Option Refusal) (f : FileAnswer) → f ≡ found.Text text → IfSome o (λ files. f ≡ found_in files file) → IsOrdered (Update job file text) v w
    → r ≡ update_refused (updated jobs job file text) → IfSome o (λ files. Does (Ok r) (update_does jobs job file (found_in files file)) v w)
update_done o jobs job file text v w r f same found h is =
    if_map o (λ files at. subst (λ g. Does (Ok r) (update_does jobs job file g) v w) (sym same ∙ at) (ordered_more v w (Update job file text) h, is)) found

pub load_refused : (o : Option (List StoredFile)) (jobs : List InForce) (text : List ℕ) (fault : ConfFault) (v w : List Entry) → Some fault ≡ load_fault (loaded jobs text) → IsOrdered (Load text) v w
    → IfSome o (λ files. Does (Ok (Some (why.Refused fault))) (load_taken files text (loaded jobs text)) v w)
load_refused o jobs text fault v w is h = if_all o (λ files. of files (loaded jobs text) is)
  where
    of : (files : List StoredFile) (r : Result (List Filed) ConfFault) → Some fault ≡ load_fault r → Does (Ok (Some (why.Refused fault))) (load_taken files text r) v w
    of files (Ok fs) is = absurd (cc)
    of files (Err f) is = (ordered_more v w (Load text) h, ap (λ (x : ConfFault). Some (why.Refused x)) (cc))

-- a load that was taken, and then the reading of the listed files
abbrev pub taken_of : {A : Type 0} → Result A Stop → Result (Option Refusal) Stop
taken_of (Ok x) = Ok None
taken_of (Err s) = Err s

pub load_done : {A : Type 0} (d : Result A Stop) (o : Option (List StoredFile)) (start : List Event) (text : List ℕ) (v w u : List Entry) → None ≡ load_fault (loaded (jobs_known start v) text) → IsOrdered (Load text) v w
    → IfSome o (λ files. Orders d (rereads files (jobs_known start w)) w u) → IfSome o (λ files. Does (taken_of d) (load_taken files text (loaded (jobs_known start v) text)) v u)
load_done d o start text v w u is h read = if_map o (λ files has. of files (loaded (jobs_known start v) text) is refl has) read
  where
    one : HasOrdered (Load text ∷ []) v w
    one = ordered_more v w (Load text) h

    known : {A : Type 0} (d : Result A Stop) (files : List StoredFile) (fs : List Filed) → Orders d (rereads files (map in_force fs)) w u → Does (taken_of d) (load_taken files text (Ok fs)) v u
    known (Ok x) files fs has = (ordered_then (Load text ∷ []) (rereads files (map in_force fs)) v w u one has, refl)
    known (Err s) files fs has = stopped_then s (Load text ∷ []) (rereads files (map in_force fs)) v w u one has

    of : (files : List StoredFile) (r : Result (List Filed) ConfFault) → None ≡ load_fault r → loaded (jobs_known start v) text ≡ r → Orders d (rereads files (jobs_known start w)) w u → Does (taken_of d) (load_taken files text r) v u
    of files (Err f) none at has = absurd (cc)
    of files (Ok fs) none at has =
        let jobs : jobs_known start w ≡ map in_force fs = known_after start (Load text ∷ []) v w one ∙ ap (λ (r : Result (List Filed) ConfFault). or_else (after_load r) (jobs_known start v)) at in
        known d files fs (subst (λ js. Orders d (rereads files js) w u) jobs has)

-- the listed files that are still to be read, the last of the list first
popped : (files : List StoredFile) (ls ms : List Listed) (l : Listed) → ls ≡ ms ++ l ∷ [] → updates_in files (reverse ls) ≡ update_in files l ++ updates_in files (reverse ms)
popped files ls ms l is = ap (λ xs. updates_in files (reverse xs)) is ∙ ap (updates_in files) (reverse-append ms (l ∷ []))

-- the files of a list were read but for these
pub record HasReread (files : List StoredFile) (all left : List Listed) (v w : List Entry) : Type 0 where
  pub orders : List ControlOrder
  pub rest : orders ++ updates_in files (reverse left) ≡ updates_in files (reverse all)
  pub has : HasOrdered orders v w

pub rest_first : (files : List StoredFile) (all : List Listed) (v w : List Entry) → w ≡ v → HasReread files all all v w
rest_first files all v w same = record { orders = []; rest = refl; has = ordered_none v w same }

pub rest_next : (files : List StoredFile) (all ls ms : List Listed) (l : Listed) (v w u : List Entry) → ls ≡ ms ++ l ∷ [] → HasReread files all ls v w → HasOrdered (update_in files l) w u → HasReread files all ms v u
rest_next files all ls ms l v w u is was h = record {
  orders = was.orders ++ update_in files l;
  rest = append_assoc was.orders (update_in files l) (updates_in files (reverse ms)) ∙ (ap (λ xs. was.orders ++ xs) (sym (popped files ls ms l is)) ∙ was.rest);
  has = ordered_then was.orders (update_in files l) v w u was.has h;
}

none_left : (ls : List Listed) → length ls ≡ 0 → ls ≡ []
none_left [] h = refl
none_left (l ∷ ls) h = absurd (omega (arith, h))

pub rest_done : (files : List StoredFile) (v w : List Entry) (all ls : List Listed) → length ls ≡ 0 → HasReread files all ls v w → HasOrdered (updates_in files (reverse all)) v w
rest_done files v w all ls none was =
    subst (λ os. HasOrdered os v w) (sym (append-nil was.orders) ∙ (ap (λ xs. was.orders ++ updates_in files (reverse xs)) (sym (none_left ls none)) ∙ was.rest)) was.has

pub rest_stopped : {A : Type 0} (d : Result A Stop) (files : List StoredFile) (all ls ms : List Listed) (l : Listed) (v w u : List Entry) → is_err d ≡ true → ls ≡ ms ++ l ∷ [] → HasReread files all ls v w → Orders d (update_in files l) w u
    → Orders d (updates_in files (reverse all)) v u
rest_stopped (Ok x) files all ls ms l v w u fails is was h = absurd (cc)
rest_stopped (Err s) files all ls ms l v w u fails is was h =
    let rest = updates_in files (reverse ms) in
    subst (λ os. StoppedIn s os v u) (ap (λ xs. was.orders ++ xs) (sym (popped files ls ms l is)) ∙ was.rest)
    (stopped_then s was.orders (update_in files l ++ rest) v w u was.has (stopped_longer s (update_in files l) rest w u h))

pub all_reread : {A : Type 0} (d : Result A Stop) (o : Option (List StoredFile)) (jobs : List InForce) (v w : List Entry) (ls ms : List Listed) → ls ≡ listed_in jobs → ms ≡ reverse ls → IfSome o (λ files. Orders d (updates_in files (reverse ms)) v w)
    → IfSome o (λ files. Orders d (rereads files jobs) v w)
all_reread d o jobs v w ls ms is turned h = if_map o (λ files has. subst (λ xs. Orders d (updates_in files xs) v w) (ap reverse turned ∙ (reverse-reverse ls ∙ is)) has) h

-- a line, and what is said of it
pub line_quiet : (files : List StoredFile) (jobs : List InForce) (n : ℕ) (line : List ℕ) (v w : List Entry) (a b : SinkSeen) → b ≡ a → Does (Ok None) (line_does files jobs line) v w → HasDone (line_did files jobs n line) (used v w) (used a b)
line_quiet files jobs n line v w a b still h = record { orders = h.0; said = subst (λ o. Adds (said_of n o) (used a b)) h.1 (adds_nothing a b still) }

pub line_said : (d : Result (Unit {0}) Stop) (files : List StoredFile) (jobs : List InForce) (n : ℕ) (line : List ℕ) (r : Refusal) (v w : List Entry) (a b : SinkSeen) → Does (Ok (Some r)) (line_does files jobs line) v w → SaidStops d (used a b) → Says d (message n r) (used a b)
    → DoesSo d (line_did files jobs n line) (used v w) (used a b)
line_said (Ok x) files jobs n line r v w a b h stops said = record { orders = h.0; said = subst (λ o. Adds (said_of n o) (used a b)) h.1 said }
line_said (Err stop.ReadFault) files jobs n line r v w a b h stops said = absurd stops
line_said (Err stop.WriteFault) files jobs n line r v w a b h stops said =
    let os = (line_does files jobs line).orders in
    record {
      part = did os said.0;
      front = record { rest = did [] said.1; orders = sym (append-nil os); said = ap (said_of n) (sym h.1) ∙ said.2 };
      done = record { orders = h.0; said = said.3 };
    }
line_said (Err stop.NoMemory) files jobs n line r v w a b h stops said = tt

some_line : (files : List StoredFile) (jobs : List InForce) (n : ℕ) (line : List ℕ) (v w : List Entry) (a b : SinkSeen) → b ≡ a → HasOrderedSome (line_does files jobs line).orders v w → HasBegun (line_did files jobs n line) (used v w) (used a b)
some_line files jobs n line v w a b still h = record {
  part = did h.front [];
  front = record { rest = did h.more (said_of n (line_does files jobs line).why); orders = h.whole; said = refl };
  done = record { orders = h.has; said = adds_nothing a b still };
}

pub line_stopped : (s : Stop) (files : List StoredFile) (jobs : List InForce) (n : ℕ) (line : List ℕ) (v w : List Entry) (a b : SinkSeen) → b ≡ a → StoppedIn s (line_does files jobs line).orders v w → StoppedDoing s (line_did files jobs n line) (used v w) (used a b)
line_stopped stop.ReadFault files jobs n line v w a b still h = some_line files jobs n line v w a b still h
line_stopped stop.WriteFault files jobs n line v w a b still h = some_line files jobs n line v w a b still h
line_stopped stop.NoMemory files jobs n line v w a b still h = tt

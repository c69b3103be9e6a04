-- What a turn tells of a seat's own entries.
use Rattle.std.proofs.Common.{◌≡◌, ℕ, List, [], ◌∷◌, ◌++◌, length, drop, refl, sym, ap, ◌∙◌, append-nil}
use Rattle.std.specs.Prelude.{Option, Some, None, OnSome}
use Rattle.run_lock.specs.declared.marks.Entry.{Entry}
use Rattle.run_lock.specs.declared.marks.Note.{Note}
use Rattle.run_lock.specs.declared.tasks.WorkerTask.{WorkerTask}
use Rattle.run_lock.specs.declared.tasks.WorkerTask.TheVariants.{Fetch, Wait, End, Fail}
use Rattle.run_lock.specs.Entries.{entry, own_by, Adds}
use Rattle.run_lock.specs.Tasks.{AfterTask}

-- the entries of the pass's number
pub own_at : (log own : List Entry) (n q : ℕ) → n ≡ q → own_by n log ≡ own → own_by q log ≡ own
own_at log own n q is h = ap (λ (k : ℕ). own_by k log) (sym is) ∙ h

-- what the pass has after the turn, by what it had before
pub given_own : (own mid own' seen log later : List Entry) → own' ≡ mid ++ drop (length seen) later → mid ≡ own → seen ≡ log → own' ≡ own ++ drop (length log) later
given_own own mid own' seen log later is mine all = is ∙ (λ i. mine i ++ drop (length (all i)) later)

drop_front : (xs ys : List Entry) → drop (length xs) (xs ++ ys) ≡ ys
drop_front [] ys = refl
drop_front (x ∷ xs) ys = drop_front xs ys

drop_whole : (xs : List Entry) → drop (length xs) xs ≡ []
drop_whole [] = refl
drop_whole (x ∷ xs) = drop_whole xs

-- where the journal went on by an entry, so did the pass's own entries; and where it didn't, neither did they
pub adds_own : (log later own own' : List Entry) (s : ℕ) (x : Note) → Adds log s x later → own' ≡ own ++ drop (length log) later → Adds own s x own'
adds_own log later own own' s x adds is = is ∙ ap (λ (xs : List Entry). own ++ xs) (ap (λ (xs : List Entry). drop (length log) xs) adds ∙ drop_front log (entry s x ∷ []))

pub same_own : (log later own own' : List Entry) → later ≡ log → own' ≡ own ++ drop (length log) later → own' ≡ own
same_own log later own own' same is = is ∙ (ap (λ (xs : List Entry). own ++ xs) (ap (λ (xs : List Entry). drop (length log) xs) same ∙ drop_whole log) ∙ append-nil own)

pub task_own : (place : ℕ) (t : WorkerTask) (log later own own' : List Entry) → AfterTask place t log later → own' ≡ own ++ drop (length log) later → AfterTask place t own own'
task_own place (Fetch k r) log later own own' h is = adds_own log later own own' _ _ h is
task_own place Wait log later own own' h is = same_own log later own own' h is
task_own place End log later own own' h is = adds_own log later own own' _ _ h is
task_own place Fail log later own own' h is = tt

pub on_some_map : {A P Q : Type 0} (o : Option A) → (P → Q) → OnSome o P → OnSome o Q
on_some_map None f h = tt
on_some_map (Some x) f h = f h

-- How a call ends that does nothing since memory ran out, and what each other one keeps.
use Rattle.std.proofs.Common.{◌≡◌, ◌≤◌, ℕ, List, refl, ap, arith}
use Rattle.std.specs.Prelude.{Option, Some, None, IfSome, Result, Ok, Err}
use Rattle.command_words.specs.Askings.{Running}
use Rattle.command_words.specs.declared.words.Order.{Order}
use Rattle.command_words.specs.declared.words.Order.TheVariants.{Still, Run, Serve}
use Rattle.serve_command.specs.Ends.{LacksServe}
use Rattle.live_run.specs.Runs as runs
use Rattle.live_run.specs.Runs.{IsUnbegun, Touched, wanted}
use Rattle.live_run.specs.declared.asked.LiveEnd.{LiveEnd}
use Rattle.live_run.specs.declared.asked.LiveEnd.TheVariants.{NoMemory}
use Rattle.outside.specs.Objects.{SinkSeen, Use, used, IsUntouched}
use Rattle.outside.specs.Sources.{SourceSeen}
use Rattle.scrape_commands.specs.Ends.{Speaks}
use Rattle.scrape_cli.specs.Lives.{EndedLive, IsStill}
use Rattle.scrape_commands.specs.declared.refusals.Refusal.{Refusal}
use Rattle.scrape_commands.specs.declared.refusals.Refusal.TheVariants as refusal
use Rattle.station.specs.Ends.{ShelfWent, SinkWent, SourceWent}
use Rattle.scrape_cli.proofs.DueLemmas.{causes, complete}

pub live_wanting : (r : Running) (t : Touched) (back : Type 0) (file : List ℕ) → IsUntouched t.trail → IsUntouched t.out → ShelfWent t.shelf → SinkWent (used t.err.before t.err.before) → SourceWent t.control → IsUntouched t.control
    → Speaks (Err refusal.NoMemory) file t.err → EndedLive 8 r t back
live_wanting r t back file trail out shelf err control same speaks =
    let run : runs.Ended NoMemory (wanted r.file r.turns r.kept) (record t { err = used t.err.before t.err.before }) =
    record { writes = record { trail = trail; out = out }; began = tt; stopped = tt; shelf = shelf; err = err; control = control } in
    record {
      end = NoMemory;
      status_is = refl;
      between = t.err.before;
      run = run;
      speaks = speaks;
      unbegun = λ u. absurd u;
      complete = complete r t t.err.before NoMemory 8 refl run speaks.later (λ u. absurd u);
      causes = causes r t t.err.before NoMemory 8 refl run speaks.later;
    }

-- the count of the error output didn't fall by what was said of the end
pub later_said : (end : Result (Unit {0}) Refusal) (file : List ℕ) (err : Use SinkSeen) → Speaks end file err → err.before.faults ≤ err.after.faults
later_said (Ok u) file err h = let same = ap (λ (x : SinkSeen). x.faults) h in omega (arith, same)
later_said (Err r) file err h = h.later

-- where a run didn't begin, control came back as it was
pub still_control : {C : Type 0} (seen : C → SourceSeen) (end : LiveEnd) (before after : C) → (IsUnbegun end → after ≡ before) → IsUnbegun end → IsUntouched (used (seen before) (seen after))
still_control seen end before after h u = ap seen (h u)

-- where neither a run nor serving is asked for, no serving is
pub lacks_serve : (o : Option Order) → IsStill o → LacksServe o
lacks_serve None h = tt
lacks_serve (Some (Still a)) h = tt
lacks_serve (Some (Run r)) h = tt
lacks_serve (Some (Serve s)) h = h

-- words ask for one run
pub same_run : (a b : Running) → Some (Run a) ≡ Some (Run b) → a ≡ b
same_run a b h = cc

-- what three facts tell of two values, if there are both, the third of them where something holds
some_is : {A : Type 0} (a b : A) → Some a ≡ Some b → a ≡ b
some_is a b h = cc

pub both_told : {X Y U B : Type 0} {Q : X → Type 0} {P R : X → Y → Type 0} (o : Option X) (p : Option Y) (z : Y) → ((x : X) (y : Y) → P x y → (U → (y ≡ z) × Q x × B) → R x y)
    → IfSome o (λ x. IfSome p (P x)) → (U → (p ≡ Some z) × IfSome o Q × B) → IfSome o (λ x. IfSome p (R x))
both_told None p z f h u = tt
both_told (Some x) None z f h u = tt
both_told (Some x) (Some y) z f h u = f x y h (λ w. let k = u w in (some_is y z k.0, k.1, k.2))

use Rattle.std.proofs.Common.{◌≡◌, ◌≢◌, ◌-◌, ◌++◌, ◌∷◌, [], length, true, refl, sym, ap, ◌∙◌, subst, arith, true≢false}
use Rattle.std.proofs.lemmas.Bool.Decides.{nat_tests}
use Rattle.std.proofs.lemmas.List.{nil_from_length}
use Rattle.journal_text.specs.Events.{now_of, MayFollow, IsJournal}
use Rattle.journal_text.specs.EventReadings.{event_in}
use Rattle.journal_text.specs.Faults.{StopsFor}
use Rattle.journal_text.proofs.ReadingLemmas.{was_read, stopped, stopped_front, went_on, shorter, ended, ended_front}
use Rattle.journal_text.proofs.reading.read_events.Goals as goal

pub returns-in-Err-Bad-clause-front : goal.returns-in-Err-Bad-clause-front
returns-in-Err-Bad-clause-front c =
    let rest = c.loop-alloc.rest.now in
    let more : rest ≢ [] = λ e. (let t : c.is_empty.result ≡ true = rw (c.is_empty.ensures, e) refl in true≢false (sym t ∙ c.loop-alloc-test.true)) in
    let now_is : c.last_moment.result ≡ now_of c.loop-alloc.journal.events = c.last_moment.ensures in
    let stops = subst (StopsFor (length c.args.bytes.now - length rest) (event_in c.in-Some.version c.last_moment.result rest)) c.in-Err-Bad.field-0-is c.in-Err-Bad.ensures in
    stopped_front c.in-Some.version c.args.bytes.now rest c.loop-alloc.journal.events c.last_moment.result _ c.in-Err-Bad.fault c.loop-alloc.invariant more now_is stops

pub returns-in-Err-Bad-clause-fault : goal.returns-in-Err-Bad-clause-fault
returns-in-Err-Bad-clause-fault c =
    let rest = c.loop-alloc.rest.now in
    let more : rest ≢ [] = λ e. (let t : c.is_empty.result ≡ true = rw (c.is_empty.ensures, e) refl in true≢false (sym t ∙ c.loop-alloc-test.true)) in
    let now_is : c.last_moment.result ≡ now_of c.loop-alloc.journal.events = c.last_moment.ensures in
    let stops = subst (StopsFor (length c.args.bytes.now - length rest) (event_in c.in-Some.version c.last_moment.result rest)) c.in-Err-Bad.field-0-is c.in-Err-Bad.ensures in
    rw c.in-Err-Bad.field-0-is (stopped c.in-Some.version c.args.bytes.now rest c.loop-alloc.journal.events c.last_moment.result _ c.in-Err-Bad.fault c.loop-alloc.invariant more now_is refl stops)

pub push-requires-clause-limits : goal.push-requires-clause-limits
push-requires-clause-limits c = let read = was_read c.in-Some.version c.last_moment.result c.loop-alloc.rest.now c.in-Ok.event c.in-Ok.more.now c.in-Ok.ensures in read.limits

pub push-requires-clause-order : goal.push-requires-clause-order
push-requires-clause-order c =
    let read = was_read c.in-Some.version c.last_moment.result c.loop-alloc.rest.now c.in-Ok.event c.in-Ok.more.now c.in-Ok.ensures in
    let now_is : c.last_moment.result ≡ now_of c.loop-alloc.journal.events = c.last_moment.ensures in
    rw c.in_ok-reserve-in-Ok.ensures.same (subst (λ n. MayFollow n c.in-Ok.event) now_is read.follows)

pub loop-alloc-smaller : goal.loop-alloc-smaller
loop-alloc-smaller c =
    let read = was_read c.in-Some.version c.last_moment.result c.loop-alloc.rest.now c.in-Ok.event c.in-Ok.more.now c.in-Ok.ensures in
    shorter c.loop-alloc.rest.now c.in-Ok.more.now c.in-Ok.event read.text

pub loop-alloc-preserved : goal.loop-alloc-preserved
loop-alloc-preserved c =
    let read = was_read c.in-Some.version c.last_moment.result c.loop-alloc.rest.now c.in-Ok.event c.in-Ok.more.now c.in-Ok.ensures in
    let joined : c.push.new.self.events ≡ c.loop-alloc.journal.events ++ c.in-Ok.event ∷ [] =
    c.push.ensures.joined ∙ ap (λ es. es ++ c.in-Ok.event ∷ []) c.in_ok-reserve-in-Ok.ensures.same in
    rw joined (went_on c.in-Some.version c.args.bytes.now c.loop-alloc.rest.now c.in-Ok.more.now c.loop-alloc.journal.events c.in-Ok.event c.loop-alloc.invariant read.has
    (subst IsJournal joined c.push.ensures.journal) read.text)

pub returns-clause-front : goal.returns-clause-front
returns-clause-front c =
    let rest = c.loop-alloc.rest.now in
    let zero_long : length rest ≡ 0 = grind (arith, nat_tests, c.is_empty.ensures, c.loop-alloc-test.false) in
    ended_front c.in-Some.version c.args.bytes.now rest c.loop-alloc.journal.events c.loop-alloc.invariant (nil_from_length rest zero_long)

pub returns-clause-fault : goal.returns-clause-fault
returns-clause-fault c =
    let rest = c.loop-alloc.rest.now in
    let zero_long : length rest ≡ 0 = grind (arith, nat_tests, c.is_empty.ensures, c.loop-alloc-test.false) in
    ended c.in-Some.version c.args.bytes.now rest c.loop-alloc.journal.events c.loop-alloc.invariant (nil_from_length rest zero_long)

-- What a body is of, step by step.
use Rattle.std.proofs.Common.{◌≡◌, ℕ, ◌<◌, ◌≤◌, Bool, true, false, nat_lt, ◌==◌, List, [], ◌++◌, drop, Some, refl, sym, subst, arith, ⊎_elim, append_assoc, append-nil, if◌then◌else◌}
use Rattle.std.proofs.lemmas.Bool.{cases_Bool}
use Rattle.std.proofs.lemmas.Bool.Decides.{nat_tests}
use Rattle.httparse.specs.Grammar.{status_code}
use Rattle.http_fetch.specs.declared.fields.Kind.{Kind}
use Rattle.http_fetch.specs.declared.fields.Framing.{Framing}
use Rattle.http_fetch.specs.declared.fields.Framing.TheVariants as framings
use Rattle.http_fetch.specs.declared.stages.Stage.{Stage}
use Rattle.http_fetch.specs.declared.stages.Stage.TheVariants.{Heads, Length, Line, Data, Trailer, Open, Whole, Over, Never}
use Rattle.http_fetch.specs.declared.stages.Step.{Step}
use Rattle.http_fetch.specs.Kinds.{GoesOn, HasKind, KeepsKind, StageKind, is_heads}
use Rattle.http_fetch.specs.Reading.{HasHead}
use Rattle.http_fetch.specs.Replies.{Reaches}
use Rattle.http_fetch.specs.Steps.{after_good, after_head, after_length, after_line, is_body, is_done}
use Rattle.http_fetch.proofs.DecoderLemmas.{reaches-append}
use Rattle.http_fetch.proofs.FrontLemmas.{head-append}
use Rattle.http_fetch.proofs.HeadLemmas.{reaches-here, reaches-on}

-- places behind the last head
if-behind : (b : Bool) (x y : Stage) → is_heads x ≡ false → is_heads y ≡ false → is_heads (if b then x else y) ≡ false
if-behind true x y e f = e
if-behind false x y e f = f

length-behind : (size limit : ℕ) → is_heads (after_length size limit) ≡ false
length-behind size limit = if-behind (nat_lt limit size) Over (if size == 0 then Whole 200 else Length size) refl (if-behind (size == 0) (Whole 200) (Length size) refl refl)

good-behind : (f : Framing) (limit : ℕ) → is_heads (after_good f limit) ≡ false
good-behind framings.Refused limit = refl
good-behind (framings.Length size) limit = length-behind size limit
good-behind framings.Chunks limit = refl
good-behind framings.ToEnd limit = refl

pub line-behind : (size room : ℕ) → is_heads (after_line size room) ≡ false
line-behind size room = if-behind (nat_lt room size) Over (if size == 0 then Trailer 65536 else Data size) refl (if-behind (size == 0) (Trailer 65536) (Data size) refl refl)

pub body-behind : (stage : Stage) → is_body stage ≡ true → is_heads stage ≡ false
body-behind (Heads left) e = absurd cc
body-behind (Length left) e = refl
body-behind Line e = refl
body-behind (Data left) e = refl
body-behind (Trailer room) e = refl
body-behind Open e = refl
body-behind (Whole code) e = refl
body-behind Over e = refl
body-behind Never e = refl

stage_kind-of : (next : Stage) (kind : Kind) (n : ℕ) (b p : List ℕ) → is_heads next ≡ false → HasKind n b kind → StageKind next kind n b p
stage_kind-of (Heads left) kind n b p e k = absurd cc
stage_kind-of (Length left) kind n b p e k = k
stage_kind-of Line kind n b p e k = k
stage_kind-of (Data left) kind n b p e k = k
stage_kind-of (Trailer room) kind n b p e k = k
stage_kind-of Open kind n b p e k = k
stage_kind-of (Whole code) kind n b p e k = k
stage_kind-of Over kind n b p e k = k
stage_kind-of Never kind n b p e k = tt

-- a step over a head
pub head-kind : (text : List ℕ) (status len : ℕ) (f : Framing) (kind : Kind) (limit left : ℕ) → HasHead text status len f kind → StageKind (after_head status f left limit) kind left text (drop len text)
head-kind text status len f kind limit left w =
    ⊎_elim
    (λ (low : nat_lt status 100 ≡ true). rw low tt)
    (λ (low : nat_lt status 100 ≡ false).
    ⊎_elim
    (λ (interim : nat_lt status 200 ≡ true).
    ⊎_elim
    (λ (none : (left == 0) ≡ true). rw (low, interim, none) tt)
    (λ (none : (left == 0) ≡ false).
    (let some : 0 < left = grind (arith, nat_tests) in
    let least : 100 ≤ status_code w.head = (let h : 100 ≤ status = grind (arith, nat_tests) in omega (arith, h, w.status_is)) in
    let most : status_code w.head < 200 = (let h : status < 200 = grind (arith, nat_tests) in omega (arith, h, w.status_is)) in
    rw (low, interim, none) (λ more h rest r. reaches-on (head-append more w.reads) (least, most) some r)))
    (cases_Bool (left == 0)))
    (λ (interim : nat_lt status 200 ≡ false).
    (let final : 200 ≤ status_code w.head = (let h : 200 ≤ status = grind (arith, nat_tests) in omega (arith, h, w.status_is)) in
    let known : HasKind left text kind = (w.head, drop len text, reaches-here left w.reads final, w.kind_is) in
    rw (low, interim) (stage_kind-of (if status == 200 then after_good f limit else Whole status) kind left text (drop len text)
    (if-behind (status == 200) (after_good f limit) (Whole status) (good-behind f limit) refl) known)))
    (cases_Bool (nat_lt status 200)))
    (cases_Bool (nat_lt status 100))

-- one step after others
kind-behind : (n left : ℕ) (b text : List ℕ) (kind : Kind) → GoesOn n b left text → HasKind left text kind → HasKind n b kind
kind-behind n left b text kind g k =
    let here : Reaches left (text ++ []) k.0 (k.1 ++ []) = reaches-append [] k.2 in
    let there : Reaches n (b ++ []) k.0 (k.1 ++ []) = g [] k.0 (k.1 ++ []) here in
    (k.0, k.1 ++ [], subst (λ (t : List ℕ). Reaches n t k.0 (k.1 ++ [])) (append-nil b) there, k.3)

stage_kind-behind : (next : Stage) (kind : Kind) (n left : ℕ) (b text rest : List ℕ) → GoesOn n b left text → StageKind next kind left text rest → StageKind next kind n b rest
stage_kind-behind (Heads m) kind n left b text rest g k = λ more h r x. g more h r (k more h r x)
stage_kind-behind (Length m) kind n left b text rest g k = kind-behind n left b text kind g k
stage_kind-behind Line kind n left b text rest g k = kind-behind n left b text kind g k
stage_kind-behind (Data m) kind n left b text rest g k = kind-behind n left b text kind g k
stage_kind-behind (Trailer room) kind n left b text rest g k = kind-behind n left b text kind g k
stage_kind-behind Open kind n left b text rest g k = kind-behind n left b text kind g k
stage_kind-behind (Whole code) kind n left b text rest g k = kind-behind n left b text kind g k
stage_kind-behind Over kind n left b text rest g k = kind-behind n left b text kind g k
stage_kind-behind Never kind n left b text rest g k = tt

pub stage_kind-on : (stage next : Stage) (kind : Kind) (n : ℕ) (b p q : List ℕ) → is_heads stage ≡ false → is_done stage ≡ false → is_heads next ≡ false → StageKind stage kind n b p → StageKind next kind n b q
stage_kind-on (Heads left) next kind n b p q e d f k = absurd cc
stage_kind-on (Length left) next kind n b p q e d f k = stage_kind-of next kind n b q f k
stage_kind-on Line next kind n b p q e d f k = stage_kind-of next kind n b q f k
stage_kind-on (Data left) next kind n b p q e d f k = stage_kind-of next kind n b q f k
stage_kind-on (Trailer room) next kind n b p q e d f k = stage_kind-of next kind n b q f k
stage_kind-on Open next kind n b p q e d f k = stage_kind-of next kind n b q f k
stage_kind-on (Whole code) next kind n b p q e d f k = absurd cc
stage_kind-on Over next kind n b p q e d f k = absurd cc
stage_kind-on Never next kind n b p q e d f k = absurd cc

pub stage_kind-frame : (stage : Stage) (kind : Kind) (n : ℕ) (b rest : List ℕ) (s : Step) → is_done stage ≡ false → KeepsKind stage rest (Some s) → StageKind stage kind n b rest →
    StageKind s.next (if is_heads stage then s.kind else kind) n b (drop s.used rest)
stage_kind-frame (Heads left) kind n b rest s d k t = stage_kind-behind s.next s.kind n left b rest (drop s.used rest) t k
stage_kind-frame (Length left) kind n b rest s d k t = stage_kind-of s.next kind n b (drop s.used rest) k t
stage_kind-frame Line kind n b rest s d k t = stage_kind-of s.next kind n b (drop s.used rest) k t
stage_kind-frame (Data left) kind n b rest s d k t = stage_kind-of s.next kind n b (drop s.used rest) k t
stage_kind-frame (Trailer room) kind n b rest s d k t = stage_kind-of s.next kind n b (drop s.used rest) k t
stage_kind-frame Open kind n b rest s d k t = stage_kind-of s.next kind n b (drop s.used rest) k t
stage_kind-frame (Whole code) kind n b rest s d k t = absurd cc
stage_kind-frame Over kind n b rest s d k t = absurd cc
stage_kind-frame Never kind n b rest s d k t = absurd cc

-- more bytes
kind-more : (n : ℕ) (b piece : List ℕ) (kind : Kind) → HasKind n b kind → HasKind n (b ++ piece) kind
kind-more n b piece kind k = (k.0, k.1 ++ piece, reaches-append piece k.2, k.3)

pub stage_kind-more : (stage : Stage) (kind : Kind) (n : ℕ) (b p piece : List ℕ) → StageKind stage kind n b p → StageKind stage kind n (b ++ piece) (p ++ piece)
stage_kind-more (Heads left) kind n b p piece t = λ more h rest r.
    subst (λ (s : List ℕ). Reaches n s h rest) (sym (append_assoc b piece more)) (t (piece ++ more) h rest (subst (λ (s : List ℕ). Reaches left s h rest) (append_assoc p piece more) r))
stage_kind-more (Length left) kind n b p piece t = kind-more n b piece kind t
stage_kind-more Line kind n b p piece t = kind-more n b piece kind t
stage_kind-more (Data left) kind n b p piece t = kind-more n b piece kind t
stage_kind-more (Trailer room) kind n b p piece t = kind-more n b piece kind t
stage_kind-more Open kind n b p piece t = kind-more n b piece kind t
stage_kind-more (Whole code) kind n b p piece t = kind-more n b piece kind t
stage_kind-more Over kind n b p piece t = kind-more n b piece kind t
stage_kind-more Never kind n b p piece t = tt

pub stage_kind-done : (stage : Stage) (kind : Kind) (n : ℕ) (b p piece : List ℕ) → is_done stage ≡ true → StageKind stage kind n b p → StageKind stage kind n (b ++ piece) p
stage_kind-done (Heads left) kind n b p piece d t = absurd cc
stage_kind-done (Length left) kind n b p piece d t = absurd cc
stage_kind-done Line kind n b p piece d t = absurd cc
stage_kind-done (Data left) kind n b p piece d t = absurd cc
stage_kind-done (Trailer room) kind n b p piece d t = absurd cc
stage_kind-done Open kind n b p piece d t = absurd cc
stage_kind-done (Whole code) kind n b p piece d t = kind-more n b piece kind t
stage_kind-done Over kind n b p piece d t = kind-more n b piece kind t
stage_kind-done Never kind n b p piece d t = tt

-- nothing was taken
pub stage_kind-new : (kind : Kind) → StageKind (Heads 8) kind 8 [] []
stage_kind-new kind = λ more h rest r. r

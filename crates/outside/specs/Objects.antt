-- What contracts see of outside objects, and what their calls say: files that are read, and bytes that are put.
use Rattle.std.specs.Prelude.{◌≡◌, ◌<◌, ◌≤◌, ℕ, ◌+◌, ◌-◌, ◌^◌, min, List, ◌++◌, length, Option, Some, None, IfSome, IsSomeAnd, find, option_map, Result, Ok, Err}
use Rattle.std.specs.Str.{bytes_eq}
use Rattle.outside.specs.declared.objects.StoredFile.{StoredFile}
use Rattle.outside.specs.declared.objects.ShelfError.{ShelfError}
use Rattle.outside.specs.declared.objects.ShelfError.TheVariants.{Absent, TooLong, Failed, NoMemory}

-- a shelf: its files, where they are known, and how often it was asked for a file that isn't there, for one over the limit, and failed to read
pub record ShelfSeen : Type 0 where
  pub files : Option (List StoredFile)
  pub misses : ℕ
  pub overs : ℕ
  pub faults : ℕ

-- a sink: what it holds, where that is known, and how often a put has failed
pub record SinkSeen : Type 0 where
  pub bytes : Option (List ℕ)
  pub faults : ℕ

-- an outside object before and after a call
pub record Use (X : Type 0) : Type 0 where
  pub before : X
  pub after : X

abbrev pub used : {X : Type 0} → X → X → Use X
used b a = record { before = b; after = a }

-- nothing of it changed
abbrev pub IsUntouched : {X : Type 0} → Use X → Type 0
IsUntouched u = u.after ≡ u.before

-- a count after one more, which stands still at the last value of its type
abbrev pub raised : ℕ → ℕ
raised count = min (count + 1) (2 ^ 64 - 1)

-- the count has risen, or stands at the last value of its type; it never falls
abbrev pub Rose : ℕ → ℕ → Type 0
Rose before now = (before ≤ now) × (raised before ≤ now)

-- the bytes of the first file of a name
abbrev pub file_of : List ℕ → List StoredFile → Option (List ℕ)
file_of name files = option_map (λ (f : StoredFile). f.bytes) (find (λ (f : StoredFile). bytes_eq f.name name) files)

-- where the files are known, the file of this name has these bytes
abbrev pub HasFile : ShelfSeen → List ℕ → List ℕ → Type 0
HasFile shelf name bytes = IfSome shelf.files (λ files. file_of name files ≡ Some bytes)

-- where the files are known, none has this name
abbrev pub LacksFile : ShelfSeen → List ℕ → Type 0
LacksFile shelf name = IfSome shelf.files (λ files. file_of name files ≡ None)

-- where the files are known, the file of this name has more bytes than so many
abbrev pub HasLongerFile : ShelfSeen → List ℕ → ℕ → Type 0
HasLongerFile shelf name limit = IfSome shelf.files (λ files. IsSomeAnd (file_of name files) (λ bytes. limit < length bytes))

-- the files are known, and there is none of this name; or one of more bytes than so many; or this one, of no more
abbrev pub KnownAbsent : ShelfSeen → List ℕ → Type 0
KnownAbsent shelf name = IsSomeAnd shelf.files (λ files. file_of name files ≡ None)

abbrev pub KnownLonger : ShelfSeen → List ℕ → ℕ → Type 0
KnownLonger shelf name limit = IsSomeAnd shelf.files (λ files. IsSomeAnd (file_of name files) (λ bytes. limit < length bytes))

pub record KnownFile (shelf : ShelfSeen) (name : List ℕ) (limit : ℕ) (bytes : List ℕ) : Type 0 where
  pub file : IsSomeAnd shelf.files (λ files. file_of name files ≡ Some bytes)
  pub short : length bytes ≤ limit

-- the shelf missed a file: it counted that, and nothing else of it changed
pub record Missed (u : Use ShelfSeen) : Type 0 where
  pub counted : Rose u.before.misses u.after.misses
  pub rest : u.after ≡ record u.before { misses = u.after.misses }

-- it met a file over the limit: the same
pub record MetLonger (u : Use ShelfSeen) : Type 0 where
  pub counted : Rose u.before.overs u.after.overs
  pub rest : u.after ≡ record u.before { overs = u.after.overs }

-- it failed to read: the same
pub record FailedToRead (u : Use ShelfSeen) : Type 0 where
  pub counted : Rose u.before.faults u.after.faults
  pub rest : u.after ≡ record u.before { faults = u.after.faults }

-- what a read leaves: a shelf as before, but for the count of its answer
abbrev pub ReadLeaves : Result (List ℕ) ShelfError → Use ShelfSeen → Type 0
ReadLeaves (Ok bytes) u = IsUntouched u
ReadLeaves (Err Absent) u = Missed u
ReadLeaves (Err TooLong) u = MetLonger u
ReadLeaves (Err Failed) u = FailedToRead u
ReadLeaves (Err NoMemory) u = IsUntouched u

-- where it is known what a sink holds, it is known afterwards too, with these bytes at the end
abbrev pub Adds : List ℕ → Use SinkSeen → Type 0
Adds bytes u = IfSome u.before.bytes (λ had. u.after.bytes ≡ Some (had ++ bytes))

-- the same with a front of the bytes
abbrev pub AddsFront : List ℕ → Use SinkSeen → Type 0
AddsFront bytes u = (front : List ℕ) × (rest : List ℕ) × (bytes ≡ front ++ rest) × Adds front u

-- the sink took the bytes, and counted no fault
pub record Took (bytes : List ℕ) (u : Use SinkSeen) : Type 0 where
  pub whole : Adds bytes u
  pub sound : u.after.faults ≡ u.before.faults

-- it took a front of them, and counted a fault
pub record Cut (bytes : List ℕ) (u : Use SinkSeen) : Type 0 where
  pub front : AddsFront bytes u
  pub counted : Rose u.before.faults u.after.faults

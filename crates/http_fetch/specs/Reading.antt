-- What the functions that look at the front of some bytes say of them.
use Rattle.std.specs.Prelude.{◌≡◌, ◌≢◌, ℕ, ◌+◌, ◌<◌, ◌≤◌, max, true, false, List, ◌∷◌, ◌++◌, length, drop, take}
use Rattle.std.specs.List.{list_all}
use Rattle.httparse.specs.Grammar.{ResponseHead, status_code, ChunkLine, chunk_size}
use Rattle.http_fetch.specs.declared.fields.Kind.{Kind}
use Rattle.http_fetch.specs.declared.heads.Head.{Head}
use Rattle.http_fetch.specs.declared.heads.Head.TheVariants as heads
use Rattle.http_fetch.specs.declared.frames.Line.{Line}
use Rattle.http_fetch.specs.declared.frames.Line.TheVariants as lines
use Rattle.http_fetch.specs.declared.frames.End.{End}
use Rattle.http_fetch.specs.declared.frames.End.TheVariants as ends
use Rattle.http_fetch.specs.declared.frames.Trailer.{Trailer}
use Rattle.http_fetch.specs.declared.frames.Trailer.TheVariants as trailers
use Rattle.http_fetch.specs.declared.fields.Framing.{Framing}
use Rattle.http_fetch.specs.Replies.{HeadAt, framing_of, kind_of}
use Rattle.http_fetch.specs.Chunks.{LineAt, HasTrailers, is_text, is_blank}

-- what waits for its end has no more bytes than a head may have
abbrev pub IsShort : List ℕ → Type 0
IsShort text = length text ≤ 65536

-- no head is at the front
abbrev pub NoHead : List ℕ → Type 0
NoHead text = (h : ResponseHead) (rest : List ℕ) → ¬ (HeadAt text h rest)

-- a head of this status and length is at the front, and says what the body is of
pub record HasHead (text : List ℕ) (status len : ℕ) (f : Framing) (kind : Kind) : Type 0 where
  pub head : ResponseHead
  pub reads : HeadAt text head (drop len text)
  pub status_is : status ≡ status_code head
  pub framing_is : f ≡ framing_of head
  pub kind_is : kind ≡ kind_of head
  pub some : 0 < len
  pub within : len ≤ length text

abbrev pub IsHead : List ℕ → Head → Type 0
IsHead text (heads.Found status len f kind) = HasHead text status len f kind
IsHead text heads.Waiting = NoHead text × IsShort text
IsHead text heads.Never = (more : List ℕ) → NoHead (text ++ more)

-- no chunk line is at the front
abbrev pub NoLine : List ℕ → Type 0
NoLine text = (l : ChunkLine) (rest : List ℕ) → ¬ (LineAt text l rest)

-- a chunk line of this length and size is at the front
pub record HasLine (text : List ℕ) (len size : ℕ) : Type 0 where
  pub line : ChunkLine
  pub reads : LineAt text line (drop len text)
  pub size_is : size ≡ chunk_size line
  pub some : 0 < len
  pub within : len ≤ length text

abbrev pub IsLine : List ℕ → Line → Type 0
IsLine text (lines.Found len size) = HasLine text len size
IsLine text lines.Waiting = NoLine text × IsShort text
IsLine text lines.Never = (more : List ℕ) → NoLine (text ++ more)

-- CR LF is not at the front
abbrev pub NoEnd : List ℕ → Type 0
NoEnd text = (rest : List ℕ) → text ≢ 13 ∷ 10 ∷ rest

abbrev pub IsEnd : List ℕ → End → Type 0
IsEnd text ends.Found = text ≡ 13 ∷ 10 ∷ drop 2 text
IsEnd text ends.Waiting = NoEnd text × IsShort text
IsEnd text ends.Never = (more : List ℕ) → NoEnd (text ++ more)

-- a line of this text is at the front, with its line feed
abbrev pub HasText : List ℕ → ℕ → Type 0
HasText text len = (list_all is_text (take len text) ≡ true) × (text ≡ take len text ++ 10 ∷ drop (len + 1) text) × (len < length text)

abbrev pub IsTrailerAt : List ℕ → ℕ → Trailer → Type 0
IsTrailerAt text room (trailers.Found len) = HasText text len × (is_blank (take len text) ≡ false) × (len < room)
IsTrailerAt text room (trailers.Last len) = HasText text len × (is_blank (take len text) ≡ true)
IsTrailerAt text room trailers.Waiting = (list_all is_text text ≡ true) × (length text ≤ max room 1)
IsTrailerAt text room trailers.Never = (more : List ℕ) → ¬ (HasTrailers room (text ++ more))

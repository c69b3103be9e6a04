-- Bodies that come in chunks (RFC 9112, section 7.1), and the trailer lines behind them.
use Rattle.std.specs.Prelude.{◌≡◌, ℕ, ◌+◌, ◌<◌, ◌≤◌, Bool, true, false, not, ◌==◌, List, [], ◌∷◌, ◌++◌, length}
use Rattle.std.specs.List.{list_all}
use Rattle.httparse.specs.Ascii.{carriage_return, line_feed}
use Rattle.httparse.specs.Grammar.{ChunkLine, print_chunk_line, ReadsChunkLine, chunk_size, LineEnd, print_end}

-- the text is the chunk line l, and then rest
pub record LineAt (text : List ℕ) (l : ChunkLine) (rest : List ℕ) : Type 0 where
  pub reads : ReadsChunkLine text l rest
  pub short : length (print_chunk_line l) ≤ 256

-- the text is a chunk, its line, its bytes and CR LF, and then rest
pub record ChunkAt (text bytes rest : List ℕ) : Type 0 where
  pub line : ChunkLine
  pub reads : LineAt text line (bytes ++ carriage_return ∷ line_feed ∷ rest)
  pub size : chunk_size line ≡ length bytes
  pub some : 0 < length bytes

-- the text is a chunk of each of these, and then rest
abbrev pub Parts : List (List ℕ) → List ℕ → List ℕ → Type 0
Parts [] text rest = text ≡ rest
Parts (bytes ∷ more) text rest = (after : List ℕ) × ChunkAt text bytes after × Parts more after rest

-- all these bytes
abbrev pub joined : List (List ℕ) → List ℕ
joined [] = []
joined (bytes ∷ more) = bytes ++ joined more

-- a byte of a trailer line
abbrev pub is_text : ℕ → Bool
is_text b = not (b == line_feed)

-- the line without its line feed is that of the empty line
abbrev pub is_blank : List ℕ → Bool
is_blank [] = true
is_blank (b ∷ []) = b == carriage_return
is_blank (b ∷ c ∷ bs) = false

-- the line has no line feed, and is not the empty line
pub record IsTrailer (t : List ℕ) : Type 0 where
  pub one : list_all is_text t ≡ true
  pub some : is_blank t ≡ false

-- the text is these lines, each with a line feed behind it, the empty line, and then rest
abbrev pub Trailers : List (List ℕ) → List ℕ → List ℕ → Type 0
Trailers [] text rest = (e : LineEnd) × (text ≡ print_end e ++ rest)
Trailers (t ∷ ts) text rest = (after : List ℕ) × IsTrailer t × (text ≡ t ++ line_feed ∷ after) × Trailers ts after rest

-- how many bytes these lines have
abbrev pub trailer_len : List (List ℕ) → ℕ
trailer_len [] = 0
trailer_len (t ∷ ts) = length t + 1 + trailer_len ts

-- the text begins with trailers in so much room, and the empty line
pub record HasTrailers (room : ℕ) (text : List ℕ) : Type 0 where
  pub lines : List (List ℕ)
  pub rest : List ℕ
  pub reads : Trailers lines text rest
  pub short : trailer_len lines ≤ room

-- the text begins with chunks of these bytes, the line of an empty one, and trailers
pub record IsChunked (text bytes : List ℕ) : Type 0 where
  pub parts : List (List ℕ)
  pub mid : List ℕ
  pub reads : Parts parts text mid
  pub line : ChunkLine
  pub after : List ℕ
  pub last : LineAt mid line after
  pub empty : chunk_size line ≡ 0
  pub trailers : HasTrailers 65536 after
  pub all : bytes ≡ joined parts

-- the text begins with chunks and a further chunk line whose sizes sum to more than room
pub record ExceedsInChunks (text : List ℕ) (room : ℕ) : Type 0 where
  pub parts : List (List ℕ)
  pub mid : List ℕ
  pub reads : Parts parts text mid
  pub line : ChunkLine
  pub after : List ℕ
  pub next : LineAt mid line after
  pub more : room < length (joined parts) + chunk_size line

-- What is still expected of a body, at each place in it.
use Rattle.std.specs.Prelude.{◌≡◌, ℕ, ◌-◌, ◌<◌, ◌≤◌, List, [], ◌∷◌, ◌++◌, length}
use Rattle.http_fetch.specs.declared.stages.Stage.{Stage}
use Rattle.http_fetch.specs.declared.stages.Stage.TheVariants.{Heads, Length, Line, Data, Trailer, Open, Whole, Over, Never}
use Rattle.http_fetch.specs.Chunks.{IsChunked, ExceedsInChunks, HasTrailers}
use Rattle.http_fetch.specs.Replies.{HasFront}

-- the text is so many bytes of a chunk, its end, and then a body by chunks; all its bytes
pub record MoreData (left : ℕ) (text bytes : List ℕ) : Type 0 where
  pub front : List ℕ
  pub after : List ℕ
  pub more : List ℕ
  pub count : length front ≡ left
  pub reads : text ≡ front ++ 13 ∷ 10 ∷ after
  pub chunks : IsChunked after more
  pub all : bytes ≡ front ++ more

-- the text is so many bytes of a chunk, its end, and then chunks past the room
pub record ExceedsData (left : ℕ) (text : List ℕ) (room : ℕ) : Type 0 where
  pub front : List ℕ
  pub after : List ℕ
  pub count : length front ≡ left
  pub reads : text ≡ front ++ 13 ∷ 10 ∷ after
  pub chunks : ExceedsInChunks after (room - left)

-- the text completes the reply, with these further bytes of its body
abbrev pub More : Stage → List ℕ → List ℕ → Type 0
More (Heads left) text bytes = ⊥
More (Length left) text bytes = (length bytes ≡ left) × HasFront text bytes
More Line text bytes = IsChunked text bytes
More (Data left) text bytes = MoreData left text bytes
More (Trailer room) text bytes = HasTrailers room text × (bytes ≡ [])
More Open text bytes = text ≡ bytes
More (Whole status) text bytes = ⊥
More Over text bytes = ⊥
More Never text bytes = ⊥

-- the text shows more than room further bytes
abbrev pub Past : Stage → List ℕ → ℕ → Type 0
Past (Heads left) text room = ⊥
Past (Length left) text room = ⊥
Past Line text room = ExceedsInChunks text room
Past (Data left) text room = ExceedsData left text room
Past (Trailer most) text room = ⊥
Past Open text room = room < length text
Past (Whole status) text room = ⊥
Past Over text room = Unit {0}
Past Never text room = ⊥

-- the text completes the reply of status 200 of which the body has got these bytes
pub record Grown (stage : Stage) (limit : ℕ) (got text : List ℕ) (gives : ℕ × List ℕ) : Type 0 where
  pub good : gives.0 ≡ 200
  pub rest : List ℕ
  pub more : More stage text rest
  pub within : length rest ≤ limit - length got
  pub all : gives.1 ≡ got ++ rest

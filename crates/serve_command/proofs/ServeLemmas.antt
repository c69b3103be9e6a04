-- How serving ends, by the end of the connection and by what is written behind it.
use Rattle.std.proofs.Common.{◌≢◌, List, subst, sym, inl, inr}
use Rattle.journal_text.specs.Events.{journal_text}
use Rattle.journal_text.specs.declared.events.Event.{Event}
use Rattle.journal_text.specs.declared.versions.Version.TheVariants.{Two}
use Rattle.outside.specs.Objects.{Took}
use Rattle.command_words.specs.Askings.{Serving}
use Rattle.status_server.specs.declared.serving.ServeEnd.{ServeEnd}
use Rattle.status_server.specs.declared.serving.ServeEnd.TheVariants as serve
use Rattle.serve_command.specs.Serves.{Ends, Finishes, IsServed, IsWritten, Touched, WrittenSo}
use Rattle.serve_command.specs.declared.ends.ServerEnd.{ServerEnd}
use Rattle.serve_command.specs.declared.ends.ServerEnd.TheVariants.{Done, Unreplayed, ReadFault, TooLong, WriteFault, NoMemory}

module _ (s : Serving) (t : Touched) (after : List Event) where
  -- the journal was due behind an end of the connection, and its writing ended so
  module _ (end : ServeEnd) (put : end ≢ serve.WriteFault) (is : IsWritten end) (k : IsServed end s t after) (due : ServerEnd)
      (done : Took (journal_text Two after) t.trail → Ends due s t) where
    written : (e : ServerEnd) → WrittenSo due e after t.trail → Ends e s t
    written WriteFault h = inr (record { end = end; written = is; after = after; served = k; trail = h })
    written NoMemory h = record { end = end; put = put; nothing = record { after = after; served = k; trail_same = h } }
    written Done h = subst (λ (x : ServerEnd). Ends x s t) (sym h.0) (done h.1)
    written (Unreplayed u) h = subst (λ (x : ServerEnd). Ends x s t) (sym h.0) (done h.1)
    written ReadFault h = subst (λ (x : ServerEnd). Ends x s t) (sym h.0) (done h.1)
    written TooLong h = subst (λ (x : ServerEnd). Ends x s t) (sym h.0) (done h.1)

  pub ends : (end : ServeEnd) (e : ServerEnd) → IsServed end s t after → Finishes end after e t.trail → Ends e s t
  ends serve.NoMemory e k h =
      subst (λ (x : ServerEnd). Ends x s t) (sym h.0)
      (record { end = serve.NoMemory; put = λ no. absurd cc; nothing = record { after = after; served = k; trail_same = h.1 } })
  ends serve.WriteFault e k h =
      subst (λ (x : ServerEnd). Ends x s t) (sym h.0) (inl (record { after = after; served = k; trail_same = h.1 }))
  ends serve.Done e k h = written serve.Done (λ no. absurd cc) tt k Done (λ took. record { after = after; served = k; trail = took }) e h
  ends serve.ReadFault e k h = written serve.ReadFault (λ no. absurd cc) tt k ReadFault (λ took. record { after = after; served = k; trail = took }) e h
  ends serve.TooLong e k h = written serve.TooLong (λ no. absurd cc) tt k TooLong (λ took. record { after = after; served = k; trail = took }) e h

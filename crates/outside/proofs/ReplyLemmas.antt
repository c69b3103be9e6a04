-- Lists of replies of which one is taken.
use Rattle.std.specs.Prelude.{List, [], ◌∷◌, All, Bool, true, false}
use Rattle.std.proofs.lemmas.List.Elements.{All-tail}
use Rattle.outside.specs.declared.requests.Fetched.{Fetched}
use Rattle.outside.specs.declared.requests.Scheme.{Scheme}
use Rattle.outside.specs.declared.requests.Scheme.TheVariants.{Http, Https}
use Rattle.outside.specs.Replies.{IsReplyToGive, without_first, left_for}

pub rest_keeps : (fs : List Fetched) → All IsReplyToGive fs → All IsReplyToGive (without_first fs)
rest_keeps [] all = all
rest_keeps (f ∷ fs) all = All-tail IsReplyToGive f fs all

pub left_keeps : (s : Scheme) (fs : List Fetched) (fails : Bool) → All IsReplyToGive fs → All IsReplyToGive (left_for s fs fails)
left_keeps Http fs true all = all
left_keeps Http fs false all = rest_keeps fs all
left_keeps Https fs fails all = all

use Rattle.std.proofs.Common.{bytes_eq}
use Rattle.std.specs.Str.{str_to_ascii_lowercase}
use Rattle.std.proofs.lemmas.Slice.Eq.{bytes_eq-Decides}
use Rattle.std.proofs.lemmas.Bool.Decides.{same_from_decides}
use Rattle.request_heads.specs.Requests.{same_word}
use Rattle.request_heads.proofs.fields.same_word.Goals as goal

pub returns : goal.returns
unfolding same_word
returns c = same_from_decides c.eq_ignore_ascii_case.result (bytes_eq (str_to_ascii_lowercase c.args.one.now) (str_to_ascii_lowercase c.args.other.now))
    c.eq_ignore_ascii_case.ensures.test (bytes_eq-Decides (str_to_ascii_lowercase c.args.one.now) (str_to_ascii_lowercase c.args.other.now))

use Rattle.book_text.proofs.RoomLemmas.{set_len}
use Rattle.book_text.proofs.rooms.text_room.Goals as goal

pub returns : goal.returns
returns c = rw c.in-Some.ensures (set_len c.args.set.now)

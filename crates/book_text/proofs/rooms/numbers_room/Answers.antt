use Rattle.book_text.proofs.RoomLemmas.{numbers_len}
use Rattle.book_text.proofs.rooms.numbers_room.Goals as goal

pub returns-clause-within : goal.returns-clause-within
returns-clause-within c = numbers_len c.args._moment c.args._life c.ranges._moment c.ranges._life.fits

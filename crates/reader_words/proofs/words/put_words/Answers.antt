use Rattle.reader.specs.Places.{item_room}
use Rattle.reader_words.proofs.Packing.{padded}
use Rattle.reader_words.proofs.Ordered.{written}
use Rattle.reader_words.proofs.words.put_words.Goals as goal

pub returns : goal.returns
returns c =
    let v = rw (c.room.ensures, padded item_room c.args.r.now.kept) at c.pack.ensures in
    let w = rw (c.room-2.ensures, padded item_room c.args.r.now.file) at c.pack-2.ensures in
    rw (c.bytes.ensures.kept, c.bytes-2.ensures.kept) (written c.args.r.now c.pack.new.words c.pack-2.new.words c.from.result v w c.from.ensures)

-- An answer's number fits its bits. Assumes nothing.
use Rattle.session.proofs.Kept.{append_fits}
use Rattle.session.proofs.words.append_words.Goals as goal

pub answer_bits-requires : goal.answer_bits-requires
answer_bits-requires c = append_fits c.args.bytes.now c.args.file.now _ c.append-appended.ensures

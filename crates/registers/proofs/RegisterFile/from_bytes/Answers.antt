-- A refusal is handed on.
use Rattle.std.proofs.lemmas.Result.{err_from_is_err_and}
use Rattle.laws.proofs.Answered.{handed_on}
use Rattle.registers.proofs.Answers.{file_answered}
use Rattle.registers.proofs.RegisterFile.from_bytes.Goals as goal

pub returns-in_err-check : goal.returns-in_err-check
returns-in_err-check c =
    let p = err_from_is_err_and c.from_residual.result c.from_residual.ensures.1 in
    rw (p.1, p.2, file_answered c.args.b.now) (handed_on _ _ _ c.check.ensures c.in_err-check.was)

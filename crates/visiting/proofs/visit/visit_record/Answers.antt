use Rattle.std.proofs.Common.{rules}
use Rattle.registers.specs.Files.{file_of}
use Rattle.registers.proofs.Answers.{file_long}
use Rattle.visiting.proofs.Visits.{long, fits, lent, visit_done, visit_complex, visit_refused}
use Rattle.visiting.proofs.visit.visit_record.Goals as goal

pub plain-plain-requires : goal.plain-plain-requires
plain-plain-requires c = long c.args.b.now c.requires.0

pub completed-read-requires : goal.completed-read-requires
completed-read-requires c = long c.args.b.now c.requires.0

pub parse-f-requires : goal.parse-f-requires
parse-f-requires c = file_long c.args.file.now c.requires.1

pub put_log-requires : goal.put_log-requires
put_log-requires c = (
  lent c.args.b.now c.requires.0 c.plain-plain.ensures c.completed-read.ensures c.fixed_up-x.ensures,
  rw (c.resolve-at.ensures, c.parse-f.ensures) (fits c.fixed_up-x.result (file_of c.args.file.now) c.requires.2),
)

pub returns-in-0 : goal.returns-in-0
returns-in-0 c =
    visit_done c.args.b.now c.requires.0 c.plain-plain.ensures c.completed-read.ensures c.fixed_up-x.ensures
    (file_of c.args.file.now) c.args.log.now c.requires.2 c.refusal_of-number.ensures c.in-0.is c.parse-f.ensures c.resolve-at.ensures c.put_log.ensures

pub returns-in-4 : goal.returns-in-4
returns-in-4 c =
    visit_complex c.args.b.now c.requires.0 c.plain-plain.ensures c.completed-read.ensures c.fixed_up-x.ensures
    (file_of c.args.file.now) c.args.log.now c.requires.2 c.refusal_of-number.ensures c.in-4.is

pub returns-in_default : goal.returns-in_default
returns-in_default c =
    visit_refused c.args.b.now c.requires.0 c.plain-plain.ensures c.completed-read.ensures c.fixed_up-x.ensures
    (file_of c.args.file.now) c.args.log.now c.requires.2 c.refusal_of-number.ensures (search rules) (search rules)

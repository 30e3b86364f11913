-- `transcript::area::Transcript::open_area` meets its contract. Assumes nothing.
use Rattle.transcript.specs.Told.{told}
use Rattle.transcript.specs.LentLaws.{opened_said, area_lies}
use Rattle.transcript.proofs.answer.Transcript.open_area.Goals as goal

pub returns-clause-told : goal.returns-clause-told
returns-clause-told c =
    let a = c.args in
    rw (c.open-answer.ensures.answer, c.place-start.ensures, c.place.ensures)
    (opened_said a.op a.before.now a.room (told a.self.now) _ _ _ _ c.keep_inside.ensures.told c.open-answer.ensures.tells.told c.put_bytes.ensures.told c.fill.ensures.told)

pub returns-clause-lies : goal.returns-clause-lies
returns-clause-lies c =
    let a = c.args in
    area_lies (record { op = a.op; head = c.open-answer.result.head; body = c.open-answer.result.body; start = c.place-start.result; end = c.place.result })
    (told c.fill.new.self).text a.op a.before.now a.room (told a.self.now) (returns-clause-told c)

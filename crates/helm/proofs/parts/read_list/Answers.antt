-- `helm::parts::read_list` meets its contract.
use Rattle.helm.proofs.PartLaws.{part_whole, part_partial, part_refused}
use Rattle.std.specs.Prelude.{ℕ, ◌≡◌, Result, Option, Ok}
use Rattle.std.proofs.Common.{ap, ◌∙◌}
use Rattle.lists.specs.declared.error.ListError.{ListError}
use Rattle.helm.proofs.parts.read_list.Goals as goal

ok_is : {r : Result (Option ℕ) ListError} {x y : Option ℕ} → r ≡ Ok x → x ≡ y → r ≡ Ok y
ok_is e f = e ∙ ap Ok f

pub returns-in-Ok-Some-clause-whole : goal.returns-in-Ok-Some-clause-whole
returns-in-Ok-Some-clause-whole c = part_whole c.args.parts c.pgns.new.out c.args.out.now c.pgns.ensures.exact c.requires.room c.requires.formed c.in-Ok-Some.count (ok_is c.in-Ok-Some.is c.in-Ok-Some.field-0-is)

pub returns-in-Ok-None-clause-part : goal.returns-in-Ok-None-clause-part
returns-in-Ok-None-clause-part c = λ _. part_partial c.args.parts c.pgns.new.out c.args.out.now c.pgns.ensures.exact c.requires.room c.requires.formed (ok_is c.in-Ok-None.is c.in-Ok-None.field-0-is)

pub returns-in-Err-clause-part : goal.returns-in-Err-clause-part
returns-in-Err-clause-part c = λ _. absurd (part_refused c.args.parts c.pgns.new.out c.args.out.now c.pgns.ensures.exact c.requires.room c.requires.formed c.in-Err.field-0 c.in-Err.is)

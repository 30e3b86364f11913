use Rattle.std.proofs.Common.{◌≤◌, sym, ap, ◌∙◌}
use Rattle.std.proofs.Math.Path.{subst}
use Rattle.numbers.specs.Layout.{is_set}
use Rattle.numbers.specs.LayoutLaws.{set_one}
use Rattle.helm.specs.declared.stored.Numbers.{Numbers}
use Rattle.helm.specs.Stored.{session_of, plain}
use Rattle.helm.specs.StoredLaws.{plain_held, plain_again, plain_small}
use Rattle.helm.proofs.steps.Step.left.Goals as goal

pub returns-clause-left : goal.returns-clause-left
returns-clause-left c = λ s. ap (λ (n : Numbers). session_of n s) c.plain_in.ensures ∙ plain_held c.args.self.numbers c.args.self.state s

pub returns-clause-phase : goal.returns-clause-phase
returns-clause-phase c = subst (λ (n : Numbers). n.phase ≤ 7) (sym c.plain_in.ensures) (plain_small c.args.self.numbers c.args.self.state)

pub returns-clause-form : goal.returns-clause-form
returns-clause-form c = c.plain_in.ensures ∙ sym (plain_again c.args.self.numbers c.args.self.state) ∙ ap plain (sym c.plain_in.ensures)

pub returns-clause-blank : goal.returns-clause-blank
returns-clause-blank c = ap (λ (n : Numbers). is_set n.blank) c.plain_in.ensures ∙ set_one (is_set c.args.self.numbers.blank)

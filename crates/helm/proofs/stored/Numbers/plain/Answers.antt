use Rattle.std.proofs.Common.{◌≤◌, sym, ap, ◌∙◌}
use Rattle.std.proofs.Math.Path.{subst}
use Rattle.tx_list.specs.declared.State.{State}
use Rattle.helm.specs.declared.stored.Numbers.{Numbers}
use Rattle.helm.specs.Stored.{session_of, session_at, plain_in, plain}
use Rattle.helm.specs.StoredLaws.{plain_held, plain_again, plain_small}
use Rattle.helm.proofs.stored.Numbers.plain.Goals as goal

pub returns-clause-value : goal.returns-clause-value
returns-clause-value c = c.plain_in.ensures ∙ ap (plain_in c.args.self) c.state.ensures

pub returns-clause-held : goal.returns-clause-held
returns-clause-held c = λ s.
    ap (λ (n : Numbers). session_of n s) c.plain_in.ensures
    ∙ plain_held c.args.self c.state.result s
    ∙ ap (λ (st : State). session_at st c.args.self s) c.state.ensures

pub returns-clause-phase : goal.returns-clause-phase
returns-clause-phase c = subst (λ (n : Numbers). n.phase ≤ 7) (sym c.plain_in.ensures) (plain_small c.args.self c.state.result)

pub returns-clause-form : goal.returns-clause-form
returns-clause-form c = c.plain_in.ensures ∙ sym (plain_again c.args.self c.state.result) ∙ ap plain (sym c.plain_in.ensures)

use Rattle.std.proofs.Common.{refl, ap, sym, ◌∙◌}
use Rattle.std.proofs.Math.Path.{subst}
use Rattle.bounds.specs.declared.Limits.{Limits}
use Rattle.session.specs.Sync.{Begun}
use Rattle.helm.specs.Stored.{Stored, FitLimits, session_in, with_numbers, with_parts}
use Rattle.helm.specs.Calls.{begun_with}
use Rattle.helm.proofs.sessions.Session.begin.Goals as goal

pub returns-clause-any_parts : goal.returns-clause-any_parts
returns-clause-any_parts g c = λ f.
    let s = with_parts (g.Self.Arrays.stored c.args.self.now) f in
    let l = c.limits.ensures in
    let w = c.args.wanted.now in
    ap {B = Begun} (λ (t : Stored). record { number = 0; sync = session_in (with_parts t f) })
    (c.set_numbers.ensures ∙ ap (λ (t : Stored). with_numbers t c.in_ok-numbers.numbers) c.store.ensures)
    ∙ c.in_ok-numbers.ensures.left s w (subst FitLimits (sym l) g.met.Self.Arrays.limits_fit) (sym c.numbers.ensures) refl
    ∙ ap (λ (q : Limits). begun_with q s w) l

use Rattle.std.proofs.Common.{ap, sym, ◌∙◌}
use Rattle.std.proofs.Math.Path.{subst}
use Rattle.bounds.specs.declared.Limits.{Limits}
use Rattle.session.specs.Sync.{Sync, Begun}
use Rattle.helm.specs.Stored.{Stored, FitLimits, HasSizes, session_in, with_parts}
use Rattle.helm.specs.Calls.{abandoned}
use Rattle.helm.proofs.HandLaws.{sizes_parted}
use Rattle.helm.proofs.sessions.Session.abandon.Goals as goal

pub returns-clause-left : goal.returns-clause-left
returns-clause-left g c =
    let s = g.Self.Arrays.stored c.args.self.now in
    let l = c.limits.ensures in
    ap {B = Begun} (λ (x : Sync). record { number = 0; sync = x }) (ap session_in c.set_numbers.ensures)
    ∙ c.in_ok-numbers.ensures.left s (record { fit = subst FitLimits (sym l) g.met.Self.Arrays.limits_fit; sizes = subst (λ (q : Limits). HasSizes q s) (sym l) c.sized.ensures; numbers = sym c.numbers.ensures })
    ∙ ap (λ (q : Limits). abandoned q s) l

pub returns-clause-any_parts : goal.returns-clause-any_parts
returns-clause-any_parts g c = λ f.
    let s = with_parts (g.Self.Arrays.stored c.args.self.now) f in
    let l = c.limits.ensures in
    ap {B = Begun} (λ (t : Stored). record { number = 0; sync = session_in (with_parts t f) }) c.set_numbers.ensures
    ∙ c.in_ok-numbers.ensures.left s (record { fit = subst FitLimits (sym l) g.met.Self.Arrays.limits_fit; sizes = sizes_parted f (subst (λ (q : Limits). HasSizes q (g.Self.Arrays.stored c.args.self.now)) (sym l) c.sized.ensures); numbers = sym c.numbers.ensures })
    ∙ ap (λ (q : Limits). abandoned q s) l

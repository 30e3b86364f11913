use Rattle.std.proofs.Common.{◌≡◌, ℕ, ap, sym, ◌∙◌, length}
use Rattle.std.specs.Prelude.{Result, Ok, Err}
use Rattle.std.specs.Result.{IsErrAnd}
use Rattle.bounds.specs.declared.Limits.{Limits}
use Rattle.session.specs.Sync.{Sync, Told}
use Rattle.std.proofs.Math.Path.{subst}
use Rattle.helm.specs.Stored.{Stored, FitLimits, HasSizes, session_in, with_parts}
use Rattle.tx_list.specs.Reading as model
use Rattle.helm.specs.declared.words.Refusal.{Refusal}
use Rattle.helm.specs.Calls.{told, called}
use Rattle.helm.proofs.HandLaws.{sizes_parted}
use Rattle.helm.proofs.entry.tick.Goals as goal

-- what `?` makes of a refusal
passed_on : (r : Result ℕ Refusal) (e : Refusal) → IsErrAnd r (λ x. x ≡ e) → r ≡ Err e
passed_on (Ok n) e h = absurd h
passed_on (Err x) e h = ap Err h

pub returns-clause-left : goal.returns-clause-left
returns-clause-left g c =
    let s = g.M.Arrays.stored c.args.memory.now in
    let l = c.limits.ensures in
    ap {B = Told} (λ (x : Sync). record { number = 0; count = c.in_ok-ticked.ticked.count; sync = x; out = c.tick.new.out }) (ap session_in c.set_numbers.ensures)
    ∙ c.in_ok-ticked.ensures.left s (record { fit = subst FitLimits (sym l) g.met.M.Arrays.limits_fit; sizes = subst (λ (q : Limits). HasSizes q s) (sym l) c.sized.ensures; numbers = sym c.numbers.ensures })
    ∙ ap (λ (q : Limits). called q s (model.tick c.args.time (length c.args.out.now)) c.args.out.now) l

pub returns-clause-any_parts : goal.returns-clause-any_parts
returns-clause-any_parts g c = λ f.
    let s = with_parts (g.M.Arrays.stored c.args.memory.now) f in
    let l = c.limits.ensures in
    ap {B = Told} (λ (t : Stored). record { number = 0; count = c.in_ok-ticked.ticked.count; sync = session_in (with_parts t f); out = c.tick.new.out }) c.set_numbers.ensures
    ∙ c.in_ok-ticked.ensures.left s (record { fit = subst FitLimits (sym l) g.met.M.Arrays.limits_fit; sizes = sizes_parted f (subst (λ (q : Limits). HasSizes q (g.M.Arrays.stored c.args.memory.now)) (sym l) c.sized.ensures); numbers = sym c.numbers.ensures })
    ∙ ap (λ (q : Limits). called q s (model.tick c.args.time (length c.args.out.now)) c.args.out.now) l

pub returns-in_err-ticked-clause-any_parts : goal.returns-in_err-ticked-clause-any_parts
returns-in_err-ticked-clause-any_parts g c = λ f.
    let s = with_parts (g.M.Arrays.stored c.args.memory.now) f in
    let l = c.limits.ensures in
    ap (λ (r : Result ℕ Refusal). told r s c.tick.new.out) (passed_on c.from_residual.result c.in_err-ticked.field-0.0 c.from_residual.ensures.1)
    ∙ c.in_err-ticked.ensures.left s (record { fit = subst FitLimits (sym l) g.met.M.Arrays.limits_fit; sizes = sizes_parted f (subst (λ (q : Limits). HasSizes q (g.M.Arrays.stored c.args.memory.now)) (sym l) c.sized.ensures); numbers = sym c.numbers.ensures })
    ∙ ap (λ (q : Limits). called q s (model.tick c.args.time (length c.args.out.now)) c.args.out.now) l

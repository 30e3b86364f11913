use Rattle.std.proofs.Common.{◌≡◌, ℕ, ◌<◌, ◌≤◌, arith, sym, ap, ◌∙◌, length}
use Rattle.bounds.specs.declared.Limits.{Limits}
use Rattle.tx_list.specs.Session.{Record}
use Rattle.session.specs.Sync.{Sync, Begun}
use Rattle.helm.specs.declared.stored.Which.TheVariants.{Wanted, Saved, Present, Refused}
use Rattle.helm.specs.declared.stored.Numbers.{Numbers}
use Rattle.numbers.specs.Layout.{is_set}
use Rattle.helm.specs.Stored.{Stored, session_of, opened_with, plain}
use Rattle.helm.specs.Arrays.{storing}
use Rattle.helm.specs.Machines.{helm_stored}
use Rattle.helm.proofs.BegunLaws.{begun_over, begun_record, begun_taken, counted, filled}
use Rattle.helm.proofs.machines.Helm.begun.Goals as goal
use Rattle.helm.proofs.machines.Helm.begun.Goals.{After-opened-helm}

pub returns-then-limits-wanted-clause-left : goal.returns-then-limits-wanted-clause-left
returns-then-limits-wanted-clause-left c =
    let h : 64 < length c.args.wanted.now = omega (arith, ap (λ (l : Limits). l.wanted) c.limits.ensures, c.if-limits-wanted.true) in
    begun_over c.args.wanted.now (record { saved = c.args.saved.now; present = c.args.present.now; refused = c.args.refused.now }) h

pub returns-then-not-has_old_record-clause-left : goal.returns-then-not-has_old_record-clause-left
returns-then-not-has_old_record-clause-left c =
    let h : length c.args.wanted.now ≤ 64 = omega (arith, ap (λ (l : Limits). l.wanted) c.limits.ensures, c.if-limits-wanted.false) in
    begun_record c.args.wanted.now (record { saved = c.args.saved.now; present = c.args.present.now; refused = c.args.refused.now }) h
    (sym c.has_old_record.ensures ∙ c.if-not-has_old_record.true)

-- the arrays, filled one after the other
filled_as : (c : After-opened-helm) → helm_stored c.store-4.new.self ≡ filled c.args.wanted.now (record { saved = c.args.saved.now; present = c.args.present.now; refused = c.args.refused.now })
filled_as c =
    let w = c.args.wanted.now in
    c.store-4.ensures
    ∙ ap (λ (t : Stored). storing t Refused 0 c.args.refused.now)
    (c.store-3.ensures
    ∙ ap (λ (t : Stored). storing t Present 0 c.args.present.now)
    (c.store-2.ensures ∙ ap (λ (t : Stored). storing t Saved 0 c.args.saved.now) (c.store.ensures ∙ ap (λ (t : Stored). storing t Wanted 0 w) c.new-helm.ensures)))

pub returns-clause-left : goal.returns-clause-left
returns-clause-left c =
    let w = c.args.wanted.now in
    let r : Record ℕ = record { saved = c.args.saved.now; present = c.args.present.now; refused = c.args.refused.now } in
    let h : length w ≤ 64 = omega (arith, ap (λ (l : Limits). l.wanted) c.limits.ensures, c.if-limits-wanted.false) in
    ap {B = Begun} (λ (x : Sync). record { number = 0; sync = x })
    (ap (λ (n : Numbers). session_of n (helm_stored c.store-4.new.self)) c.opened-helm.ensures
    ∙ ap (session_of (opened_with (counted w r) (length w))) (filled_as (goal.at.returns-clause-left c).After-opened-helm))
    ∙ begun_taken w r h (sym c.has_old_record.ensures ∙ c.if-not-has_old_record.false)

pub returns-clause-form : goal.returns-clause-form
returns-clause-form c = c.opened-helm.ensures ∙ ap plain (sym c.opened-helm.ensures)

pub returns-clause-hand : goal.returns-clause-hand
returns-clause-hand c =
    let e = filled_as (goal.at.returns-clause-hand c).After-opened-helm in
    λ i. record { parts = (e i).parts; blank = is_set (c.opened-helm.ensures i).blank }

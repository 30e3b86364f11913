use Rattle.std.proofs.Common.{◌+◌, ◌<◌, arith, refl, ap, ◌∙◌, [], rules}
use Rattle.std.proofs.lemmas.List.Edits.{sets}
use Rattle.views.specs.ViewsLaws.{list_pgns_length}
use Rattle.tx_list.specs.Views.{pgns_at}
use Rattle.tx_list.specs.declared.State.TheVariants.{Reading}
use Rattle.session.specs.ReadingLaws.{adds_told}
use Rattle.helm.specs.declared.steps.Step.{Step}
use Rattle.helm.specs.Stored.{session_at}
use Rattle.helm.specs.Steps.{told_step}
use Rattle.helm.proofs.reading.add.Goals as goal

pub overflow_cast-numbers : goal.overflow_cast-numbers
overflow_cast-numbers g c =
    let h : c.group_count-count.result < 65536 = omega (arith, c.requires, list_pgns_length c.args.payload.now, c.group_count-count.ensures, g.met.M.Arrays.limits_fit.list) in
    search rules

pub overflow_add-numbers : goal.overflow_add-numbers
overflow_add-numbers g c =
    let h : c.args.old.list + c.group_count-count.result < 65536 = omega (arith, c.requires, list_pgns_length c.args.payload.now, c.group_count-count.ensures, g.met.M.Arrays.limits_fit.list) in
    search rules

pub returns-clause-left : goal.returns-clause-left
returns-clause-left g c =
    let s = g.M.Arrays.stored c.args.memory.now in
    let n = c.args.old in
    let m = c.args.payload.now in
    let k = c.group_count-count.result in
    ap (λ (r : Step). told_step r (g.M.Arrays.stored c.add_pgns.new.self)) c.awaiting.ensures
    ∙ (λ i. record { sent = []; sync = session_at (Reading c.args.attempt) (record n { list = n.list + k; due = c.args.at.ms + 10000 }) (c.add_pgns.ensures i) })
    ∙ adds_told (session_at (Reading c.args.attempt) n s) m c.args.at.ms k (sets s.list n.list (pgns_at m 13 k)) c.group_count-count.ensures refl

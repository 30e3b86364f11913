use Rattle.std.proofs.Common.{◌≡◌, arith, ap, ◌∙◌}
use Rattle.tx_list.specs.Moves.{goes_on}
use Rattle.tx_list.specs.declared.State.TheVariants.{Done}
use Rattle.session.specs.Sync.{Sync, kind, step_of}
use Rattle.helm.proofs.HeardLaws.{enabling_room}
use Rattle.helm.proofs.answers.on_answer.Goals as goal

pub mark-marked-requires : goal.mark-marked-requires
mark-marked-requires g c =
    let w = c.args.tested.within in
    let r = enabling_room g.M.Arrays.limits c.args.tested.numbers c.args.tested.formed c.requires in
    record {
      known = r.known;
      present = r.present;
      refused = r.refused;
      saved = w.saved;
      fresh = r.fresh;
      owed = omega (arith, r.owed, w.owed);
    }

pub go_on-requires : goal.go_on-requires
go_on-requires g c =
    let e : c.mark-marked.result.owed ≡ c.args.tested.numbers.owed = ap (λ (h : Sync). h.owed.n) (c.mark-marked.ensures.left Done) in
    omega (arith, e, c.args.tested.within.owed)

pub returns-clause-left : goal.returns-clause-left
returns-clause-left g c = λ st. c.go_on.ensures.left st ∙ ap (λ (h : Sync). step_of (goes_on kind h c.args.at.ms)) (c.mark-marked.ensures.left st)

use Rattle.std.proofs.Common.{◌≡◌, ◌&&◌, ap, ◌∙◌, List, ℕ, not, take, get_or}
use Rattle.numbers.specs.Layout.{is_set}
use Rattle.tx_list.specs.Views.{has, Answer, is_good, is_there, is_denied, is_fresh, answer_of}
use Rattle.helm.specs.Stored.{session_at}
use Rattle.helm.proofs.AnswerLaws.{good_by, there_by, denied_by, fresh_by, and_three, marked_by}
use Rattle.helm.proofs.answers.mark.Goals as goal

pub returns-clause-left : goal.returns-clause-left
returns-clause-left g c = λ st.
    let s = g.M.Arrays.stored c.args.memory.now in
    let n = c.args.old in
    let m = c.args.payload.now in
    let p = get_or c.array.result.now 0 0 in
    let a = answer_of m in
    let r = c.enable_result-said.result in
    let said = c.enable_result-said.ensures in
    let good : c.ne.result ≡ is_good a = c.ne.ensures ∙ good_by r ∙ ap is_good said in
    let lacked = not (has p (take n.known s.known)) in
    let unsaved = not (has p (take n.saved s.saved)) in
    let learned : c.absent-learned.result ≡ (is_set n.read && (is_good a && lacked)) =
    c.absent-learned.ensures ∙ (λ i. (is_set n.read && good i) && lacked) ∙ and_three (is_set n.read) (is_good a) lacked in
    let known = c.push_if-known.ensures.count in
    let present = c.push_if-present.ensures.count in
    let refused = c.push_if-refused.ensures.count in
    let fresh = c.push_if-fresh.ensures.count in
    (λ i. session_at st (record n { known = known i; present = present i; refused = refused i; fresh = fresh i }) (g.M.Arrays.stored c.push_if-fresh.new.memory))
    ∙ marked_by st n m s
    (g.M.Arrays.stored c.push_if-known.new.memory)
    (g.M.Arrays.stored c.push_if-present.new.memory)
    (g.M.Arrays.stored c.push_if-refused.new.memory)
    (g.M.Arrays.stored c.push_if-fresh.new.memory)
    p
    (ap (λ (o : List ℕ). get_or o 0 0) c.array.ensures.array)
    learned
    (c.eq.ensures ∙ there_by r ∙ ap is_there said)
    (c.eq-2.ensures ∙ denied_by r ∙ ap is_denied said)
    (c.absent-unsaved.ensures ∙ (λ i. c.eq-now.ensures i && unsaved) ∙ fresh_by r p (take n.saved s.saved) ∙ ap (λ (x : Answer). is_fresh x p (take n.saved s.saved)) said)
    c.push_if-known.ensures.items
    c.push_if-present.ensures.items
    c.push_if-refused.ensures.items
    c.push_if-fresh.ensures.items

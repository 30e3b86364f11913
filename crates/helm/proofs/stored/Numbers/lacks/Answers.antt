use Rattle.std.proofs.Common.{◌≡◌, ℕ, Bool, List, not, refl, sym, ap, ◌∙◌, take, ne_eqb, eq-eqb}
use Rattle.std.specs.Prelude.{Option}
use Rattle.bounds.specs.declared.Limits.{Limits}
use Rattle.lists.specs.declared.F2List.{F2List}
use Rattle.numbers.specs.Layout.{is_set}
use Rattle.tx_list.specs.Session.{Session, lacks_by}
use Rattle.tx_list.specs.Views.{has}
use Rattle.helm.specs.declared.stored.Numbers.{Numbers}
use Rattle.helm.specs.Stored.{Stored}
use Rattle.helm.specs.Calls.{Holds, lack_of}
use Rattle.helm.proofs.CallLaws.{formed_by, state_none, lacks_law}
use Rattle.helm.proofs.stored.Numbers.lacks.Goals as goal

-- the tests, of memory that holds the numbers and the array
read_by : {l : Limits} {n : Numbers} {s : Stored} {b : Bool} → Holds l n s → is_set n.read ≡ b → is_set s.numbers.read ≡ b
read_by z e = ap (λ (n : Numbers). is_set n.read) z.numbers ∙ e

whole_by : {l : Limits} {n : Numbers} {s : Stored} {b : Bool} → Holds l n s → is_set n.complete ≡ b → is_set s.numbers.complete ≡ b
whole_by z e = ap (λ (n : Numbers). is_set n.complete) z.numbers ∙ e

known_by : {l : Limits} {n : Numbers} {s : Stored} {k : List ℕ} {b : Bool} (p : ℕ) → Holds l n s → s.known ≡ k → has p (take n.known k) ≡ b → has p (take s.numbers.known s.known) ≡ b
known_by p z e h = (λ i. has p (take (z.numbers i).known (e i))) ∙ h

pub returns-then-not-is_session : goal.returns-then-not-is_session
returns-then-not-is_session c = λ s z k.
    ap (λ (o : Option (Session F2List ℕ)). lack_of o c.args.pgn)
    (state_none c.args.limits s z.fit z.sizes (formed_by z c.is_session.ensures c.if-not-is_session.true))

pub returns-then-self-eq0 : goal.returns-then-self-eq0
unfolding lacks_by
returns-then-self-eq0 c = λ s z k.
    lacks_law c.args.limits s z.fit z.sizes c.args.pgn (formed_by z c.is_session.ensures c.if-not-is_session.false)
    (read_by z (ap not (eq-eqb c.args.self.read 0 c.if-self-eq0.true))) refl refl

pub returns-then-has : goal.returns-then-has
unfolding lacks_by
returns-then-has c = λ s z k.
    lacks_law c.args.limits s z.fit z.sizes c.args.pgn (formed_by z c.is_session.ensures c.if-not-is_session.false)
    (read_by z (ap not (ne_eqb c.args.self.read 0 c.if-self-eq0.false))) (known_by c.args.pgn z k (sym c.has.ensures ∙ c.if-has.true)) refl

pub returns-then-self-ne0 : goal.returns-then-self-ne0
unfolding lacks_by
returns-then-self-ne0 c = λ s z k.
    lacks_law c.args.limits s z.fit z.sizes c.args.pgn (formed_by z c.is_session.ensures c.if-not-is_session.false)
    (read_by z (ap not (ne_eqb c.args.self.read 0 c.if-self-eq0.false))) (known_by c.args.pgn z k (sym c.has.ensures ∙ c.if-has.false))
    (whole_by z (ap not (ne_eqb c.args.self.complete 0 c.if-self-ne0.true)))

pub returns-else-self-ne0 : goal.returns-else-self-ne0
unfolding lacks_by
returns-else-self-ne0 c = λ s z k.
    lacks_law c.args.limits s z.fit z.sizes c.args.pgn (formed_by z c.is_session.ensures c.if-not-is_session.false)
    (read_by z (ap not (ne_eqb c.args.self.read 0 c.if-self-eq0.false))) (known_by c.args.pgn z k (sym c.has.ensures ∙ c.if-has.false))
    (whole_by z (ap is_set c.if-self-ne0.false))

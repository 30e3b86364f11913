-- Laws of the answers to enable, commit and activate.
use Rattle.std.specs.Prelude.{ℕ, ◌≡◌, Bool, true, false, not, ◌&&◌, List, take, get_or}
use Rattle.std.proofs.Common.{refl}
use Rattle.numbers.specs.Layout.{is_set}
use Rattle.session.specs.Sync.{kind}
use denote.Enum.Bare.{sameb}
use Rattle.views.specs.contracts.EnableResult.{the_type}
use Rattle.views.specs.declared.EnableResult.{EnableResult}
use Rattle.views.specs.declared.EnableResult.TheVariants.{Now, Already, Refused}
use Rattle.views.specs.Told.{told_result}
use Rattle.tx_list.specs.Views.{has, is_good, is_there, is_denied, is_fresh, answer_of}
use Rattle.tx_list.specs.Changed.{push_if}
use Rattle.tx_list.specs.Moves.{marks}
use Rattle.tx_list.specs.declared.State.{State}
use Rattle.helm.specs.declared.stored.Numbers.{Numbers}
use Rattle.helm.specs.declared.stored.Which.TheVariants as which
use Rattle.helm.specs.Stored.{Stored, buffer_of, with_array, session_at}

-- the tests of an answer: an answer is compared with one of the three
pub good_by : (r : EnableResult) → not (sameb the_type r Refused) ≡ is_good (told_result r)
unfolding is_good
good_by Now = refl
good_by Already = refl
good_by Refused = refl

pub there_by : (r : EnableResult) → sameb the_type r Already ≡ is_there (told_result r)
unfolding is_there
there_by Now = refl
there_by Already = refl
there_by Refused = refl

pub denied_by : (r : EnableResult) → sameb the_type r Refused ≡ is_denied (told_result r)
unfolding is_denied
denied_by Now = refl
denied_by Already = refl
denied_by Refused = refl

pub fresh_by : (r : EnableResult) (p : ℕ) (l : List ℕ) → (sameb the_type r Now && not (has p l)) ≡ is_fresh (told_result r) p l
unfolding is_fresh
fresh_by Now p l = refl
fresh_by Already p l = refl
fresh_by Refused p l = refl

-- three tests, the first two of them together
pub and_three : (a b c : Bool) → ((a && b) && c) ≡ (a && (b && c))
and_three true b c = refl
and_three false b c = refl

-- the lists after an answer, each pushed to where its test passed
pub marked_by :
    (st : State) (n : Numbers) (m : List ℕ) (s t u v w : Stored) (p : ℕ) {a b c d : Bool}
    → p ≡ get_or s.owed 0 0
    → a ≡ (is_set n.read && (is_good (answer_of m) && not (has p (take n.known s.known))))
    → b ≡ is_there (answer_of m)
    → c ≡ is_denied (answer_of m)
    → d ≡ is_fresh (answer_of m) p (take n.saved s.saved)
    → t ≡ with_array s which.Known (push_if a (buffer_of which.Known n.known s) p).items
    → u ≡ with_array t which.Present (push_if b (buffer_of which.Present n.present t) p).items
    → v ≡ with_array u which.Refused (push_if c (buffer_of which.Refused n.refused u) p).items
    → w ≡ with_array v which.Fresh (push_if d (buffer_of which.Fresh n.fresh v) p).items
    → session_at st
    (record n {
      known = (push_if a (buffer_of which.Known n.known s) p).n;
      present = (push_if b (buffer_of which.Present n.present t) p).n;
      refused = (push_if c (buffer_of which.Refused n.refused u) p).n;
      fresh = (push_if d (buffer_of which.Fresh n.fresh v) p).n;
    })
    w
    ≡ marks kind (session_at st n s) m (answer_of m)
marked_by st n m s t u v w p ep ea eb ec ed et eu ev ew = rw (ew, ev, eu, et, ea, eb, ec, ed, ep) refl

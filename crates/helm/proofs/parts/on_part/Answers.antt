use Rattle.std.proofs.Common.{◌≡◌, true, false, arith, refl, sym, ap, ◌∙◌, List, ℕ, take}
use Rattle.std.proofs.Math.Option.{Option, none}
use Rattle.std.proofs.lemmas.List.Edits.{sets}
use Rattle.lists.specs.declared.F2List.{F2List}
use Rattle.lists.specs.Format2.{formed, pgns_of}
use Rattle.tx_list.specs.Moves.{puts, gets, in_whole}
use Rattle.tx_list.specs.declared.State.TheVariants.{ReadingF2}
use Rattle.session.specs.Sync.{kind, put, step_of}
use Rattle.session.specs.ReadingLaws.{front_read}
use Rattle.helm.specs.declared.stored.Which.TheVariants.{Known}
use Rattle.helm.specs.Stored.{Stored, parts_of, session_at, with_array}
use Rattle.session.specs.Lent.{Hand, hand_by}
use Rattle.helm.specs.Hands.{hand_in}
use Rattle.helm.proofs.PartLaws.{parts_formed, formed_count}
use Rattle.helm.proofs.parts.on_part.Goals as goal

pub read_list-requires-clause-formed : goal.read_list-requires-clause-formed
read_list-requires-clause-formed g c =
    let s = g.M.Arrays.stored c.args.memory.now in
    let n = c.args.tested.numbers in
    let m = c.args.payload.now in
    ap formed (c.put_part.ensures ∙ ap (put m) (c.in_hand-parts.ensures ∙ ap (parts_of n) c.parts.ensures)) ∙ parts_formed n s.parts m c.args.tested.within.proprietary

pub slice_bounds-store-end : goal.slice_bounds-store-end
slice_bounds-store-end g c = c.in-Some.ensures.whole.count

pub got-requires : goal.got-requires
got-requires g c = omega (arith, c.in-Some.ensures.whole.most, c.requires)

pub keep-requires : goal.keep-requires
keep-requires g c =
    let s = g.M.Arrays.stored c.args.memory.now in
    let n = c.args.tested.numbers in
    let m = c.args.payload.now in
    let pp = c.put_part.ensures ∙ ap (put m) (c.in_hand-parts.ensures ∙ ap (parts_of n) c.parts.ensures) in
    omega (arith, ap (λ (p : F2List). p.proprietary.list.n) pp, formed_count (put m (parts_of n s.parts)) (parts_formed n s.parts m c.args.tested.within.proprietary))

pub returns-in-Some-clause-left : goal.returns-in-Some-clause-left
unfolding in_whole
returns-in-Some-clause-left g c =
    let s = g.M.Arrays.stored c.args.memory.now in
    let u = g.M.Arrays.stored c.store.new.self in
    let n = c.args.tested.numbers in
    let m = c.args.payload.now in
    let t = c.args.at.ms in
    let S = session_at (ReadingF2 c.args.attempt) n s in
    let P = put m (parts_of n s.parts) in
    let pp : c.put_part.new.parts ≡ P = c.put_part.ensures ∙ ap (put m) (c.in_hand-parts.ensures ∙ ap (parts_of n) c.parts.ensures) in
    let w = c.in-Some.ensures.whole in
    let o = take c.in-Some.count c.read_list.new.out in
    let uk : u.known ≡ sets s.known 0 o = ap (λ (y : Stored). y.known) c.store.ensures in
    let tk : take c.in-Some.count u.known ≡ o =
    (λ i. take (w.count i) (uk i)) ∙ front_read o s.known (omega (arith, w.count, w.most, c.sized.ensures.known, c.requires)) in
    c.got.ensures.left (ReadingF2 c.args.attempt) s.known c.sized.ensures.known (uk ∙ ap (sets s.known 0) (sym tk))
    ∙ (λ i. step_of (gets kind (session_at (ReadingF2 c.args.attempt) n (with_array (c.store.ensures i) Known s.known)) (tk i) true t))
    ∙ sym (ap (λ (x : Option (List ℕ)). step_of (in_whole kind x S P t)) (ap pgns_of (sym pp) ∙ w.gives))

pub returns-in-None-clause-left : goal.returns-in-None-clause-left
unfolding in_whole
returns-in-None-clause-left g c =
    let s = g.M.Arrays.stored c.args.memory.now in
    let n = c.args.tested.numbers in
    let m = c.args.payload.now in
    let t = c.args.at.ms in
    let S = session_at (ReadingF2 c.args.attempt) n s in
    let P = put m (parts_of n s.parts) in
    let pp : c.put_part.new.parts ≡ P = c.put_part.ensures ∙ ap (put m) (c.in_hand-parts.ensures ∙ ap (parts_of n) c.parts.ensures) in
    let z : pgns_of c.put_part.new.parts ≡ none = c.in-None.ensures.part refl in
    c.keep.ensures.left
    ∙ ap (λ (p : F2List). step_of (puts kind S p t)) pp
    ∙ sym (ap (λ (x : Option (List ℕ)). step_of (in_whole kind x S P t)) (ap pgns_of (sym pp) ∙ z))

pub returns-in-Some-clause-hand : goal.returns-in-Some-clause-hand
returns-in-Some-clause-hand g c =
    let s = g.M.Arrays.stored c.args.memory.now in
    let n = c.args.tested.numbers in
    let m = c.args.payload.now in
    let P = put m (parts_of n s.parts) in
    let pp : c.put_part.new.parts ≡ P = c.put_part.ensures ∙ ap (put m) (c.in_hand-parts.ensures ∙ ap (parts_of n) c.parts.ensures) in
    c.got.ensures.hand
    ∙ ap (hand_in n) c.store.ensures
    ∙ ap (λ (x : Option (List ℕ)). hand_by x P (hand_in n s)) (sym (ap pgns_of (sym pp) ∙ c.in-Some.ensures.whole.gives))

pub returns-in-None-clause-hand : goal.returns-in-None-clause-hand
returns-in-None-clause-hand g c =
    let s = g.M.Arrays.stored c.args.memory.now in
    let n = c.args.tested.numbers in
    let m = c.args.payload.now in
    let P = put m (parts_of n s.parts) in
    let pp : c.put_part.new.parts ≡ P = c.put_part.ensures ∙ ap (put m) (c.in_hand-parts.ensures ∙ ap (parts_of n) c.parts.ensures) in
    let z : pgns_of c.put_part.new.parts ≡ none = c.in-None.ensures.part refl in
    c.keep.ensures.hand
    ∙ ap {B = Hand} (λ (p : F2List). record { parts = p; blank = false }) pp
    ∙ ap (λ (x : Option (List ℕ)). hand_by x P (hand_in n s)) (sym (ap pgns_of (sym pp) ∙ z))

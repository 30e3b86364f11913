-- From helm's calls over the numbers in memory to what the exports leave of the lent ones. Assumes nothing.
use Rattle.std.specs.Prelude.{ℕ, ◌<◌, ◌≤◌, ◌≡◌, Bool, true, false, List, get_or, eqb, ltb, not, ◌&&◌, ◌||◌, ◌%◌, length}
use Rattle.std.proofs.Common.{arith, refl, sym, ap, ◌∙◌, le-ltb, le-leb, ne_eqb, leb}
use Rattle.std.proofs.Math.Path.{subst}
use Rattle.field.specs.Pick.{pick}
use Rattle.field.specs.Tests.{left_true, right_true}
use borrow.Author.Tests.{not-true}
use Rattle.bounds.specs.declared.Limits.{Limits}
use Rattle.numbers.specs.Layout.{state_of, attempt_of, calm, due_in}
use Rattle.tx_list.specs.declared.State.{State}
use Rattle.tx_list.specs.declared.State.TheVariants.{AwaitStartup, ReadAt, ReadingF2, Reading as ReadingF1, Enabling, Committing, Activating, Done}
use Rattle.session.specs.Sync.{Begun, Said, refused}
use Rattle.session.specs.Lent.{Arrays, minds_in}
use Rattle.helm.specs.declared.stored.Numbers.{Numbers}
use Rattle.helm.specs.Stored.{Stored, FitLimits, HasSizes, is_calm, rests_on, ignores_on}
use Rattle.helm.specs.Machines.{helm_limits, numbers_in}
use Rattle.helm.specs.Calls.{Holds}
use Rattle.ngt1_session.specs.Session as told
use Rattle.ngt1_session.specs.Session.{renews, asks, lack_number}
use Rattle.ngt1_session.specs.CalmLaws.{same_mind}
use Rattle.helm.specs.Linked.{uncut}
use Rattle.helm.proofs.LinkLaws.{calm_same, rests_same, calm_phase}
use Rattle.numbers.specs.LayoutLaws.{calm_parts}
use Rattle.std.proofs.lemmas.Bool.Decides.{nat_tests}

-- memory that holds the lent numbers holds those that were read from them
pub holds_by : {l : Limits} {x : Numbers} {s : Stored} (n : List ℕ) → l ≡ helm_limits → x ≡ numbers_in n → Holds helm_limits (numbers_in n) s → Holds l x s
holds_by {l} {x} {s} n e q z =
    record { fit = subst FitLimits (sym e) z.fit; sizes = subst (λ (l : Limits). HasSizes l s) (sym e) z.sizes; numbers = z.numbers ∙ sym q }

-- the attempt that is stored is one of 32 bits
either_small : (b : Bool) (x y : State) → attempt_of x < 4294967296 → attempt_of y < 4294967296 → attempt_of (pick b x y) < 4294967296
either_small true x y h g = h
either_small false x y h g = g

pub attempt_small : (p a : ℕ) → a < 4294967296 → attempt_of (state_of p a) < 4294967296
attempt_small p a h =
    let z : 0 < 4294967296 = omega arith in
    either_small (eqb p 0) AwaitStartup _ z
    (either_small (eqb p 1) ReadAt _ z
    (either_small (eqb p 2) (ReadingF1 a) _ h
    (either_small (eqb p 3) (ReadingF2 a) _ h
    (either_small (eqb p 4) Enabling _ z (either_small (eqb p 5) Committing _ z (either_small (eqb p 6) Activating Done z z))))))

-- in a phase, the session's own answer
pub in_renews : (n : List ℕ) (a : Arrays) (b : Begun) → get_or n 0 0 ≤ 7 → b ≡ renews n a b
unfolding renews
in_renews n a b h = rw (le-ltb 7 (get_or n 0 0) h)

-- what is said of a PGN, in numbers
pub asks_by : (n : List ℕ) (x : Said) → lack_number (pick (ltb 7 (get_or n 0 0)) (refused 16) x) ≡ asks n (lack_number x)
unfolding asks
asks_by n x = by_test (ltb 7 (get_or n 0 0))
  where
    by_test : (b : Bool) → lack_number (pick b (refused 16) x) ≡ pick b 16 (lack_number x)
    by_test true = refl
    by_test false = refl

-- one look at the numbers in memory, and at the lent ones
same_by : (a b : Bool) → (a ≡ true → b ≡ true) → (b ≡ true → a ≡ true) → a ≡ b
same_by true b f g = sym (f refl)
same_by false true f g = g refl
same_by false false f g = refl

module _ (n : List ℕ) where
  calm_of : calm n ≡ true → is_calm helm_limits (uncut n) ≡ true
  calm_of e =
      let z = calm_parts n e in
      rw (z.wanted, z.owed, z.fresh, z.list, z.proprietary, z.known, z.saved, z.present, z.refused, le-leb (get_or n 0 0) 7 z.phase, ne_eqb (get_or n 0 0) 4 z.other)

  calm_by : is_calm helm_limits (uncut n) ≡ true → calm n ≡ true
  unfolding calm
  calm_by e =
      let a : leb (get_or n 2 0) 64 ≡ true = grind (arith, nat_tests) in
      let b : leb (get_or n 3 0) 64 ≡ true = grind (arith, nat_tests) in
      let c : leb (get_or n 4 0) 64 ≡ true = grind (arith, nat_tests) in
      let d : leb (get_or n 5 0) 1024 ≡ true = grind (arith, nat_tests) in
      let f : leb (get_or n 6 0) 512 ≡ true = grind (arith, nat_tests) in
      let g : leb (get_or n 7 0) 1344 ≡ true = grind (arith, nat_tests) in
      let h : leb (get_or n 8 0) 192 ≡ true = grind (arith, nat_tests) in
      let i : leb (get_or n 9 0) 192 ≡ true = grind (arith, nat_tests) in
      let j : leb (get_or n 10 0) 192 ≡ true = grind (arith, nat_tests) in
      let k : leb (get_or n 0 0) 7 ≡ true = grind (arith, nat_tests) in
      let l : eqb (get_or n 0 0) 4 ≡ false = grind (arith, nat_tests) in
      rw (k, l, a, b, c, d, f, g, h, i, j)

  pub calm_told : is_calm helm_limits (numbers_in n) ≡ calm n
  calm_told = calm_same n ∙ same_by (is_calm helm_limits (uncut n)) (calm n) calm_by calm_of

  -- a tick that does nothing
  pub looked : (t room : ℕ) → told.rests_on n t room ≡ true → (calm n && (leb t 18446744073709541615 && leb 32 room)) ≡ true
  unfolding told.rests_on
  looked t room e = right_true (not (due_in (get_or n 0 0) (get_or n 11 0) t)) (calm n && (leb t 18446744073709541615 && leb 32 room)) e

  pub resting : (t room : ℕ) → told.rests_on n t room ≡ true → due_in (get_or n 0 0) (get_or n 11 0) t ≡ false
  unfolding told.rests_on
  resting t room e = not-true (due_in (get_or n 0 0) (get_or n 11 0) t) (left_true (not (due_in (get_or n 0 0) (get_or n 11 0) t)) (calm n && (leb t 18446744073709541615 && leb 32 room)) e)

  rests_by : (t room : ℕ) → rests_on helm_limits (uncut n) t room ≡ true → told.rests_on n t room ≡ true
  unfolding told.rests_on
  rests_by t room e =
      let c : is_calm helm_limits (uncut n) ≡ true = grind (arith, nat_tests) in
      let d : due_in (get_or n 0 0) (get_or n 11 0) t ≡ false = grind (arith, nat_tests) in
      let h : leb t 18446744073709541615 ≡ true = grind (arith, nat_tests) in
      let r : leb 32 room ≡ true = grind (arith, nat_tests) in
      λ i. not (d i) && (calm_by c i && (h i && r i))

  rests_of : (t room : ℕ) → told.rests_on n t room ≡ true → rests_on helm_limits (uncut n) t room ≡ true
  rests_of t room e =
      let l = looked t room e in
      let d = resting t room e in
      let c = left_true (calm n) (leb t 18446744073709541615 && leb 32 room) l in
      let g = right_true (calm n) (leb t 18446744073709541615 && leb 32 room) l in
      let p : get_or n 0 0 ≤ 7 = (calm_parts n c).phase in
      let q : (ltb t (get_or n 11 0) || eqb (get_or n 0 0) 0 || eqb (get_or n 0 0) 7) ≡ true = grind (arith, nat_tests) in
      λ i.
      calm_of c i
      && q i
      && left_true (leb t 18446744073709541615) (leb 32 room) g i
      && right_true (leb t 18446744073709541615) (leb 32 room) g i

  pub rests_told : (t room : ℕ) → rests_on helm_limits (numbers_in n) t room ≡ told.rests_on n t room
  rests_told t room =
      rests_same n t room ∙ same_by (rests_on helm_limits (uncut n) t room) (told.rests_on n t room) (rests_by t room) (rests_of t room)

  -- a message of no interest
  module _ (t : ℕ) (m : List ℕ) (room : ℕ) where
    minds_same : is_calm helm_limits (numbers_in n) ≡ true → minds_in (state_of (numbers_in n).phase (numbers_in n).attempt) m ≡ minds_in (state_of (get_or n 0 0) 0) m
    minds_same c =
        ap (λ (p : ℕ). minds_in (state_of p (get_or n 1 0 % 4294967296)) m) (calm_phase n c)
        ∙ sym (same_mind n (calm_parts n (sym calm_told ∙ c)) m)

    ignores_by : ignores_on helm_limits (numbers_in n) t m room ≡ true → told.ignores_on n t m room ≡ true
    unfolding told.ignores_on
    ignores_by e =
        let c : is_calm helm_limits (numbers_in n) ≡ true = grind (arith, nat_tests) in
        let h : leb t 18446744073709541615 ≡ true = grind (arith, nat_tests) in
        let k : leb (length m) 255 ≡ true = grind (arith, nat_tests) in
        let r : leb 32 room ≡ true = grind (arith, nat_tests) in
        let d : minds_in (state_of (numbers_in n).phase (numbers_in n).attempt) m ≡ false = grind (arith, nat_tests) in
        λ i. (sym calm_told ∙ c) i && (h i && (k i && (r i && not ((sym (minds_same c) ∙ d) i))))

    ignores_of : told.ignores_on n t m room ≡ true → ignores_on helm_limits (numbers_in n) t m room ≡ true
    unfolding told.ignores_on
    ignores_of e =
        let i5 = not (minds_in (state_of (get_or n 0 0) 0) m) in
        let i4 = leb 32 room && i5 in
        let i3 = leb (length m) 255 && i4 in
        let i2 = leb t 18446744073709541615 && i3 in
        let c : is_calm helm_limits (numbers_in n) ≡ true = calm_told ∙ left_true (calm n) i2 e in
        let e2 = right_true (calm n) i2 e in
        let e3 = right_true (leb t 18446744073709541615) i3 e2 in
        let e4 = right_true (leb (length m) 255) i4 e3 in
        λ i.
        c i
        && left_true (leb t 18446744073709541615) i3 e2 i
        && left_true (leb (length m) 255) i4 e3 i
        && left_true (leb 32 room) i5 e4 i
        && (ap not (minds_same c) ∙ right_true (leb 32 room) i5 e4) i

    pub ignores_told : ignores_on helm_limits (numbers_in n) t m room ≡ told.ignores_on n t m room
    ignores_told = same_by (ignores_on helm_limits (numbers_in n) t m room) (told.ignores_on n t m room) ignores_by ignores_of

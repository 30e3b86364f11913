-- One look: numbers that are calm are those of a session.
use Rattle.std.specs.Prelude.{ℕ, ◌+◌, ◌≤◌, ◌≡◌, true}
use Rattle.std.proofs.Common.{arith, le-leb}
use Rattle.std.proofs.Math.Path.{refl}
use Rattle.std.proofs.Math.Dec.{leb}
use Rattle.std.proofs.lemmas.Bool.Decides.{nat_tests}
use Rattle.bounds.specs.declared.Limits.{Limits}
use Rattle.bounds.specs.Bounds.{counts_fit, old_fits, sound_at}
use Rattle.numbers.specs.Layout.{state_of}
use Rattle.numbers.specs.LayoutLaws.{by_phase_law}
use Rattle.helm.specs.declared.stored.Numbers.{Numbers}
use Rattle.helm.specs.Stored.{FitLimits, counts_of, is_calm, is_well_formed}

-- what calm numbers are, test by test
pub record Calm (l : Limits) (n : Numbers) : Type 0 where
  pub fits : counts_fit l (counts_of n) ≡ true
  pub old : old_fits (counts_of n) ≡ true
  pub sums : leb (n.saved + n.fresh) 256 ≡ true
  pub phase : n.phase ≤ 7
  pub other : n.phase ≡ 4 → ⊥
  pub format : n.phase ≡ 3 → l.two ≡ true

pub calm_parts : (l : Limits) (n : Numbers) → FitLimits l → is_calm l n ≡ true → Calm l n
calm_parts l n f e =
    record {
      fits = grind (arith, nat_tests);
      old = grind (arith, nat_tests);
      sums = grind (arith, nat_tests);
      phase = grind (arith, nat_tests);
      other = λ p. grind (arith, nat_tests);
      format = λ p. grind (arith, nat_tests);
    }

at_phase : (l : Limits) (n : Numbers) → Calm l n → (a p : ℕ) → p ≤ 7 → (p ≡ 4 → ⊥) → (p ≡ 3 → l.two ≡ true) → sound_at l (counts_of n) (state_of p a) ≡ true
at_phase l n z a =
    by_phase_law (λ (p : ℕ). (p ≡ 3 → l.two ≡ true) → sound_at l (counts_of n) (state_of p a) ≡ true)
    (λ q. rw (z.fits, z.old))
    (λ q. rw (z.fits, z.old))
    (λ q. rw (z.fits, z.old))
    (λ q. rw (z.fits, z.old, q refl))
    (λ q. rw (z.fits, z.sums))
    (λ q. rw (z.fits, z.sums))
    (λ q. rw z.fits)

pub calm_sound : (l : Limits) (n : Numbers) → FitLimits l → is_calm l n ≡ true → is_well_formed l n ≡ true
calm_sound l n f e =
    let z = calm_parts l n f e in
    rw (le-leb n.phase 7 z.phase) (at_phase l n z n.attempt n.phase z.phase z.other z.format)

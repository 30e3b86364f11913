-- What a reply makes of the information, by its sequence and length. Assumes nothing.
use Rattle.std.proofs.Common.{ℕ, ◌<◌, ◌≤◌, ◌≡◌, true, false, List, length, Result, Ok, Err, MatchResult, eqb, sym, ap, ◌∙◌}
use Rattle.std.specs.Result.{IsErrAnd}
use Rattle.field.specs.Fields.{field}
use Rattle.texts.specs.Texts.{TextRead, told_text, text_at}
use Rattle.texts.specs.declared.Text.{Text}
use Rattle.texts.specs.declared.error.NotAscii.{NotAscii}
use Rattle.product.specs.declared.ProductInfo.{ProductInfo}
use Rattle.product.specs.Product.{refused, held, plain_at, plain_all, all_in, with_numbers, with_text, by_sequence, told_reply}
use Rattle.product.proofs.Said.{handed_on}
use Rattle.product.specs.ProductLaws.{all_short, all_bad, all_set, numbers_short, numbers_set, text_short, text_bad, text_set, add_six, add_one, add_part, add_low, add_high}

module _ (p : ProductInfo) (s : ℕ) (d : List ℕ) where
  -- too short, or of another sequence: nothing changes
  pub six_short : s ≡ 6 → length d < 138 → held p ≡ by_sequence p s d
  six_short e h = sym (add_six p s d e ∙ all_short p d h)

  pub one_short : s ≡ 1 → length d < 6 → held p ≡ by_sequence p s d
  one_short e h = sym (add_one p s d e ∙ numbers_short p d h)

  pub part_short : 2 ≤ s → s ≤ 5 → length d < 32 → held p ≡ by_sequence p s d
  part_short e f h = sym (add_part p s d e f ∙ text_short p s d h)

  pub other_low : s < 1 → held p ≡ by_sequence p s d
  other_low h = sym (add_low p s d h)

  pub other_high : 6 < s → held p ≡ by_sequence p s d
  other_high h = sym (add_high p s d h)

  -- long enough
  pub six_told : (r : Result ProductInfo NotAscii) → s ≡ 6 → 138 ≤ length d
      → MatchResult r (λ q. (plain_all d ≡ true) × (q ≡ all_in d)) (λ _. plain_all d ≡ false) → told_reply p r ≡ by_sequence p s d
  six_told (Ok q) e h m = ap held m.1 ∙ sym (add_six p s d e ∙ all_set p d h m.0)
  six_told (Err n) e h m = sym (add_six p s d e ∙ all_bad p d h m)

  pub one_set : (q : ProductInfo) → s ≡ 1 → 6 ≤ length d → q ≡ with_numbers p (field d 0 2) (field d 2 2) → held q ≡ by_sequence p s d
  one_set q e h k = ap held k ∙ sym (add_one p s d e ∙ numbers_set p d h)

  pub part_set : (q : ProductInfo) → 2 ≤ s → s ≤ 5 → 32 ≤ length d → plain_at d 0 ≡ true → q ≡ with_text p s (text_at d 0).text → held q ≡ by_sequence p s d
  part_set q e f h g k = ap held k ∙ sym (add_part p s d e f ∙ text_set p s d h g)

  pub part_refused : 2 ≤ s → s ≤ 5 → 32 ≤ length d → plain_at d 0 ≡ false → refused p 15 ≡ by_sequence p s d
  part_refused e f h g = sym (add_part p s d e f ∙ text_bad p s d h g)

  -- by what `text_at` returned
  pub text_told : (q : ProductInfo) (t : Text) → 2 ≤ s → s ≤ 5 → 32 ≤ length d → told_text (Ok t) ≡ text_at d 0 → q ≡ with_text p s t → held q ≡ by_sequence p s d
  text_told q t e f h g k =
      part_set q e f h (ap (λ (r : TextRead). eqb r.number 0) (sym g)) (k ∙ ap (λ (r : TextRead). with_text p s r.text) g)

  pub text_refused : (r : Result ProductInfo NotAscii) (n : NotAscii) → 2 ≤ s → s ≤ 5 → 32 ≤ length d → IsErrAnd r (λ x. x ≡ n) → told_text (Err n) ≡ text_at d 0
      → told_reply p r ≡ by_sequence p s d
  text_refused r n e f h m g = sym (handed_on p r n m) ∙ part_refused e f h (ap (λ (x : TextRead). eqb x.number 0) (sym g))

-- the cases in which nothing changes
pub ruleset unchanged = (six_short, one_short, part_short, other_low, other_high)

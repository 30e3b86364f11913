-- What `add` says, from what it tells. Assumes nothing.
use Rattle.std.proofs.Common.{ℕ, ◌≡◌, ◌↔◌, refl, Bool, true, false, List, Result, Ok, Err, ap, sym, ◌∙◌, true≢false, arith}
use Rattle.std.specs.Result.{IsErrOf, IsErrAnd}
use Rattle.field.specs.Pick.{pick}
use Rattle.texts.specs.declared.error.NotAscii.{NotAscii as Refusal}
use Rattle.product.specs.declared.ProductInfo.{ProductInfo}
use Rattle.product.specs.declared.error.ProductError.{ProductError}
use Rattle.product.specs.declared.error.ProductError.TheVariants.{IllFormed, NotAscii}
use Rattle.product.specs.Product.{Added, formed, refused, added, told_added, told_reply}
use Rattle.product.specs.Adding.{not_plain, number_is}

-- what `?` makes of a refusal
pub passed_on : (r : Result Bool ProductError) → IsErrAnd r (λ e. e ≡ NotAscii) → r ≡ Err NotAscii
passed_on (Ok w) h = absurd h
passed_on (Err e) h = ap Err h

pub handed_on : (p : ProductInfo) (r : Result ProductInfo Refusal) (e : Refusal) → IsErrAnd r (λ x. x ≡ e) → refused p 15 ≡ told_reply p r
handed_on p (Ok q) e h = absurd h
handed_on p (Err x) e h = refl

-- 15 just where the information is well formed and a text that the reply would set is not plain
by_number : (p : ProductInfo) (r : Result Bool ProductError) (f n : Bool) → (told_added p r).number ≡ pick f (pick n 15 0) 16
    → IsErrOf r NotAscii ↔ ((f ≡ true) × (n ≡ true))
by_number p (Ok w) true true e = absurd (omega (arith, e))
by_number p (Ok w) true false e = (λ h. absurd cc, λ h. absurd (true≢false (sym h.1)))
by_number p (Ok w) false n e = absurd (omega (arith, e))
by_number p (Err IllFormed) true true e = absurd (omega (arith, e))
by_number p (Err IllFormed) true false e = absurd (omega (arith, e))
by_number p (Err IllFormed) false n e = (λ h. absurd cc, λ h. absurd (true≢false (sym h.0)))
by_number p (Err NotAscii) true true e = (λ h. (refl, refl), λ h. refl)
by_number p (Err NotAscii) true false e = absurd (omega (arith, e))
by_number p (Err NotAscii) false n e = absurd (omega (arith, e))

pub said_not_ascii : (q : ProductInfo) (r : Result Bool ProductError) (p : ProductInfo) (s : ℕ) (d : List ℕ) → told_added q r ≡ added p s d
    → IsErrOf r NotAscii ↔ ((formed p ≡ true) × (not_plain s d ≡ true))
said_not_ascii q r p s d e = by_number q r (formed p) (not_plain s d) (ap (λ (a : Added). a.number) e ∙ number_is p s d)

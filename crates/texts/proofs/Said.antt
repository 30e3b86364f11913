-- What `text_at` says, from what it tells. Assumes nothing.
use Rattle.std.proofs.Common.{ℕ, ◌≡◌, ◌↔◌, refl, Bool, true, false, List, Result, Ok, Err, IfOk, IsErr, IsTrue, ap, sym, ◌∙◌, true≢false, arith}
use Rattle.texts.specs.declared.Text.{Text}
use Rattle.texts.specs.declared.error.NotAscii.{NotAscii}
use Rattle.texts.specs.Texts.{TextRead, text_of, text_formed, cut, all_plain, trimmed, told_text, text_read, lent, text_at}
use Rattle.texts.specs.TextLaws.{read_good, read_bad, text_at_formed}

-- a text is told just where the bytes before the end are plain, and it is what is left of them
told_good : (s : List ℕ) (t : Text) → ◌≡◌ {A = TextRead} (record { number = 0; text = t }) (text_read s) → (all_plain (cut s) ≡ true) × (t ≡ text_of (trimmed (cut s)))
told_good s t e = go (all_plain (cut s)) refl
  where
    go : (p : Bool) → all_plain (cut s) ≡ p → (all_plain (cut s) ≡ true) × (t ≡ text_of (trimmed (cut s)))
    go true h = (h, ap (λ (r : TextRead). r.text) (e ∙ sym (read_good s h)))
    go false h = absurd (omega (arith, ap (λ (r : TextRead). r.number) (e ∙ sym (read_bad s h))))

told_bad : (s : List ℕ) (t : Text) → ◌≡◌ {A = TextRead} (record { number = 15; text = t }) (text_read s) → all_plain (cut s) ≡ false
told_bad s t e = go (all_plain (cut s)) refl
  where
    go : (p : Bool) → all_plain (cut s) ≡ p → all_plain (cut s) ≡ false
    go true h = absurd (omega (arith, ap (λ (r : TextRead). r.number) (e ∙ sym (read_good s h))))
    go false h = h

pub said_ok : (r : Result Text NotAscii) (d : List ℕ) (at : ℕ) → told_text r ≡ text_at d at → IfOk r (λ t. t ≡ text_of (trimmed (cut (lent d at))))
unfolding text_at
said_ok (Ok t) d at e = (told_good (lent d at) t e).1
said_ok (Err n) d at e = tt

pub said_err : (r : Result Text NotAscii) (d : List ℕ) (at : ℕ) → told_text r ≡ text_at d at → IsErr r ↔ (all_plain (cut (lent d at)) ≡ false)
unfolding text_at
said_err (Ok t) d at e = (λ h. absurd (true≢false (sym h)), λ h. absurd (true≢false (sym (told_good (lent d at) t e).0 ∙ h)))
said_err (Err n) d at e = (λ h. told_bad (lent d at) _ e, λ h. refl)

pub said_formed : (r : Result Text NotAscii) (d : List ℕ) (at : ℕ) → told_text r ≡ text_at d at → IfOk r (λ t. IsTrue (text_formed t))
said_formed (Ok t) d at e = ap (λ (r : TextRead). text_formed r.text) e ∙ text_at_formed d at
said_formed (Err n) d at e = tt

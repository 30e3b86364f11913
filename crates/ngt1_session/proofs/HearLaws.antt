-- Laws of `ngt1_session_message` and `ngt1_session_part`: a message over blank memory in the place of what is not lent. Assumes nothing.
use Rattle.std.specs.Prelude.{ℕ, zero, suc, ◌%◌, ◌≤◌, ◌≡◌, refl, Bool, true, false, List, [], length, get_or, replicate, Result, Ok, Err, OnErr}
use Rattle.std.proofs.Common.{arith, sym, ap, ◌∙◌, le-ltb}
use Rattle.std.proofs.Math.Path.{subst}
use Rattle.lists.specs.declared.F2List.{F2List}
use Rattle.numbers.specs.Layout.{is_set, state_of}
use Rattle.tx_list.specs.Reading.{message}
use Rattle.tx_list.specs.Views.{f2_of}
use Rattle.session.specs.Sync.{Sync, Told, called}
use Rattle.session.specs.Lent.{Numbers, Arrays, Fits, lent, sync_of, parts_of, reads_f2, hand, handed}
use Rattle.tx_list.proofs.LiveLists.{false_true}
use Rattle.session.specs.LentLaws.{chosen, other}
use Rattle.session.proofs.FrameLaws.{with_blank, parted, beside, told_anyway, fits_any, over, told_beside, keeps, hands_kept, hands_back, held_back}
use Rattle.helm.specs.declared.stored.Numbers.{Numbers as HelmNumbers}
use Rattle.helm.specs.declared.words.Refusal.{Refusal}
use Rattle.helm.specs.Words.{refusal_number}
use Rattle.helm.specs.Calls as helm
use Rattle.helm.specs.Machines.{helm_limits, lent_plain}
use Rattle.helm.specs.Machines as helm_machines
use Rattle.helm.specs.Linked.{as_lent, arrays_in, stored_in, uncut, told_by}
use Rattle.helm.specs.Stored.{Stored}
use Rattle.helm.proofs.LinkLaws.{set_half, message_lent}
use Rattle.ngt1_session.specs.declared.Answer.{Answer}
use Rattle.ngt1_session.specs.declared.PartAnswer.{PartAnswer}
use Rattle.ngt1_session.specs.Session.{numbers_in, told_on, told_part_on, answers, hears, hears_part}

-- the phase that the numbers tell
reads_law : (p a : ℕ) → p ≤ 7 → (p ≡ 3 → ⊥) → reads_f2 (state_of p a) ≡ false
reads_law zero a h z = refl
reads_law (suc zero) a h z = refl
reads_law (suc (suc zero)) a h z = refl
reads_law (suc (suc (suc zero))) a h z = absurd (z refl)
reads_law (suc (suc (suc (suc zero)))) a h z = refl
reads_law (suc (suc (suc (suc (suc zero))))) a h z = refl
reads_law (suc (suc (suc (suc (suc (suc zero)))))) a h z = refl
reads_law (suc (suc (suc (suc (suc (suc (suc zero))))))) a h z = refl
reads_law (suc (suc (suc (suc (suc (suc (suc (suc p)))))))) a h z = absurd (omega arith)

-- the phase that helm reads
pub phase_read : (n : List ℕ) → get_or n 0 0 ≤ 7 → (helm_machines.numbers_in n).phase ≡ get_or n 0 0
phase_read n h = sym (other 4294967295 (get_or n 0 0) (le-ltb 4294967295 (get_or n 0 0) (omega (arith, h))))

module _ (n : List ℕ) where
  pub reads_yes : get_or n 0 0 ≡ 3 → reads_f2 (numbers_in n).state ≡ true
  reads_yes e = ap (λ (p : ℕ). reads_f2 (state_of p (get_or n 1 0 % 4294967296))) e

  pub reads_no : get_or n 0 0 ≤ 7 → (get_or n 0 0 ≡ 3 → ⊥) → reads_f2 (numbers_in n).state ≡ false
  reads_no h z = reads_law (get_or n 0 0) (get_or n 1 0 % 4294967296) h z

  module _ (a : Arrays) (t : ℕ) (m out : List ℕ) where
    abbrev not_here : Told
    not_here = record { number = 100; count = 0; sync = sync_of (numbers_in n) a; out = out }

    abbrev taken : Told
    taken = called (sync_of (numbers_in n) a) (message t m (length out)) out

    by_phase : get_or n 0 0 ≤ 7 → (go : Sync → Told) → go (sync_of (numbers_in n) a) ≡ answers n a out go
    unfolding answers
    by_phase h go = other _ _ (le-ltb 7 (get_or n 0 0) h)

    pub hears_100 : get_or n 0 0 ≡ 3 → not_here ≡ hears n a t m out
    hears_100 e = chosen _ _ (reads_yes e) ∙ by_phase (omega arith) _

    pub hears_called : get_or n 0 0 ≤ 7 → (get_or n 0 0 ≡ 3 → ⊥) → taken ≡ hears n a t m out
    hears_called h z = other _ _ (reads_no h z) ∙ by_phase h _

    pub hears_part_100 : get_or n 0 0 ≤ 7 → (get_or n 0 0 ≡ 3 → ⊥) → not_here ≡ hears_part n a t m out
    hears_part_100 h z = other _ _ (reads_no h z) ∙ by_phase h _

    pub hears_part_called : get_or n 0 0 ≡ 3 → taken ≡ hears_part n a t m out
    hears_part_called e = chosen _ _ (reads_yes e) ∙ by_phase (omega arith) _

-- what stands behind the references of a lent session after it is what their lenders find
module _ (a : Stored) (n : List ℕ) {out : List ℕ} {e : Told} where
  pub ends_told : {w o u l k s p q : List ℕ} {r : Answer} (f : F2List)
      → w ≡ a.wanted → o ≡ a.owed → u ≡ a.fresh → l ≡ a.list → k ≡ a.known → s ≡ a.saved → p ≡ a.present → q ≡ a.refused
      → told_on r n (parted (arrays_in a) f) out ≡ e
      → told_on r n (lent w o u l k s p q f) out ≡ e
  ends_told {r = r} f b c d g h i j v x = (λ y. told_on r n (lent (b y) (c y) (d y) (g y) (h y) (i y) (j y) (v y) f) out) ∙ x

  pub ends_parted : {w o k p q : List ℕ} (r : PartAnswer) (u l v : List ℕ)
      → w ≡ a.wanted → o ≡ a.owed → k ≡ a.known → p ≡ a.present → q ≡ a.refused
      → told_part_on r n (beside (arrays_in a) u l v) out ≡ e
      → told_part_on r n (lent w o u l k v p q) out ≡ e
  ends_parted r u l v b c d g h x = (λ y. told_part_on r n (lent (b y) (c y) u l (d y) v (g y) (h y)) out) ∙ x

-- what is known of a refusal
pub at_err : {P : Type 0} {x : Result ℕ Refusal} {r : Refusal} → x ≡ Err r → OnErr x P → P
at_err {P} i k = subst (λ (y : Result ℕ Refusal). OnErr y P) i k

is_ok : Result ℕ Refusal → Bool
is_ok (Ok c) = true
is_ok (Err e) = false

-- a message over arrays b, by what stands in a lent session after it
module _ (n : List ℕ) (b : Arrays) (t : ℕ) (m out : List ℕ) (a : Stored) (out' : List ℕ) where
  -- the numbers after it
  abbrev z : HelmNumbers
  z = a.numbers

  -- the lent session before it
  abbrev lent_before : Stored
  lent_before = stored_in (helm_machines.numbers_in n) b

  -- what it answers and leaves
  abbrev Heard : Result ℕ Refusal → Type 0
  Heard r = helm.told r (a) out' ≡ helm.called helm_limits lent_before (message t m (length out)) out

  abbrev call : Arrays → Told
  call c = called (sync_of (numbers_in n) c) (message t m (length out)) out

  module _ (h : get_or n 0 0 ≤ 7) (fits : Fits b) where
    past : call b ≡ told_by (λ v. called v (message t m (length out)) out) out (stored_in (uncut n) b)
    past = other _ _ (le-ltb 7 (get_or n 0 0) h)

    ran : {c : ℕ} → Heard (Ok c) → ◌≡◌ {A = Told} (record { number = 0; count = c; sync = sync_of (as_lent z) (arrays_in a); out = out' }) (call b)
    unfolding is_ok
    ran {c} e = message_lent n b fits t m out out' (Ok c) z (arrays_in a) e (λ k i. false_true (sym (ap is_ok i))) ∙ sym past

    refused : (r : Refusal) → Heard (Err r) → a ≡ lent_before
        → ◌≡◌ {A = Told} (record { number = refusal_number r; count = 0; sync = sync_of (numbers_in n) (arrays_in a); out = out' }) (call b)
    refused r e k = message_lent n b fits t m out out' (Err r) z (arrays_in a) e (λ _ i. (ap (λ (s : Stored). s.numbers) k, ap arrays_in k)) ∙ sym past

    -- `ngt1_session_message`
    module _ (y : get_or n 0 0 ≡ 3 → ⊥) where
      -- it was taken, and these numbers are stored
      pub took : {c : ℕ} {x : Result ℕ Refusal} (n' : List ℕ) → x ≡ Ok c → Heard x → numbers_in n' ≡ with_blank (as_lent z) (is_set (get_or n 16 0))
          → (f : F2List) → Fits (parted b f)
          → told_on (record { number = 0; count = c }) n' (parted (arrays_in a) f) out' ≡ hears n (parted b f) t m out
      took {c} n' i e stored f g =
          ap {B = Told} (λ (v : Numbers). record { number = 0; count = c; sync = sync_of v (parted (arrays_in a) f); out = out' }) stored
          ∙ told_anyway (numbers_in n) b (as_lent z) (arrays_in a) t m (length out) out out' (reads_no n h y) (ran (subst Heard i e)) f g
          ∙ hears_called n (parted b f) t m out h y

      -- it was refused
      pub turned_down : {x : Result ℕ Refusal} (r : Refusal) → x ≡ Err r → Heard x → a ≡ lent_before
          → (f : F2List) → Fits (parted b f)
          → told_on (record { number = refusal_number r; count = 0 }) n (parted (arrays_in a) f) out' ≡ hears n (parted b f) t m out
      turned_down r i e k f g =
          told_anyway (numbers_in n) b (numbers_in n) (arrays_in a) t m (length out) out out' (reads_no n h y) (refused r (subst Heard i e) k) f g
          ∙ hears_called n (parted b f) t m out h y

  -- it is for the other function
  pub unheard : get_or n 0 0 ≡ 3 → a ≡ lent_before → out' ≡ out
      → (f : F2List) → told_on (record { number = 100; count = 0 }) n (parted (arrays_in a) f) out' ≡ hears n (parted b f) t m out
  unheard h k o f = (λ i. told_on (record { number = 100; count = 0 }) n (parted (arrays_in (k i)) f) (o i)) ∙ hears_100 n (parted b f) t m out h

  -- `ngt1_session_part`
  module _ (h : get_or n 0 0 ≡ 3) (fits : Fits b) where
    low : get_or n 0 0 ≤ 7
    low = omega (arith, h)

    -- what it is to tell, and hand back
    abbrev Tells : PartAnswer → List ℕ → Type 0
    Tells r n' = (fresh list saved : List ℕ) → Fits (beside b fresh list saved b.f2) → told_part_on r n' (beside (arrays_in a) fresh list saved) out' ≡ hears_part n (beside b fresh list saved b.f2) t m out

    abbrev Hands : F2List → List ℕ → Type 0
    Hands f n' = hand (numbers_in n') f ≡ handed (numbers_in n) b.f2 m

    module _ {c : ℕ} (e : Heard (Ok c)) where
      told_all : (fresh list saved : List ℕ) → Fits (beside b fresh list saved b.f2)
          → ◌≡◌ {A = Told} (record { number = 0; count = c; sync = sync_of (as_lent z) (beside (arrays_in a) fresh list saved (arrays_in a).f2); out = out' }) (hears_part n (beside b fresh list saved b.f2) t m out)
      told_all fresh list saved g =
          told_beside (numbers_in n) b fresh list saved (as_lent z) (arrays_in a) t m (length out) out out' (reads_yes n h) fits (ran low fits e) g
          ∙ hears_part_called n (beside b fresh list saved b.f2) t m out h

      module _ (n' : List ℕ) (f : F2List) where
        -- a part is kept, and these parts are in hand
        module _ (i : numbers_in n' ≡ with_blank (as_lent z) false) (j : f ≡ parts_of (as_lent z).totals (arrays_in a).f2) where
          pub part_kept : Tells (record { number = 0; count = c; parts = f }) n'
          part_kept fresh list saved g =
              ◌∙◌ {A = Told} (λ d. record { number = 0; count = c; sync = sync_of (i d) (beside (arrays_in a) fresh list saved (j d)); out = out' }) (told_all fresh list saved g)

          pub kept_hand : keeps (f2_of m) (as_lent z).state ≡ true → Hands f n'
          kept_hand y =
              (λ d. hand (i d) (j d))
              ∙ hands_kept (numbers_in n) (as_lent z) b (arrays_in a) t m (length out) out out' c (reads_yes n h) fits (ran low fits e) y

      -- the parts go back
      module _ (n' : List ℕ) (i : numbers_in n' ≡ with_blank (as_lent z) (is_set (get_or n 16 0))) (y : keeps (f2_of m) (as_lent z).state ≡ false) where
        pub part_back : Tells (record { number = 0; count = c; parts = b.f2 }) n'
        part_back fresh list saved g =
            let same = held_back (numbers_in n) (as_lent z) b (arrays_in a) t m (length out) out out' c (reads_yes n h) fits (ran low fits e) y in
            ap {B = Told} (λ (v : Numbers). record { number = 0; count = c; sync = sync_of v (beside (arrays_in a) fresh list saved b.f2); out = out' }) i
            ∙ ap {B = Told} (λ (v : Sync). record { number = 0; count = c; sync = over v fresh list saved; out = out' }) same
            ∙ told_all fresh list saved g

        pub back_hand : Hands b.f2 n'
        back_hand =
            ap (λ (v : Numbers). hand v b.f2) i
            ∙ hands_back (numbers_in n) (as_lent z) b (arrays_in a) t m (length out) out out' c (reads_yes n h) fits (ran low fits e) y

    -- it was refused
    pub part_refused : (r : Refusal) → Heard (Err r) → a ≡ lent_before → Tells (record { number = refusal_number r; count = 0; parts = b.f2 }) n
    part_refused r e k fresh list saved g =
        ap {B = Told} (λ (f : F2List). record { number = refusal_number r; count = 0; sync = sync_of (numbers_in n) (beside (arrays_in a) fresh list saved f); out = out' }) (sym (ap (λ (s : Stored). s.parts) k))
        ∙ told_beside (numbers_in n) b fresh list saved (numbers_in n) (arrays_in a) t m (length out) out out' (reads_yes n h) fits (refused low fits r e k) g
        ∙ hears_part_called n (beside b fresh list saved b.f2) t m out h

-- the numbers that are stored: those of the lent session after it, y, but for the flag of its numbers before it, x
pub stored_as : (n : List ℕ) (x y z : HelmNumbers) {l : Numbers} → x ≡ helm_machines.numbers_in n → y ≡ z → l ≡ as_lent (record y { blank = x.blank }) → l ≡ with_blank (as_lent z) (is_set (get_or n 16 0))
stored_as n x y z a b e = e ∙ (λ i. with_blank (as_lent (b i)) (is_set (a i).blank)) ∙ ap (with_blank (as_lent z)) (set_half (get_or n 16 0))

-- blank arrays in the place of fresh, list and saved
abbrev pub blank : List ℕ → List ℕ → List ℕ → List ℕ → List ℕ → F2List → Arrays
blank w o k p q f = lent w o (replicate 64 0) (replicate 1024 0) k (replicate 256 0) p q f

pub blank_fits : {w o k p q : List ℕ} (f : F2List) → length w ≡ 64 → length o ≡ 64 → length k ≡ 1344 → length p ≡ 256 → length q ≡ 256 → Fits (blank w o k p q f)
blank_fits f a b c d e =
    record {
      wanted_64 = a;
      owed_64 = b;
      fresh_64 = refl;
      list_1024 = refl;
      known_1344 = c;
      saved_256 = refl;
      present_256 = d;
      refused_256 = e;
    }

-- the numbers that are stored where a part is kept, and whether it is
pub stored_held : (x y : HelmNumbers) {l : Numbers} → x ≡ y → l ≡ as_lent (record x { blank = 0 }) → l ≡ with_blank (as_lent y) false
stored_held x y a e = e ∙ ap (λ (b : HelmNumbers). with_blank (as_lent b) false) a

pub keeps_same : (x y : HelmNumbers) (m : List ℕ) {r b : Bool} → x ≡ y → r ≡ keeps (f2_of m) (as_lent x).state → r ≡ b → keeps (f2_of m) (as_lent y).state ≡ b
keeps_same x y m a e g = sym (e ∙ ap (λ (b : HelmNumbers). keeps (f2_of m) (as_lent b).state) a) ∙ g

-- lengths do not speak of the parts
pub fits_parted : (b : Arrays) (f : F2List) → Fits (parted b f) → Fits b
fits_parted b f z = fits_any (numbers_in []) b f b.f2 z

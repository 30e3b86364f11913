-- A word's first dot and the words of a text in std's words, as iterators answer them. Assumes nothing.
use Rattle.std.proofs.Common.{ℕ, ◌+◌, ◌<◌, ◌≤◌, ◌≡◌, refl, Bool, true, false, not, cond, List, [], ◌∷◌, ◌++◌, length, eqb, ltb, arith, sym, ap, ap₂, ◌∙◌, append_assoc}
use Rattle.std.proofs.lemmas.List.{append-nil}
use Rattle.firmware.specs.ScanLaws.{or_none, or_assoc}
use Rattle.std.specs.Prelude.{Option as Returned, Some, None, MatchOption}
use Rattle.std.proofs.Math.Option.{Option, none, some}
use Rattle.std.specs.Option.{option_or}
use Rattle.std.specs.List.{position, position_or_len, slice_split, onto_first, fold}
use borrow.Author.Tests.{ltb-false}
use Rattle.std.proofs.lemmas.Bool.{ltb-true}
use Rattle.field.specs.Pick.{pick}
use Rattle.firmware.specs.Version.{in_word, words_from, before_dot, word_value, or_else, last_of, firmware_of, told_firmware}
use Rattle.firmware.specs.VersionLaws.{firmware_told, firmware_told_law}

-- whether b is a dot
abbrev pub is_dot : ℕ → Bool
is_dot b = eqb b 46

dot_step : (t : Bool) (b m : ℕ) (l : List ℕ) → m ≡ length l → cond (not t) (1 + m) 0 ≡ length (pick t [] (b ∷ l))
dot_step true b m l e = refl
dot_step false b m l e = omega arith

dot_first : (w : List ℕ) → position_or_len is_dot w ≡ length (before_dot w)
unfolding before_dot
dot_first [] = refl
dot_first (b ∷ bs) = dot_step (is_dot b) b (position_or_len is_dot bs) (before_dot bs) (dot_first bs)

pub dot_found : (w : List ℕ) (r : Returned ℕ) → r ≡ position is_dot w → MatchOption r (length w ≤ length (before_dot w)) (λ d. (d ≡ length (before_dot w)) × (d < length w))
dot_found w r e = rw e (go (ltb (position_or_len is_dot w) (length w)) refl)
  where
    go : (t : Bool) → ltb (position_or_len is_dot w) (length w) ≡ t
        → MatchOption (cond t (Some (position_or_len is_dot w)) None) (length w ≤ length (before_dot w)) (λ d. (d ≡ length (before_dot w)) × (d < length w))
    go true h = (dot_first w, ltb-true (position_or_len is_dot w) (length w) h)
    go false h = omega (arith, ltb-false (position_or_len is_dot w) (length w) h, dot_first w)

-- whether b ends a word
abbrev pub ends_word : ℕ → Bool
ends_word b = not (in_word b)

-- the words that begin with p
abbrev begun_with : List ℕ → List (List ℕ) → List (List ℕ)
begun_with p [] = p ∷ []
begun_with p (w ∷ ws) = (p ++ w) ∷ ws

word_more : (p : List ℕ) (b : ℕ) (ws : List (List ℕ)) → begun_with (p ++ (b ∷ [])) ws ≡ begun_with p (onto_first b ws)
word_more p b [] = refl
word_more p b (w ∷ ws) = ap (λ (x : List ℕ). x ∷ ws) (append_assoc p (b ∷ []) w)

-- with no byte begun the words are as they were split, since there is one at least
none_begun_on : (t : Bool) (b : ℕ) (ws : List (List ℕ)) → begun_with [] (cond t ([] ∷ ws) (onto_first b ws)) ≡ cond t ([] ∷ ws) (onto_first b ws)
none_begun_on true b ws = refl
none_begun_on false b [] = refl
none_begun_on false b (w ∷ ws) = refl

none_begun : (l : List ℕ) → begun_with [] (slice_split ends_word l) ≡ slice_split ends_word l
none_begun [] = refl
none_begun (b ∷ bs) = none_begun_on (ends_word b) b (slice_split ends_word bs)

word_step : (t : Bool) (p : List ℕ) (b : ℕ) (more other ws : List (List ℕ)) → more ≡ begun_with (p ++ (b ∷ [])) ws → other ≡ ws
    → pick t more (p ∷ other) ≡ begun_with p (cond (not t) ([] ∷ ws) (onto_first b ws))
word_step true p b more other ws e h = e ∙ word_more p b ws
word_step false p b more other ws e h = ap₂ (λ (x : List ℕ) (y : List (List ℕ)). x ∷ y) (sym (append-nil p)) h

words_split : (p l : List ℕ) → words_from p l ≡ begun_with p (slice_split ends_word l)
unfolding words_from
words_split p [] = ap (λ (x : List ℕ). x ∷ []) (sym (append-nil p))
words_split p (b ∷ bs) = word_step (in_word b) p b _ _ (slice_split ends_word bs) (words_split (p ++ (b ∷ [])) bs) (words_split [] bs ∙ none_begun bs)

-- what is kept of the words so far and the next one
abbrev pub kept : Returned ℕ → List ℕ → Returned ℕ
kept found w = option_or (firmware_told (word_value w)) found

pub kept_is : (found r b : Returned ℕ) (w : List ℕ) → told_firmware r ≡ word_value w → b ≡ option_or r found → b ≡ kept found w
kept_is found r b w e h = h ∙ ap (λ (x : Returned ℕ). option_or x found) (sym (firmware_told_law r) ∙ ap firmware_told e)

kept_one : (v : Option ℕ) (found : Returned ℕ) → told_firmware (option_or (firmware_told v) found) ≡ or_else v (told_firmware found)
kept_one (some v) found = refl
kept_one none found = refl

kept_all : (found : Returned ℕ) (ws : List (List ℕ)) → told_firmware (fold kept found ws) ≡ or_else (last_of ws) (told_firmware found)
unfolding last_of
kept_all found [] = refl
kept_all found (w ∷ ws) =
    kept_all (kept found w) ws ∙ ap (or_else (last_of ws)) (kept_one (word_value w) found) ∙ sym (or_assoc (last_of ws) (word_value w) (told_firmware found))

pub last_kept : (text : List ℕ) → told_firmware (fold kept None (slice_split ends_word text)) ≡ firmware_of text
unfolding firmware_of
last_kept text = kept_all None (slice_split ends_word text) ∙ or_none _ ∙ ap last_of (sym (words_split [] text ∙ none_begun text))

-- What a turn of the loop of `feed` goes by: a run of plain bytes, and then one byte that is looked at. Assumes nothing.
use Rattle.std.specs.Prelude.{◌≡◌, ℕ, ◌+◌, ◌-◌, ◌<◌, ◌≤◌, true, false, List, length, take, drop, slice_index, Option, None, Some, Ok, refl}
use Rattle.std.specs.Option.{is_some}
use Rattle.std.proofs.Common.{arith, ap, sym, ◌∙◌, take_all, length-drop}
use Rattle.framing.specs.declared.decode.Phase.{Phase}
use Rattle.framing.specs.declared.decode.Phase.TheVariants.{Idle, InFrame}
use Rattle.framing.specs.declared.decode.Decoder.{Decoder}
use Rattle.framing.specs.declared.decode.Event.{Event}
use Rattle.framing.specs.declared.decode.Event.TheVariants.{Message, Broken}
use Rattle.framing.specs.Unstuff.{State, state}
use Rattle.framing.specs.Decode.{quiet, step, told_pushed}
use Rattle.std.proofs.lemmas.List.{drop-drop}
use Rattle.framing.specs.Feed.{Feed, told_fed, fed, shift}
use Rattle.framing.specs.From.{from, Skips, Collects, Runs}
use Rattle.framing.specs.FromLaws.{from_on, from_stop, from_start, from_end}

-- the state with the phase that it has
phased : (p q : Phase) (n : ℕ) (buf : List ℕ) (i : ℕ) (bytes : List ℕ) → p ≡ q → from (state p n buf) i bytes ≡ from (state q n buf) i bytes
phased p q n buf i bytes e = ap (λ (x : Phase). from (state x n buf) i bytes) e

module _ (d : Decoder) (buf bytes : List ℕ) (i : ℕ) where
  pub runs_idle : (j : ℕ) → Skips bytes i j → d.phase ≡ Idle → d.count ≤ 1024 → 1024 ≤ length buf → Runs d buf bytes i d buf j
  runs_idle j s e small room =
      record {
        on = s.on;
        inside = s.inside;
        small = small;
        same = phased d.phase Idle d.count buf i bytes e ∙ s.same d.count buf small room ∙ sym (phased d.phase Idle d.count buf j bytes e);
      }

  pub runs_frame : (d' : Decoder) (buf' : List ℕ) (j : ℕ) → Collects d.count buf bytes i buf' d'.count j → d'.phase ≡ d.phase → d.phase ≡ InFrame → Runs d buf bytes i d' buf' j
  runs_frame d' buf' j s e f =
      record {
        on = s.on;
        inside = s.inside;
        small = s.small;
        same = phased d.phase InFrame d.count buf i bytes f ∙ s.same ∙ sym (phased d'.phase InFrame d'.count buf' j bytes (e ∙ f));
      }

  pub runs_none : d.count ≤ 1024 → i ≤ length bytes → Runs d buf bytes i d buf i
  runs_none small inside = record { on = omega arith; inside = inside; small = small; same = refl }

-- from a place on, in what is left from another place on
pub from_more : (s : State) (bytes : List ℕ) (i j : ℕ) → from s (i + j) bytes ≡ shift i (from s j (drop i bytes))
unfolding from
from_more s bytes i j =
    let f = fed s (drop (i + j) bytes) in
    let g = fed s (drop j (drop i bytes)) in
    let e : i + j + f.used ≡ i + (j + f.used) = omega arith in
    ap {B = Feed} (λ (k : ℕ). record { next = f.next; used = k; outcome = f.outcome }) e
    ∙ ap (λ (l : List ℕ). shift i (shift j (fed s l))) (sym (drop-drop j i bytes))

-- a run over what is left from a place on, a slice of the bytes
module _ (d : Decoder) (buf bytes : List ℕ) (i : ℕ) (d' : Decoder) (buf' : List ℕ) (j : ℕ) (r : Runs d buf (take (length bytes - i) (drop i bytes)) 0 d' buf' j) where
  left : take (length bytes - i) (drop i bytes) ≡ drop i bytes
  left = take_all (length bytes - i) (drop i bytes) (omega (arith, length-drop i bytes))

  pub runs_inside : i ≤ length bytes → i + j ≤ length bytes
  runs_inside h = omega (arith, r.inside, ap length left, length-drop i bytes)

  pub runs_on : from (state d.phase d.count buf) i bytes ≡ from (state d'.phase d'.count buf') (i + j) bytes
  runs_on =
      let s = state d.phase d.count buf in
      let t = state d'.phase d'.count buf' in
      let z : i ≡ i + 0 = omega arith in
      ap (λ (k : ℕ). from s k bytes) z
      ∙ from_more s bytes i 0
      ∙ ap (λ (l : List ℕ). shift i (from s 0 l)) (sym left)
      ∙ ap (shift i) r.same
      ∙ ap (λ (l : List ℕ). shift i (from t j l)) left
      ∙ sym (from_more t bytes i j)

-- one byte that is not refused
module _ (d d' : Decoder) (buf buf' bytes : List ℕ) (i : ℕ) (h : i < length bytes) where
  pub took_event : (e : Option Event) → told_pushed d' (Ok e) buf' ≡ step (state d.phase d.count buf) (slice_index bytes i) → is_some e ≡ true
      → from (state d.phase d.count buf) i bytes ≡ told_fed d' (Ok (record { used = i + 1; event = e })) buf'
  took_event None p q = let z : ◌≡◌ {A = ℕ} 0 1 = cc in absurd (omega arith)
  took_event (Some (Message c n)) p q = from_stop _ bytes i (told_pushed d' (Ok (Some (Message c n))) buf') h (sym p) refl
  took_event (Some (Broken e)) p q = from_stop _ bytes i (told_pushed d' (Ok (Some (Broken e))) buf') h (sym p) refl

  pub took_none : (e : Option Event) → told_pushed d' (Ok e) buf' ≡ step (state d.phase d.count buf) (slice_index bytes i) → is_some e ≡ false
      → from (state d.phase d.count buf) i bytes ≡ from (state d'.phase d'.count buf') (i + 1) bytes
  took_none None p q = from_on _ bytes i (told_pushed d' (Ok None) buf') h (sym p) refl
  took_none (Some e) p q = let z : ◌≡◌ {A = ℕ} 0 1 = cc in absurd (omega arith)

-- no byte
pub fed_none : (s : State) (bytes : List ℕ) → length bytes ≡ 0 → fed s bytes ≡ record { next = s; used = 0; outcome = quiet }
fed_none s bytes h = from_start s bytes ∙ from_end s bytes 0 (omega arith)

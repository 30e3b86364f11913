-- Laws of maps, read to their end: the next byte of a map. Assumes nothing.
use Rattle.std.specs.Prelude.{ℕ, ◌+◌, ◌<◌, ◌≤◌, ◌≡◌, List, ◌++◌, length, get_or, take, drop}
use Rattle.std.proofs.Common.{add-one, ap, sym, ◌∙◌, drop-cons, take_all, ◌∷◌}
use Rattle.std.specs.Int.Count.{ones}
use lib.Seq.{sets}
use Rattle.field.specs.Fields.{Bytes}
use Rattle.lists.specs.declared.List512.{List512}
use Rattle.lists.specs.Format2.{list_of}
use Rattle.lists.specs.Format2Laws.{ones_256, both_listed}
use Rattle.lists.specs.Maps.{ones_of, bits_from, map_pgns}

rest_next : (s : List ℕ) (b : ℕ) → b < length s → drop b s ≡ get_or s b 0 ∷ drop (b + 1) s
rest_next s b h = drop-cons s b 0 h ∙ ap (λ (k : ℕ). get_or s b 0 ∷ drop k s) (sym (add-one b))

pub ones_rest : (s : List ℕ) (b : ℕ) → b < length s → ones_of (drop b s) ≡ ones (get_or s b 0) + ones_of (drop (b + 1) s)
unfolding ones_of
ones_rest s b h = ap ones_of (rest_next s b h)

pub pgns_rest : (p : ℕ) (s : List ℕ) (b : ℕ) → b < length s → map_pgns p (drop b s) ≡ bits_from 8 p (get_or s b 0) ++ map_pgns (p + 8) (drop (b + 1) s)
unfolding map_pgns
pgns_rest p s b h = ap (map_pgns p) (rest_next s b h)

-- Maps of at most 32 bytes

pub ones_32 : (s : List ℕ) → length s ≤ 32 → Bytes s → ones_of s ≤ 256
ones_32 s h b = rw (take_all 32 s h) at (ones_256 s b)

pub both_filled : (l : List512) (first second mid last : List ℕ) (m n : ℕ) → length first ≤ 32 → length second ≤ 32 → Bytes first → Bytes second
    → m ≡ ones_of first → n ≡ ones_of second → mid ≡ sets l.pgns 0 (map_pgns 0xFF00 first) → last ≡ sets mid m (map_pgns 0x1FF00 second)
    → record { pgns = last; n = m + n } ≡ list_of l (map_pgns 0xFF00 first ++ map_pgns 0x1FF00 second)
both_filled l first second mid last m n h g b c e f p q =
    let x : take 32 first ≡ first = take_all 32 first h in
    let y : take 32 second ≡ second = take_all 32 second g in
    rw (x, y) at (both_listed l first second mid last m n b c (rw x e) (rw y f) (rw x p) (rw y q))

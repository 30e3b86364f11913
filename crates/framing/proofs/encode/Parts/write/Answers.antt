-- `framing::encode::Parts::write` meets its contract: each part goes on where the one before it ended. Assumes nothing.
use Rattle.std.proofs.Common.{◌≡◌, ℕ, ◌+◌, ◌-◌, ◌%◌, ◌<◌, ◌≤◌, List, [], ◌∷◌, ◌++◌, length, sym, ap, ◌∙◌, append_assoc, arith, length-append, length-set, refl}
use Rattle.field.specs.Puts.{puts_then, puts_two, puts_same, puts_both}
use Rattle.framing.specs.Frame.{stuffed, stuff, sum, wire, checked, checksum, covered}
use Rattle.framing.specs.FrameLaws.{checksum_summed}
use Rattle.framing.proofs.FrameProofs.{wire_length, stuff_append}
use Rattle.framing.proofs.encode.Parts.write.Goals as goal

module _ (cmd len : ℕ) (head rest : List ℕ) where
  abbrev check : ℕ
  check = checksum (covered cmd (head ++ rest))

  -- the parts of a frame that has room
  room : (n : ℕ) → length (checked cmd len (head ++ rest)) ≤ n
      → 4 + length (stuffed cmd) + length (stuffed len) + length (stuff head) + length (stuff rest) + length (stuffed check) ≤ n
  room n h =
      let e : length (stuff (head ++ rest)) ≡ length (stuff head) + length (stuff rest) = rw (stuff_append, length-append) in
      omega (arith, wire_length cmd len (head ++ rest) check)

  -- the byte that closes the sum is the checksum
  closed : {a b : ℕ} → len ≡ length (head ++ rest) → a ≡ ((cmd + len) % 256 + sum head) % 256 → b ≡ (a + sum rest) % 256 → (256 - b) % 256 ≡ check
  closed {a} {b} e p q =
      let k : ((256 - b) % 256 + b) % 256 ≡ 0 = omega (arith, q) in
      let f : (256 - b) % 256 < 256 = omega arith in
      let w : (cmd + len) % 256 ≡ (cmd + length (head ++ rest)) % 256 = rw e refl in
      checksum_summed cmd head rest w p q k f

  -- both parts of the payload are the payload's bytes
  joined : (opened : List ℕ) → (opened ++ stuff head) ++ stuff rest ≡ opened ++ stuff (head ++ rest)
  joined opened = append_assoc opened (stuff head) (stuff rest) ∙ ap (◌++◌ opened) (sym (stuff_append head rest))

pub bounds-out-0 : goal.bounds-out-0
bounds-out-0 c = omega (arith, room c.args.self.now.cmd c.args.self.now.len c.args.self.now.head.now c.args.self.now.rest.now _ c.requires)

pub bounds-out-1 : goal.bounds-out-1
bounds-out-1 c = simp length-set (omega (arith, room c.args.self.now.cmd c.args.self.now.len c.args.self.now.head.now c.args.self.now.rest.now _ c.requires))

pub write_stuffed-at-requires : goal.write_stuffed-at-requires
write_stuffed-at-requires c = simp length-set (omega (arith, room c.args.self.now.cmd c.args.self.now.len c.args.self.now.head.now c.args.self.now.rest.now _ c.requires))

pub write_stuffed-at-requires-2 : goal.write_stuffed-at-requires-2
write_stuffed-at-requires-2 c = omega (arith, room c.args.self.now.cmd c.args.self.now.len c.args.self.now.head.now c.args.self.now.rest.now _ c.requires, length-set {A = ℕ})

pub write_all_stuffed-first-requires : goal.write_all_stuffed-first-requires
write_all_stuffed-first-requires c = omega (arith, room c.args.self.now.cmd c.args.self.now.len c.args.self.now.head.now c.args.self.now.rest.now _ c.requires, length-set {A = ℕ})

pub write_all_stuffed-second-requires : goal.write_all_stuffed-second-requires
write_all_stuffed-second-requires c = omega (arith, room c.args.self.now.cmd c.args.self.now.len c.args.self.now.head.now c.args.self.now.rest.now _ c.requires, length-set {A = ℕ})

pub write_end-requires : goal.write_end-requires
write_end-requires c =
    let e = closed c.args.self.now.cmd c.args.self.now.len c.args.self.now.head.now c.args.self.now.rest.now c.args.self.now.len_value c.write_all_stuffed-first.ensures.added c.write_all_stuffed-second.ensures.added in
    omega (arith, room c.args.self.now.cmd c.args.self.now.len c.args.self.now.head.now c.args.self.now.rest.now _ c.requires, ap (λ (b : ℕ). length (stuffed b)) e, length-set {A = ℕ})

pub returns : goal.returns
unfolding wire
returns c =
    let e = closed c.args.self.now.cmd c.args.self.now.len c.args.self.now.head.now c.args.self.now.rest.now c.args.self.now.len_value c.write_all_stuffed-first.ensures.added c.write_all_stuffed-second.ensures.added in
    let p₁ = puts_then (puts_two _ 0 0x10 0x02) c.write_stuffed-at.ensures in
    let p₂ = puts_then p₁ c.write_stuffed-at-2.ensures in
    let p₃ = puts_then p₂ c.write_all_stuffed-first.ensures.put in
    let p₄ =
    puts_same (joined c.args.self.now.cmd c.args.self.now.len c.args.self.now.head.now c.args.self.now.rest.now (((0x10 ∷ 0x02 ∷ []) ++ stuffed c.args.self.now.cmd) ++ stuffed c.args.self.now.len)) (puts_then p₃ c.write_all_stuffed-second.ensures.put) in
    puts_both (stuffed (check c.args.self.now.cmd c.args.self.now.len c.args.self.now.head.now c.args.self.now.rest.now)) (0x10 ∷ 0x03 ∷ []) p₄ (puts_same (ap (λ (b : ℕ). stuffed b ++ (0x10 ∷ 0x03 ∷ [])) e) c.write_end.ensures)

-- Laws of what a call writes: each command's frame fits 32 bytes, and an encoder with that room writes it whole. Assumes nothing.
use Rattle.std.specs.Prelude.{ℕ, ◌+◌, ◌%◌, ◌/◌, ◌≤◌, ◌≡◌, refl, Bool, true, false, List, [], ◌∷◌, ◌++◌, eqb}
use Rattle.std.proofs.Common.{arith, ◌∙◌, append-nil}
use Rattle.std.proofs.Math.Path.{ap}
use Rattle.std.proofs.Math.ListN.{length, length-append}
use Rattle.field.specs.Pick.{pick}
use Rattle.field.specs.Written.{written}
use Rattle.field.specs.Fields as fields
use Rattle.std.specs.Prelude.{Result, Ok}
use Rattle.framing.specs.declared.encode.Written.{Written}
use Rattle.framing.specs.declared.error.EncodeError.{EncodeError}
use Rattle.framing.specs.Frame.{stuffed, stuff, dles, sum, covered, checksum, body, framed, frame}
use Rattle.framing.proofs.FrameProofs.{frame_length}
use Rattle.framing.specs.FrameLaws.{body_length}
use Rattle.framing.specs.Encode.{told_encoded, count_of}
use Rattle.framing.specs.EncodeLaws.{answer_tells}
use Rattle.commands.specs.Command as commands
use Rattle.commands.specs.Command.{sent, read_f2}
use Rattle.commands.specs.CommandLaws.{sent_whole, pair_wrote, supported_length, enabled_length}
use Rattle.tx_list.specs.Reading.{Command, read1, read40, read4_f, enable, commit, activate}
use Rattle.tx_list.specs.Stored.{wire}
use Rattle.session.specs.Sync.{kind, store, payload_of, frame_of}

bit : (t : Bool) → pick t 1 0 ≤ 1
bit true = omega arith
bit false = omega arith

-- only the PGN's four bytes and the checksum can be doubled
enable_dles : (p : ℕ) → dles (body 0xA1 (commands.enable p)) ≤ 5
unfolding dles body covered fields.bytes_of
enable_dles p =
    omega (
      arith,
      bit (eqb (p % 256) 0x10),
      bit (eqb (p / 256 % 256) 0x10),
      bit (eqb (p / 256 / 256 % 256) 0x10),
      bit (eqb (p / 256 / 256 / 256 % 256) 0x10),
      bit (eqb (checksum (0xA1 ∷ 14 ∷ commands.enable p)) 0x10),
    )

enable_length : (p : ℕ) → length (commands.enable p) ≡ 14
unfolding fields.bytes_of
enable_length p = refl

pub enable_short : (p : ℕ) → length (frame 0xA1 (commands.enable p)) ≤ 32
enable_short p =
    omega (arith, frame_length 0xA1 (commands.enable p), body_length 0xA1 (commands.enable p), enable_length p, enable_dles p)

pub frame_short : (c : Command) → length (frame_of c) ≤ 32
unfolding frame_of frame framed stuff stuffed body covered checksum sum
frame_short read1 = omega arith
frame_short read40 = omega arith
frame_short read4_f = omega arith
frame_short (enable p) = enable_short p
frame_short commit = omega arith
frame_short activate = omega arith

module _ (out : List ℕ) (e : Result Written EncodeError) {last : List ℕ} {r : ℕ} (h : 32 ≤ length out) (n : r ≡ count_of e) where
  -- one command
  pub wrote_one : (c : Command) → told_encoded e last ≡ sent (payload_of c) out
      → (r ≡ length (wire kind store (c ∷ []))) × (last ≡ written (wire kind store (c ∷ [])) out)
  unfolding wire frame_of
  wrote_one c t =
      let p : length (frame 0xA1 (payload_of c)) ≤ 32 = frame_short c in
      let w = sent_whole (payload_of c) e out last (omega (arith, frame_length 0xA1 (payload_of c), body_length 0xA1 (payload_of c))) (omega arith) t in
      rw (append-nil (frame 0xA1 (payload_of c))) (n ∙ ap count_of w.0, w.1)

  -- both reads of Format 2
  pub wrote_pair : told_encoded e last ≡ read_f2 out
      → (r ≡ length (wire kind store (read40 ∷ read4_f ∷ []))) × (last ≡ written (wire kind store (read40 ∷ read4_f ∷ [])) out)
  unfolding wire frame_of
  wrote_pair t =
      let F = frame 0xA1 (0x40 ∷ []) in
      let G = frame 0xA1 (0x4F ∷ []) in
      let k : length (F ++ G) ≤ length out = simp length-append (omega (arith, supported_length, enabled_length)) in
      let w = answer_tells e (Ok (record { count = length (F ++ G); doubled = dles (body 0xA1 (0x40 ∷ [])) + dles (body 0xA1 (0x4F ∷ [])) })) last (written (F ++ G) out)
      (t ∙ pair_wrote (0x40 ∷ []) (0x4F ∷ []) out k) in
      rw (append-nil G) (n ∙ ap count_of w.0, w.1)

-- `commands::encode_ports` meets its contract. Assumes nothing.
use Rattle.std.proofs.Common.{ℕ, [], ◌∷◌, ◌++◌, length, ap, sym, ◌∙◌, refl}
use Rattle.framing.specs.Encode.{encoded}
use Rattle.framing.proofs.EncodeProofs.{within_whole}
use Rattle.commands.specs.Command.{set_pcodes}
use Rattle.commands.proofs.encode_ports.Goals as goal

pub returns : goal.returns
unfolding set_pcodes
returns c =
    c.encode_ngt_parts.ensures.exact
    ∙ ap (λ (n : ℕ). encoded 0xA1 ((0x13 ∷ n ∷ []) ++ c.args.ports.now) c.args.out.now) c.in-Ok.ensures.1
    ∙ sym (within_whole 253 0xA1 (0x13 ∷ length c.args.ports.now ∷ []) c.args.ports.now c.args.out.now refl)

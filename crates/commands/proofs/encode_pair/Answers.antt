-- `commands::encode_pair` meets its contract: with 16 bytes neither call is refused, and the second goes on where the first ended. Assumes nothing.
use Rattle.std.proofs.Common.{[], ◌∷◌, arith}
use Rattle.commands.specs.CommandLaws.{supported_length}
use Rattle.commands.proofs.ReadF2.{not_refused, first_says, second_room, both_written, both_small}
use Rattle.commands.proofs.encode_pair.Goals as goal

pub returns-in_err-first : goal.returns-in_err-first
returns-in_err-first c = absurd (not_refused (0x40 ∷ []) _ _ _ (omega arith) (omega (arith, supported_length)) c.in_err-first.ensures)

pub slice_bounds-encode_bem-count : goal.slice_bounds-encode_bem-count
slice_bounds-encode_bem-count c = let f = first_says _ _ _ _ (omega arith) c.in_ok-first.ensures in omega (arith, f.inside)

pub slice_bounds-encode_bem-start : goal.slice_bounds-encode_bem-start
slice_bounds-encode_bem-start c = let f = first_says _ _ _ _ (omega arith) c.in_ok-first.ensures in omega (arith, f.inside)

pub returns-in_err-second : goal.returns-in_err-second
returns-in_err-second c =
    let f = first_says _ _ _ _ (omega arith) c.in_ok-first.ensures in
    absurd (not_refused (0x4F ∷ []) _ _ _ (omega arith) (second_room _ _ _ _ f) c.in_err-second.ensures)

pub overflow_add-result : goal.overflow_add-result
overflow_add-result c =
    let f = first_says _ _ _ _ (omega arith) c.in_ok-first.ensures in
    omega (arith, (both_small _ _ _ _ _ _ _ f c.in_ok-second.ensures).0)

pub overflow_add-result-2 : goal.overflow_add-result-2
overflow_add-result-2 c =
    let f = first_says _ _ _ _ (omega arith) c.in_ok-first.ensures in
    omega (arith, (both_small _ _ _ _ _ _ _ f c.in_ok-second.ensures).1)

pub returns : goal.returns
returns c =
    let f = first_says _ _ _ _ (omega arith) c.in_ok-first.ensures in
    both_written _ _ _ _ _ _ _ (omega arith) f c.in_ok-second.ensures

-- `lists::List512::fill` meets its contract. Assumes nothing.
use Rattle.std.proofs.Common.{arith, rules, length, ◌≡◌}
use Rattle.lists.proofs.MapProofs.{ones_32, both_filled}
use Rattle.lists.proofs.List512.fill.Goals as goal
use Rattle.lists.proofs.List512.fill.Goals.{Start}

-- the 512 places
pgns-512 : (c : Start) → length c.args.self.now.pgns ≡ 512
pgns-512 c = search rules

pub overflow_add-self : goal.overflow_add-self
overflow_add-self c =
    omega (arith, c.map_count-middle.ensures, c.map_count.ensures, ones_32 c.args.first.now c.requires.first_32 (λ i q. (c.type_inv.first i).fits), ones_32 c.args.second.now c.requires.second_32 (λ i q. (c.type_inv.second i).fits))

pub map_pgns-requires-clause-map_in_bounds : goal.map_pgns-requires-clause-map_in_bounds
map_pgns-requires-clause-map_in_bounds c =
    omega (arith, pgns-512 (goal.at.map_pgns-requires-clause-map_in_bounds c).Start, ones_32 c.args.first.now c.requires.first_32 (λ i q. (c.type_inv.first i).fits))

pub map_pgns-requires-2-clause-map_in_bounds : goal.map_pgns-requires-2-clause-map_in_bounds
map_pgns-requires-2-clause-map_in_bounds c =
    omega (arith, pgns-512 (goal.at.map_pgns-requires-2-clause-map_in_bounds c).Start, c.map_pgns.auto.out, c.map_count-middle.ensures, ones_32 c.args.first.now c.requires.first_32 (λ i q. (c.type_inv.first i).fits), ones_32 c.args.second.now c.requires.second_32 (λ i q. (c.type_inv.second i).fits))

pub returns : goal.returns
returns c =
    both_filled c.args.self.now c.args.first.now c.args.second.now c.map_pgns.new.out c.map_pgns-2.new.out _ _ c.requires.first_32 c.requires.second_32 (λ i q. (c.type_inv.first i).fits) (λ i q. (c.type_inv.second i).fits)
    c.map_count-middle.ensures c.map_count.ensures c.map_pgns.ensures c.map_pgns-2.ensures

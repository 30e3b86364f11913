-- `lists::Proprietary::add` meets its contract. Assumes nothing.
use Rattle.std.proofs.Common.{ap₂, ◌++◌, ◌∙◌, List, ℕ}
use Rattle.lists.specs.Maps.{map_pgns}
use Rattle.lists.specs.Format2.{list_of}
use Rattle.lists.specs.Format2Laws.{maps_short, maps_added}
use Rattle.lists.proofs.Proprietary.add.Goals as goal

pub returns-then-reply-end : goal.returns-then-reply-end
returns-then-reply-end c =
    maps_short c.args.reply.now c.args.self.now (rw (c.map_end-end.ensures, c.map_end-middle.ensures) at c.if-reply-end.true)

pub returns : goal.returns
returns c =
    maps_added c.args.reply.now c.args.self.now c.map_end-middle.result c.map_end-end.result c.fill.new.self
    c.map_end-middle.ensures c.map_end-end.ensures c.if-reply-end.false
    (c.fill.ensures ∙ ap₂ (λ (x y : List ℕ). list_of c.args.self.now.list (map_pgns 0xFF00 x ++ map_pgns 0x1FF00 y)) c.meant-first.ensures.value c.meant-second.ensures.value)

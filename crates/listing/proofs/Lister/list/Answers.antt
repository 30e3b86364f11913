-- A call leaves the count of its decoder within bounds. Assumes nothing.
use Rattle.std.proofs.Common.{◌≡◌, ◌≤◌, arith, ap, length}
use Rattle.framing.specs.Feed.{Formed}
use Rattle.report.specs.Listing.{Turn, state_of}
use Rattle.report.specs.Filled.{filled}
use Rattle.report.specs.FilledLaws.{filled_formed}
use Rattle.listing.proofs.Lister.list.Goals as goal

pub invariant_of-self : goal.invariant_of-self
invariant_of-self g c =
    let l = c.loop-left.self in
    let r = c.list_lines in
    let s = state_of l.place l.buf in
    let out = l.lines in
    let f : Formed s = record { small = l.small; room = omega arith } in
    let wide : 128 ≤ length out = omega arith in
    let e = filled_formed l.place.n l.place.at s c.loop-left.left.now out f wide in
    let k : r.new.self.decoder.count ≡ (filled l.place.n l.place.at s c.loop-left.left.now out).next.count = ap (λ (t : Turn). t.next.count) r.ensures.exact in
    omega (arith, k, e.small)

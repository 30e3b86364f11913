-- What a turn moves and keeps is `filling`, at each goal of a turn.
use Rattle.std.proofs.Common.{◌∙◌, arith}
use Rattle.report.specs.FilledLaws.{filling, filling_end, filling_full}
use Rattle.report.proofs.listing.Place.list_events.Goals as goal

pub returns-then-out-len-lt-LINE_ROOM : goal.returns-then-out-len-lt-LINE_ROOM
returns-then-out-len-lt-LINE_ROOM c =
    let v = c.loop-used.invariant in
    filling_full _ _ _ _ _ _ _ _ _ _ v.fits v.kept v.same v.long (omega arith)

pub overflow_add-used : goal.overflow_add-used
overflow_add-used c =
    let l = c.loop-used in
    let v = l.invariant in
    let r = c.list_event-listed in
    let f = filling _ _ _ c.args.bytes.now c.args.out.now l.out l.used l.len r.new.self r.result _ _ v.formed c.loop-used-test.true v.fits (omega arith) v.long v.kept r.ensures in
    omega (arith, f.inside, c.well_formed)

pub overflow_add-len : goal.overflow_add-len
overflow_add-len c =
    let l = c.loop-used in
    let v = l.invariant in
    let r = c.list_event-listed in
    let f = filling _ _ _ c.args.bytes.now c.args.out.now l.out l.used l.len r.new.self r.result _ _ v.formed c.loop-used-test.true v.fits (omega arith) v.long v.kept r.ensures in
    omega (arith, f.fits, f.long, c.well_formed)

pub loop-used-smaller : goal.loop-used-smaller
loop-used-smaller c =
    let l = c.loop-used in
    let v = l.invariant in
    let r = c.list_event-listed in
    let f = filling _ _ _ c.args.bytes.now c.args.out.now l.out l.used l.len r.new.self r.result _ _ v.formed c.loop-used-test.true v.fits (omega arith) v.long v.kept r.ensures in
    omega (arith, f.moves, f.inside)

pub loop-used-preserved : goal.loop-used-preserved
loop-used-preserved c =
    let l = c.loop-used in
    let v = l.invariant in
    let r = c.list_event-listed in
    let f = filling _ _ _ c.args.bytes.now c.args.out.now l.out l.used l.len r.new.self r.result _ _ v.formed c.loop-used-test.true v.fits (omega arith) v.long v.kept r.ensures in
    record { inside = f.inside; fits = f.fits; long = f.long; formed = f.formed; kept = f.kept; same = v.same ∙ f.same }

pub returns : goal.returns
returns c =
    let v = c.loop-used.invariant in
    filling_end _ _ _ _ _ _ _ _ _ _ v.fits v.kept v.same c.loop-used-test.false

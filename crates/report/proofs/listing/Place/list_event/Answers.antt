use Rattle.std.proofs.Common.{rules, arith, refl}
use Rattle.report.specs.ListingLaws.{listed_quiet, listed_event}
use Rattle.report.proofs.listing.Place.list_event.Goals as goal

pub returns-in_default-event : goal.returns-in_default-event
returns-in_default-event c =
    listed_quiet _ _ _ _ _ c.push_bytes.new.self c.in-Ok.fed _ c.requires.formed c.requires.room c.in-Ok.ensures.fed
    (search rules) (search rules)

pub returns : goal.returns
returns c =
    listed_event _ _ _ _ _ c.push_bytes.new.self c.in-Ok.fed c.in-Some.event _ c.requires.formed c.requires.room c.in-Ok.ensures.fed
    c.in-Some.is (search rules) (omega arith) (search rules) c.payload.ensures refl c.write_to.ensures.value c.write_to.ensures.len (search rules)

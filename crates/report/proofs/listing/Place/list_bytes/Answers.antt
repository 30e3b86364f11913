use Rattle.std.proofs.Common.{rules, ◌≡◌, ap, sym, ◌∙◌}
use Rattle.std.specs.Prelude.{Err}
use Rattle.report.specs.Listing.{told_listed}
use Rattle.report.specs.ListingLaws.{listed_refused, refused_some}
use Rattle.report.specs.FilledLaws.{turn_ok}
use Rattle.report.proofs.listing.Place.list_bytes.Goals as goal

pub returns-in_err-admits-clause-exact : goal.returns-in_err-admits-clause-exact
returns-in_err-admits-clause-exact c =
    let e = c.in_err-admits.field-0.0 in
    let r : c.from_residual.result ≡ Err e = search rules in
    ap (λ r. told_listed c.args.self.now r c.args.buf.now c.args.out.now) r
    ∙ sym (listed_refused _ _ _ _ _ _ c.in_err-admits.ensures.number (refused_some e))

pub returns-clause-moves : goal.returns-clause-moves
returns-clause-moves c =
    let p = c.in_ok-admits.ensures.ok in
    turn_ok _ _ _ _ _ _ _ _ _ (record { small = p.0; room = p.1 }) p.2 c.list_event.ensures

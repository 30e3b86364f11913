use Rattle.std.proofs.Common.{rules, ◌≡◌, ap, sym, ◌∙◌}
use Rattle.std.specs.Prelude.{Err}
use Rattle.report.specs.Listing.{told_listed}
use Rattle.report.specs.ListingLaws.{refused_some}
use Rattle.report.specs.FilledLaws.{filled_refused, filled_taken, filled_ok}
use Rattle.report.proofs.listing.Place.list_lines.Goals as goal

pub returns-in_err-admits-clause-exact : goal.returns-in_err-admits-clause-exact
returns-in_err-admits-clause-exact c =
    let e = c.in_err-admits.field-0.0 in
    let r : c.from_residual.result ≡ Err e = search rules in
    ap (λ r. told_listed c.args.self.now r c.args.buf.now c.args.out.now) r
    ∙ sym (filled_refused _ _ _ _ _ _ c.in_err-admits.ensures.number (refused_some e))

pub returns-clause-exact : goal.returns-clause-exact
returns-clause-exact c =
    let p = c.in_ok-admits.ensures.ok in
    c.list_events.ensures ∙ sym (filled_taken _ _ _ _ _ (record { small = p.0; room = p.1 }) p.2)

pub returns-clause-moves : goal.returns-clause-moves
returns-clause-moves c =
    let p = c.in_ok-admits.ensures.ok in
    filled_ok _ _ _ _ _ _ _ _ _ (record { small = p.0; room = p.1 }) p.2 (c.list_events.ensures ∙ sym (filled_taken _ _ _ _ _ (record { small = c.in_ok-admits.ensures.ok.0; room = c.in_ok-admits.ensures.ok.1 }) c.in_ok-admits.ensures.ok.2))

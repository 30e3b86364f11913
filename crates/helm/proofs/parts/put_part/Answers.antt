use Rattle.std.proofs.Common.{ℕ, ap, ◌∙◌, true, false, List}
use Rattle.lists.specs.Format2.{add_supported, add_enabled}
use Rattle.session.specs.ReadingLaws.{put_as}
use Rattle.helm.proofs.parts.put_part.Goals as goal

pub returns-then-starts : goal.returns-then-starts
returns-then-starts c =
    c.add_supported.ensures
    ∙ ap (λ (d : List ℕ). add_supported d c.args.parts.now) c.data_of-content.ensures
    ∙ put_as c.args.payload.now c.args.parts.now true c.starts.ensures c.if-starts.true

pub returns-else-starts : goal.returns-else-starts
returns-else-starts c =
    c.add_enabled.ensures
    ∙ ap (λ (d : List ℕ). add_enabled d c.args.parts.now) c.data_of-content.ensures
    ∙ put_as c.args.payload.now c.args.parts.now false c.starts.ensures c.if-starts.false

-- `framing::decode::Admitted::feed` meets its contract: a run of plain bytes, and then one byte. Assumes nothing.
use Rattle.std.proofs.Common.{sym, ◌∙◌, rules, arith}
use Rattle.framing.specs.FromLaws.{from_start, from_end}
use Rattle.framing.proofs.RunLaws.{runs_on, runs_inside, took_event, took_none}
use Rattle.framing.proofs.decode.Admitted.feed.Goals as goal

pub loop-at-init : goal.loop-at-init
loop-at-init c = (search rules, search rules, from_start _ _)

pub returns-then-is_some-clause-told : goal.returns-then-is_some-clause-told
returns-then-is_some-clause-told c =
    sym
    (c.loop-at.invariant.2
    ∙ runs_on _ _ _ _ _ _ _ c.run-at.ensures.runs
    ∙ took_event _ _ _ _ _ _ c.if-at-bytes.true _ c.take-event.ensures.told (sym c.is_some.ensures ∙ c.if-is_some.true))

pub loop-at-preserved-else-is_some : goal.loop-at-preserved-else-is_some
loop-at-preserved-else-is_some c = (
  search rules,
  search rules,
  c.loop-at.invariant.2
      ∙ runs_on _ _ _ _ _ _ _ c.run-at.ensures.runs
      ∙ took_none _ _ _ _ _ _ c.if-at-bytes.true _ c.take-event.ensures.told (sym c.is_some.ensures ∙ c.if-is_some.false),
)

pub loop-at-preserved : goal.loop-at-preserved
loop-at-preserved c = (
  runs_inside _ _ _ _ _ _ _ c.run-at.ensures.runs (omega arith),
  search rules,
  c.loop-at.invariant.2 ∙ runs_on _ _ _ _ _ _ _ c.run-at.ensures.runs,
)

pub returns-clause-told : goal.returns-clause-told
returns-clause-told c = sym (c.loop-at.invariant.2 ∙ from_end _ _ _ c.loop-at-test.false)

-- `product::with_reply` meets its contract. Assumes nothing.
use Rattle.std.proofs.Common.{arith, refl, ap₂, ◌∙◌}
use Rattle.product.specs.Product.{with_numbers, with_text}
use Rattle.product.proofs.ReplyLaws.{six_told, one_set, text_told, text_refused}
use Rattle.product.proofs.with_reply.Goals as goal

pub returns-in-6 : goal.returns-in-6
returns-in-6 c = six_told c.args.info c.args.sequence c.args.«data».now c.all_in.result c.in-6.is (omega arith) c.all_in.ensures

pub returns-in-1 : goal.returns-in-1
returns-in-1 c =
    one_set c.args.info c.args.sequence c.args.«data».now _ c.in-1.is (omega arith)
    (c.with_numbers.ensures ∙ ap₂ (with_numbers c.args.info) c.u16_at.ensures c.u16_at-in-1.ensures)

pub returns-in_err-text_at-in-2 : goal.returns-in_err-text_at-in-2
returns-in_err-text_at-in-2 c =
    text_refused c.args.info c.args.sequence c.args.«data».now c.from_residual.result _ (omega arith) (omega arith) (omega arith)
    c.from_residual.ensures.1 c.in_err-text_at-in-2.ensures.exact

pub returns-in_ok-text_at-in-2 : goal.returns-in_ok-text_at-in-2
unfolding with_text
returns-in_ok-text_at-in-2 c =
    text_told c.args.info c.args.sequence c.args.«data».now _ c.in_ok-text_at-in-2.field-0 (omega arith) (omega arith) (omega arith)
    c.in_ok-text_at-in-2.ensures.exact (rw c.in-2.is refl)

pub returns-in_err-text_at-in-3 : goal.returns-in_err-text_at-in-3
returns-in_err-text_at-in-3 c =
    text_refused c.args.info c.args.sequence c.args.«data».now c.from_residual-in_err-text_at-in-3.result _ (omega arith) (omega arith) (omega arith)
    c.from_residual-in_err-text_at-in-3.ensures.1 c.in_err-text_at-in-3.ensures.exact

pub returns-in_ok-text_at-in-3 : goal.returns-in_ok-text_at-in-3
unfolding with_text
returns-in_ok-text_at-in-3 c =
    text_told c.args.info c.args.sequence c.args.«data».now _ c.in_ok-text_at-in-3.field-0 (omega arith) (omega arith) (omega arith)
    c.in_ok-text_at-in-3.ensures.exact (rw c.in-3.is refl)

pub returns-in_err-text_at-in-4 : goal.returns-in_err-text_at-in-4
returns-in_err-text_at-in-4 c =
    text_refused c.args.info c.args.sequence c.args.«data».now c.from_residual-in_err-text_at-in-4.result _ (omega arith) (omega arith) (omega arith)
    c.from_residual-in_err-text_at-in-4.ensures.1 c.in_err-text_at-in-4.ensures.exact

pub returns-in_ok-text_at-in-4 : goal.returns-in_ok-text_at-in-4
unfolding with_text
returns-in_ok-text_at-in-4 c =
    text_told c.args.info c.args.sequence c.args.«data».now _ c.in_ok-text_at-in-4.field-0 (omega arith) (omega arith) (omega arith)
    c.in_ok-text_at-in-4.ensures.exact (rw c.in-4.is refl)

pub returns-in_err-text_at-in-5 : goal.returns-in_err-text_at-in-5
returns-in_err-text_at-in-5 c =
    text_refused c.args.info c.args.sequence c.args.«data».now c.from_residual-in_err-text_at-in-5.result _ (omega arith) (omega arith) (omega arith)
    c.from_residual-in_err-text_at-in-5.ensures.1 c.in_err-text_at-in-5.ensures.exact

pub returns-in_ok-text_at-in-5 : goal.returns-in_ok-text_at-in-5
unfolding with_text
returns-in_ok-text_at-in-5 c =
    text_told c.args.info c.args.sequence c.args.«data».now _ c.in_ok-text_at-in-5.field-0 (omega arith) (omega arith) (omega arith)
    c.in_ok-text_at-in-5.ensures.exact (rw c.in-5.is refl)

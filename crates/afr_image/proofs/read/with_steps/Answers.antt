-- Too many steps, a step that no line can have, or the image.
use Rattle.std.proofs.Common.{◌≡◌, ◌+◌, ◌-◌, Err, length, ap, sym, ◌∙◌, arith}
use Rattle.afr_image.proofs.ReadLemmas.{read_whole, refused_over, steps_stopped}
use Rattle.afr_image.proofs.read.with_steps.Goals as goal

pub returns-then-is_over : goal.returns-then-is_over
returns-then-is_over c =
    let at : c.place_of-steps_at.result - 4 ≡ 12 + length c.args.frame.now.text.now = omega (arith, c.place_of-steps_at.ensures, c.requires.framed.long) in
    refused_over c.args.most c.args.bytes.now c.args.frame.now.text.now c.args.frame.now.count c.args.frame.now.steps.now c.args.plan (c.place_of-steps_at.result - 4) c.requires.framed c.requires.text at (sym c.is_over.ensures ∙ c.if-is_over.true)

pub returns-in-Ok : goal.returns-in-Ok
returns-in-Ok c =
    let first : c.place_of-steps_at.result ≡ 16 + length c.args.frame.now.text.now = omega (arith, c.place_of-steps_at.ensures, c.requires.framed.long) in
    read_whole c.args.most c.args.bytes.now c.args.frame.now.text.now c.args.frame.now.count c.args.frame.now.steps.now c.args.plan c.place_of-steps_at.result c.in-Ok.steps c.requires.framed c.requires.text first (sym c.is_over.ensures ∙ c.if-is_over.false) c.in-Ok.ensures.good c.in-Ok.ensures.steps

pub returns-in-Err : goal.returns-in-Err
returns-in-Err c =
    let first : c.place_of-steps_at.result ≡ 16 + length c.args.frame.now.text.now = omega (arith, c.place_of-steps_at.ensures, c.requires.framed.long) in
    steps_stopped c.args.most c.args.bytes.now c.args.frame.now.text.now c.args.frame.now.count c.args.frame.now.steps.now c.args.plan c.place_of-steps_at.result c.in-Err.stop c.requires.framed c.requires.text first (sym c.is_over.ensures ∙ c.if-is_over.false) (λ fault e. c.in-Err.ensures.refused fault (ap Err e))
